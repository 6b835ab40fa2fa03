-- 002's Figure 2, parallel form: c := a * b, by adding b to r as often as a says. Blocks, registers and instructions as they stand there.
use Rattle.std.specs.Prelude.{List, [], ◌∷◌, ℕ, pos}
use Rattle.cases.specs.Assembly.{Listed, block, none, ready, target, assoc_comm, ◌to◌, reg, label, int, move, plus, minus, divide, modulo, less, if_jump, jralloc, fork, jump, halt, join}

-- ---- Registers

abbrev pub a : ℕ
a = 0

abbrev pub b : ℕ
b = 1

abbrev pub c : ℕ
c = 2

abbrev pub r : ℕ
r = 3

abbrev pub r2 : ℕ
r2 = 4

abbrev pub t : ℕ
t = 5

abbrev pub m : ℕ
m = 6

abbrev pub n : ℕ
n = 7

abbrev pub tr : ℕ
tr = 8

abbrev pub jr : ℕ
jr = 9

-- ---- Labels; prod is block 0

abbrev pub exit : ℕ
exit = 1

abbrev pub loop : ℕ
loop = 2

abbrev pub loop_try_promote : ℕ
loop_try_promote = 3

abbrev pub loop_par_try_promote : ℕ
loop_par_try_promote = 4

abbrev pub loop_promote : ℕ
loop_promote = 5

abbrev pub loop_par : ℕ
loop_par = 6

abbrev pub comb : ℕ
comb = 7

abbrev pub exit_par : ℕ
exit_par = 8

-- ---- Blocks

unfoldable pub product : List Listed
product =
    -- prod
    block none (move r (int (pos 0)) ∷ jump (label loop) ∷ [])
    -- exit
    ∷ block (target assoc_comm ((r to r2) ∷ []) comb) (move c (reg r) ∷ halt ∷ [])
    -- loop
    ∷ block (ready loop_try_promote) (if_jump a (label exit) ∷ plus r r (reg b) ∷ minus a a (int (pos 1)) ∷ jump (label loop) ∷ [])
    -- loop-try-promote
    ∷ block none (less t a (int (pos 2)) ∷ if_jump t (label loop) ∷ jralloc jr (label exit) ∷ jump (label loop_promote) ∷ [])
    -- loop-par-try-promote
    ∷ block none (less t a (int (pos 2)) ∷ if_jump t (label loop_par) ∷ jump (label loop_promote) ∷ [])
    -- loop-promote
    ∷ block none
    (divide m a (int (pos 2)) ∷ modulo n a (int (pos 2)) ∷ move a (reg m)
    ∷ move tr (reg r) ∷ move r (int (pos 0))
    ∷ fork jr (label loop_par)
    ∷ plus a m (reg n) ∷ move r (reg tr)
    ∷ jump (label loop_par) ∷ [])
    -- loop-par
    ∷ block (ready loop_par_try_promote)
    (if_jump a (label exit_par) ∷ plus r r (reg b) ∷ minus a a (int (pos 1)) ∷ jump (label loop_par) ∷ [])
    -- comb
    ∷ block none (plus r r (reg r2) ∷ join (reg jr) ∷ [])
    -- exit-par
    ∷ block none (join (reg jr) ∷ [])
    ∷ []
