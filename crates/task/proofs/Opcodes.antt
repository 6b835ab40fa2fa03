-- The opcodes of an accepted program: 1 to 15, and of version 2 also 16 and 17. 13, 14 and 15 alone are last in a block.
use mathlib.Core.Path.{◌≡◌, refl}
use mathlib.Core.Bool.{Bool, true, false, not, cond}
use mathlib.Core.Option.{Option, none, some}
use Prim.Native.Nat.{ℕ, ◌<◌, ◌≤◌}
use native.Mathlib.Omega.{arith}
use lib.Dec.{eqb}
use lib.ListN.{get_or, get_or-eq_default}
use borrow.Author.Tests.{eqb-true, not-true}
use Rattle.facts.proofs.Tests.{clash}
use Rattle.image.specs.Questions.{same, last_opcode, ends_block}
use Rattle.task.specs.Effect.{Op, move, plus, minus, times, divide, modulo, less, equal, word, if_jump, jralloc, fork, jump, halt, meet, push, pop, unknown, opcodes}
use Rattle.task.specs.Formed.{every}
use Rattle.task.proofs.EveryLaws.{every-at}

-- whether an instruction is last in its block; none for what is no instruction
abbrev pub lasts : Op → Option Bool
lasts move = some false
lasts plus = some false
lasts minus = some false
lasts times = some false
lasts divide = some false
lasts modulo = some false
lasts less = some false
lasts equal = some false
lasts word = some false
lasts if_jump = some false
lasts jralloc = some false
lasts fork = some false
lasts jump = some true
lasts halt = some true
lasts meet = some true
lasts push = some false
lasts pop = some false
lasts unknown = none

abbrev agrees : ℕ → Option Bool → Bool
agrees n none = eqb n 0
agrees n (some b) = same b (ends_block n)

opcodes-agree : every (λ n. agrees n (lasts (get_or opcodes n unknown))) 18 0 ≡ true
unfolding every
opcodes-agree = refl

most_opcode : (version : ℕ) → last_opcode version ≤ 17
most_opcode version = go (eqb version 2)
  where
    go : (t : Bool) → cond t 17 15 ≤ 17
    go true = omega arith
    go false = omega arith

-- what an instruction of an accepted program has after it
abbrev pub After : Type 0 → Option Bool → Type 0
After next none = ⊥
After next (some true) = Unit {0}
After next (some false) = next

after-by : (next : Type 0) (n : ℕ) (l : Option Bool) → 1 ≤ n → (ends_block n ≡ false → next) → agrees n l ≡ true → After next l
after-by next n none least h e = absurd (omega (arith, eqb-true n 0 e))
after-by next n (some true) least h e = tt
after-by next n (some false) least h e = go (ends_block n) refl e
  where
    go : (t : Bool) → ends_block n ≡ t → same false t ≡ true → next
    go true t e = clash e refl
    go false t e = h t

pub after : (next : Type 0) (version n : ℕ) → 1 ≤ n → n ≤ last_opcode version → (ends_block n ≡ false → next)
    → After next (lasts (get_or opcodes n unknown))
after next version n least most h =
    let few = most_opcode version in
    after-by next n (lasts (get_or opcodes n unknown)) least h
    (every-at (λ n. agrees n (lasts (get_or opcodes n unknown))) 18 0 opcodes-agree n (omega arith) (omega arith))

-- ---- what version 2 alone has

abbrev pub is_second : Op → Bool
is_second move = false
is_second plus = false
is_second minus = false
is_second times = false
is_second divide = false
is_second modulo = false
is_second less = false
is_second equal = false
is_second word = false
is_second if_jump = false
is_second jralloc = false
is_second fork = false
is_second jump = false
is_second halt = false
is_second meet = false
is_second push = true
is_second pop = true
is_second unknown = false

first-fifteen : every (λ n. not (is_second (get_or opcodes n unknown))) 16 0 ≡ true
unfolding every
first-fifteen = refl

-- an accepted program with such an instruction is of version 2
pub second : (version n : ℕ) → n ≤ last_opcode version → is_second (get_or opcodes n unknown) ≡ true → version ≡ 2
second version n most e = go (eqb version 2) refl most
  where
    go : (t : Bool) → eqb version 2 ≡ t → n ≤ cond t 17 15 → version ≡ 2
    go true t most = eqb-true version 2 t
    go false t most =
        clash e (not-true _ (every-at (λ n. not (is_second (get_or opcodes n unknown))) 16 0 first-fifteen n (omega arith) (omega arith)))

-- ---- no other number is an instruction's
pub no-opcode : (n : ℕ) → 17 < n → get_or opcodes n unknown ≡ unknown
no-opcode n h = get_or-eq_default opcodes unknown {n = n} (omega arith)
