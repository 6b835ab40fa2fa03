-- Programs of version 2: a subroutine called twice, a child that pops, and pushes in a row.
use Rattle.std.specs.Prelude.{List, [], ◌∷◌, ◌++◌, ℕ, pos, replicate}
use Rattle.cases.specs.Assembly.{Listed, block, none, target, assoc, ◌to◌, reg, label, int, plus, jralloc, fork, jump, halt, join, push, pop}

-- block 3 doubles r0; its caller pushes the label to come back to. r0 as it was is pushed first, and popped last
unfoldable pub calling : List Listed
calling =
    block none (push (reg 0) ∷ push (label 1) ∷ jump (label 3) ∷ [])
    ∷ block none (push (label 2) ∷ jump (label 3) ∷ [])
    ∷ block none (pop 2 ∷ halt ∷ [])
    ∷ block none (plus 0 0 (reg 0) ∷ pop 1 ∷ jump (reg 1) ∷ [])
    ∷ []

-- 5 is pushed before the fork, and both sides pop
unfoldable pub pop_in_sides : List Listed
pop_in_sides =
    block none (push (int (pos 5)) ∷ jralloc 1 (label 2) ∷ fork 1 (label 1) ∷ pop 0 ∷ join (reg 1) ∷ [])
    ∷ block none (pop 0 ∷ join (reg 1) ∷ [])
    ∷ block (target assoc ((0 to 2) ∷ []) 3) (halt ∷ [])
    ∷ block none (plus 0 0 (reg 2) ∷ join (reg 1) ∷ [])
    ∷ []

-- n pushes, and halt
unfoldable pub pushing : ℕ → List Listed
pushing n = block none (replicate n (push (reg 0)) ++ (halt ∷ [])) ∷ []
