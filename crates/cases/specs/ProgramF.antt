-- Program F, as a listing and as its 156 bytes, and the programs that differ from it in a side.
use Rattle.std.specs.Prelude.{List, [], ◌∷◌, ℕ, pos}
use Rattle.image.specs.declared.Instruction.{Instruction}
use Rattle.cases.specs.Assembly.{Listed, block, none, target, assoc, ◌to◌, reg, label, int, move, plus, divide, word, jralloc, fork, halt, join}

-- F with the parent's sum and the child's block left open
unfoldable pub forking : Instruction → List Instruction → List Listed
forking sum child =
    block none (jralloc 1 (label 2) ∷ fork 1 (label 1) ∷ sum ∷ join (reg 1) ∷ [])
    ∷ block none child
    ∷ block (target assoc ((0 to 2) ∷ []) 3) (halt ∷ [])
    ∷ block none (plus 0 0 (reg 2) ∷ join (reg 1) ∷ [])
    ∷ []

unfoldable pub program_f : List Listed
program_f = forking (plus 0 0 (int (pos 1))) (move 0 (int (pos 7)) ∷ join (reg 1) ∷ [])

-- its image: the header, four block records, nine instruction records
unfoldable pub image_f : List ℕ
image_f =
    84 ∷ 80 ∷ 66 ∷ 1 ∷ 0 ∷ 4 ∷ 9 ∷ 0
    ∷ 0 ∷ 0 ∷ 0 ∷ 0 ∷ 0 ∷ 0 ∷ 0 ∷ 0 ∷ 0 ∷ 0
    ∷ 4 ∷ 0 ∷ 0 ∷ 0 ∷ 0 ∷ 0 ∷ 0 ∷ 0 ∷ 0 ∷ 0
    ∷ 6 ∷ 0 ∷ 2 ∷ 0 ∷ 3 ∷ 1 ∷ 2 ∷ 0 ∷ 0 ∷ 0
    ∷ 7 ∷ 0 ∷ 0 ∷ 0 ∷ 0 ∷ 0 ∷ 0 ∷ 0 ∷ 0 ∷ 0
    ∷ 11 ∷ 1 ∷ 0 ∷ 2 ∷ 2 ∷ 0 ∷ 0 ∷ 0 ∷ 0 ∷ 0 ∷ 0 ∷ 0
    ∷ 12 ∷ 0 ∷ 1 ∷ 2 ∷ 1 ∷ 0 ∷ 0 ∷ 0 ∷ 0 ∷ 0 ∷ 0 ∷ 0
    ∷ 2 ∷ 0 ∷ 0 ∷ 3 ∷ 1 ∷ 0 ∷ 0 ∷ 0 ∷ 0 ∷ 0 ∷ 0 ∷ 0
    ∷ 15 ∷ 0 ∷ 0 ∷ 1 ∷ 1 ∷ 0 ∷ 0 ∷ 0 ∷ 0 ∷ 0 ∷ 0 ∷ 0
    ∷ 1 ∷ 0 ∷ 0 ∷ 3 ∷ 7 ∷ 0 ∷ 0 ∷ 0 ∷ 0 ∷ 0 ∷ 0 ∷ 0
    ∷ 15 ∷ 0 ∷ 0 ∷ 1 ∷ 1 ∷ 0 ∷ 0 ∷ 0 ∷ 0 ∷ 0 ∷ 0 ∷ 0
    ∷ 14 ∷ 0 ∷ 0 ∷ 0 ∷ 0 ∷ 0 ∷ 0 ∷ 0 ∷ 0 ∷ 0 ∷ 0 ∷ 0
    ∷ 2 ∷ 0 ∷ 0 ∷ 1 ∷ 2 ∷ 0 ∷ 0 ∷ 0 ∷ 0 ∷ 0 ∷ 0 ∷ 0
    ∷ 15 ∷ 0 ∷ 0 ∷ 1 ∷ 1 ∷ 0 ∷ 0 ∷ 0 ∷ 0 ∷ 0 ∷ 0 ∷ 0
    ∷ []

-- word 0 of an empty record for the sum, a division by 0 for the child's move
unfoldable pub two_faults : List Listed
two_faults = forking (word 0 (int (pos 0))) (divide 0 0 (int (pos 0)) ∷ join (reg 1) ∷ [])

-- the child halts
unfoldable pub halt_in_side : List Listed
halt_in_side = forking (plus 0 0 (int (pos 1))) (halt ∷ [])
