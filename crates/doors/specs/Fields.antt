-- Which fields each opcode has is one fixed table: images of one instruction for each opcode and field (question 8).
use Rattle.std.specs.Prelude.{Bool, cond, ◌&&◌, List, [], ◌∷◌, ◌++◌, ℕ, eqb, leb, replicate}
use Rattle.doors.specs.Doors.{Asked, ◌gets◌}

pub data Field : Type 0 where
  has lacks : Field

-- jump, halt and join are the last of their block
abbrev pub is_last : ℕ → Bool
is_last opcode = leb 13 opcode && leb opcode 15

-- an image of one block: one instruction with operand 0, and a halt after it unless it is itself the last
abbrev pub single_of : ℕ → ℕ → ℕ → ℕ → ℕ → List ℕ
single_of version opcode r s kind =
    84 ∷ 80 ∷ 66 ∷ version ∷ 0 ∷ 1 ∷ cond (is_last opcode) 1 2 ∷ 0
    ∷ replicate (cond (eqb version 2) 14 10) 0 ++ (opcode ∷ r ∷ s ∷ kind ∷ replicate 8 0 ++ cond (is_last opcode) [] (14 ∷ replicate 11 0))

-- of version 1
abbrev pub single : ℕ → ℕ → ℕ → ℕ → List ℕ
single opcode r s kind = single_of 1 opcode r s kind

abbrev pub kind_of : Field → ℕ
kind_of has = 3
kind_of lacks = 0

abbrev pub wrong_kind : Field → ℕ
wrong_kind has = 0
wrong_kind lacks = 3

abbrev pub if_lacks : Field → ℕ
if_lacks has = 0
if_lacks lacks = 8

-- zeros; r 15; s 15; and v where there is none, or none where there is
abbrev pub fielded_of : ℕ → ℕ → Field → Field → Field → List Asked
fielded_of version opcode r s v =
    single_of version opcode 0 0 (kind_of v) gets 0
    ∷ single_of version opcode 15 0 (kind_of v) gets if_lacks r
    ∷ single_of version opcode 0 15 (kind_of v) gets if_lacks s
    ∷ single_of version opcode 0 0 (wrong_kind v) gets 8
    ∷ []

abbrev pub fielded : ℕ → Field → Field → Field → List Asked
fielded opcode r s v = fielded_of 1 opcode r s v

unfoldable pub fields : List Asked
fields =
    -- r := v
    fielded 1 has lacks has
    -- r := s op v
    ++ fielded 2 has has has
    ++ fielded 3 has has has
    ++ fielded 4 has has has
    ++ fielded 5 has has has
    ++ fielded 6 has has has
    ++ fielded 7 has has has
    ++ fielded 8 has has has
    -- r := word v
    ++ fielded 9 has lacks has
    -- if-jump s, v
    ++ fielded 10 lacks has has
    -- r := jralloc v
    ++ fielded 11 has lacks has
    -- fork s, v
    ++ fielded 12 lacks has has
    -- jump v, halt, join v
    ++ fielded 13 lacks lacks has
    ++ fielded 14 lacks lacks lacks
    ++ fielded 15 lacks lacks has
    -- r 16, s 16; opcodes 0 and 255; push and pop, which version 1 has not
    ++ (single 2 16 0 3 gets 8 ∷ single 2 0 16 3 gets 8 ∷ single 0 0 0 0 gets 8 ∷ single 255 0 0 0 gets 8
    ∷ single 16 0 0 3 gets 8 ∷ single 17 0 0 0 gets 8 ∷ [])
    -- version 2: push v, pop r
    ++ fielded_of 2 16 lacks lacks has
    ++ fielded_of 2 17 has lacks lacks
    -- and what version 1 has: one of each row
    ++ fielded_of 2 2 has has has
    ++ fielded_of 2 12 lacks has has
    ++ fielded_of 2 14 lacks lacks lacks
    -- r 16; opcodes 0, 18 and 255
    ++ (single_of 2 17 16 0 0 gets 8 ∷ single_of 2 0 0 0 0 gets 8 ∷ single_of 2 18 0 0 0 gets 8 ∷ single_of 2 18 0 0 3 gets 8 ∷ single_of 2 255 0 0 0 gets 8 ∷ [])
