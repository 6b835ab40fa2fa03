-- The questions put to a program, 3, 4 and 6 to 9: the first no decides. An answer is 0, or the number of the question that was answered with no.
use Rattle.std.specs.Prelude.{Bool, true, false, not, cond, ◌&&◌, ◌||◌, List, [], ◌∷◌, ℕ, zero, suc, ◌+◌, ◌-◌, ◌/◌, ◌%◌, length, get_or, eqb, ltb, leb}
use Rattle.image.specs.declared.Block.{Block}
use Rattle.image.specs.declared.Instruction.{Instruction}
use Rattle.image.specs.Program.{Program}
use Rattle.image.specs.Layout.{most_pairs, block_cell, instruction_cell, program_of}

-- the answer n where the test fails, else the answer after it
abbrev pub ask : Bool → ℕ → ℕ → ℕ
ask true n after = after
ask false n after = n

-- the first answer, or the second where that was 0
unfoldable pub or_else : ℕ → ℕ → ℕ
or_else a b = cond (eqb a 0) b a

-- the first answer of f at i, i + 1, .. (n of them) that is not 0, or 0
unfoldable pub first_no : (ℕ → ℕ) → ℕ → ℕ → ℕ
first_no f zero i = 0
first_no f (suc n) i = or_else (f i) (first_no f n (i + 1))

-- version 1 or 2? (3)
unfoldable pub version_no : ℕ → ℕ
version_no version = ask (leb 1 version && leb version 2) 3 0

abbrev pub most_blocks : ℕ
most_blocks = 128

abbrev pub most_instructions : ℕ
most_instructions = 1024

-- B in 1 to 128 and I in 1 to 1,024? (4)
unfoldable pub counts_no : ℕ → ℕ → ℕ
counts_no blocks instructions =
    ask (leb 1 blocks && (leb blocks most_blocks && (leb 1 instructions && leb instructions most_instructions))) 4 0

-- ---- blocks

-- does block 0 start at 0, a later one after its predecessor, all below I? (6)
abbrev pub in_order : ℕ → ℕ → ℕ → ℕ → Bool
in_order instructions b before first = ltb first instructions && cond (eqb b 0) (eqb first 0) (ltb before first)

-- n pair bytes in strictly rising order of target (the low four bits), and nothing after them
unfoldable pub rising : ℕ → ℕ → Bool
rising zero bytes = eqb bytes 0
rising (suc zero) bytes = ltb bytes 256
rising (suc (suc n)) bytes = ltb (bytes % 16) (bytes / 256 % 16) && rising (suc n) (bytes / 256)

-- policy and pairs belong to annotation 2 only
unfoldable pub unjoined : Block → Bool
unjoined k = eqb k.policy 0 && (eqb k.pairs 0 && eqb k.packed 0)

-- policy 0 or 1, no more pairs than the version has
unfoldable pub joined : ℕ → Block → Bool
joined version k = leb k.policy 1 && (leb k.pairs (most_pairs version) && rising k.pairs k.packed)

-- is the annotation as laid out, label below B? (7) Annotation 0 none, 1 promotion-ready, 2 join target
unfoldable pub annotated : ℕ → ℕ → Block → Bool
annotated version blocks k =
    cond (eqb k.annotation 0) (eqb k.label 0 && unjoined k)
    (ltb k.label blocks && cond (eqb k.annotation 1) (unjoined k) (eqb k.annotation 2 && joined version k))

-- block b of a program: 6, then 7
abbrev pub program_block_no : Program → ℕ → ℕ
program_block_no p b =
    ask (in_order p.instructions b (p.block (b - 1)).first (p.block b).first) 6
    (ask (annotated p.version p.blocks (p.block b)) 7 0)

-- a block that a short buffer lacks is a no to 6
unfoldable pub block_no : List ℕ → ℕ → ℕ
block_no cells b = ask (leb (block_cell b + 6) (length cells)) 6 (program_block_no (program_of cells) b)

-- ---- instructions

-- the last opcode: 16 and 17 are version 2's
abbrev pub last_opcode : ℕ → ℕ
last_opcode version = cond (eqb version 2) 17 15

-- 13, 14 and 15 end a block
abbrev pub ends_block : ℕ → Bool
ends_block opcode = leb 13 opcode && leb opcode 15

-- which fields each opcode has: seventeen rows of three flags
abbrev pub has_r : ℕ
has_r = 4

abbrev pub has_s : ℕ
has_s = 2

abbrev pub has_v : ℕ
has_v = 1

abbrev pub fields : List ℕ
fields =
    (has_r + has_v)  -- 1 r := v
    ∷ (has_r + has_s + has_v)  -- 2 r := s + v
    ∷ (has_r + has_s + has_v)  -- 3 r := s - v
    ∷ (has_r + has_s + has_v)  -- 4 r := s * v
    ∷ (has_r + has_s + has_v)  -- 5 r := s / v
    ∷ (has_r + has_s + has_v)  -- 6 r := s % v
    ∷ (has_r + has_s + has_v)  -- 7 r := s < v
    ∷ (has_r + has_s + has_v)  -- 8 r := s = v
    ∷ (has_r + has_v)  -- 9 r := word v
    ∷ (has_s + has_v)  -- 10 if-jump s, v
    ∷ (has_r + has_v)  -- 11 r := jralloc v
    ∷ (has_s + has_v)  -- 12 fork s, v
    ∷ has_v  -- 13 jump v
    ∷ 0  -- 14 halt
    ∷ has_v  -- 15 join v
    ∷ has_v  -- 16 push v
    ∷ has_r  -- 17 pop r
    ∷ []

abbrev pub has : ℕ → ℕ → ℕ
has opcode field = get_or fields (opcode - 1) 0 / field % 2

-- a register number 0 to 15, or 0 where the opcode has none
unfoldable pub register : ℕ → ℕ → Bool
register has x = cond (eqb has 0) (eqb x 0) (leb x 15)

-- kind 1 a register 0 to 15, 2 a label below B, 3 an integer; kind and operand 0 where the opcode has no v
unfoldable pub operand_fits : ℕ → ℕ → ℕ → ℕ → Bool
operand_fits blocks has kind operand =
    cond (eqb has 0) (eqb kind 0 && eqb operand 0)
    (cond (eqb kind 1) (leb operand 15) (cond (eqb kind 2) (ltb operand blocks) (eqb kind 3)))

-- are opcode, registers, labels and zeros as laid out? (8) The opcodes are 1 to the version's last
unfoldable pub laid_out : ℕ → ℕ → Instruction → Bool
laid_out opcodes blocks x =
    leb 1 x.opcode
    && (leb x.opcode opcodes
    && (register (has x.opcode has_r) x.r
    && (register (has x.opcode has_s) x.s && operand_fits blocks (has x.opcode has_v) x.kind x.operand)))

-- does one of the first n blocks start at instruction i?
unfoldable pub starts_at : Program → ℕ → ℕ → Bool
starts_at p zero i = false
starts_at p (suc n) i = eqb (p.block n).first i || starts_at p n i

-- the next instruction starts a block, or there is none
unfoldable pub last_in_block : Program → ℕ → Bool
last_in_block p i = eqb (i + 1) p.instructions || starts_at p p.blocks (i + 1)

abbrev pub same : Bool → Bool → Bool
same true b = b
same false b = not b

-- instruction i of a program: 8, then is it opcode 13, 14 or 15 exactly when last in its block? (9)
abbrev pub program_instruction_no : Program → ℕ → ℕ
program_instruction_no p i =
    ask (laid_out (last_opcode p.version) p.blocks (p.instruction i)) 8
    (ask (same (ends_block (p.instruction i).opcode) (last_in_block p i)) 9 0)

-- an instruction that a short buffer lacks is a no to 8
unfoldable pub instruction_no : List ℕ → ℕ → ℕ
instruction_no cells i = ask (leb (instruction_cell i + 5) (length cells)) 8 (program_instruction_no (program_of cells) i)

-- ---- a program

-- for each block 6 then 7, then for each instruction 8 then 9
unfoldable pub records_no : List ℕ → ℕ
records_no cells =
    or_else (first_no (block_no cells) (program_of cells).blocks 0) (first_no (instruction_no cells) (program_of cells).instructions 0)

-- 3, 4 and 6 to 9
unfoldable pub program_no : List ℕ → ℕ
program_no cells =
    or_else (version_no (program_of cells).version)
    (or_else (counts_no (program_of cells).blocks (program_of cells).instructions) (records_no cells))
