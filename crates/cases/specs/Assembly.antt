-- An image written as a listing: blocks with their annotations, and instructions, in document 01's words.
use Rattle.std.specs.Prelude.{List, [], ◌∷◌, ◌++◌, ℕ, ◌+◌, ◌*◌, ℤ, length}
use Rattle.int64.specs.Little.{bytes_of}
use Rattle.int64.specs.Wrapped.{residue}
use Rattle.image.specs.declared.Block.{Block}
use Rattle.image.specs.declared.Instruction.{Instruction}
use Rattle.image.specs.Layout.{mark, block_bytes, instruction_bytes}

infixl 20 ◌to◌
-- ---- Instructions

-- an operand v is a register, a label or an integer literal
pub data Operand : Type 0 where
  reg : ℕ → Operand
  label : ℕ → Operand
  int : ℤ → Operand

abbrev pub kind_of : Operand → ℕ
kind_of (reg n) = 1
kind_of (label b) = 2
kind_of (int z) = 3

-- its 64 bits; an integer's in two's complement
abbrev pub bits_of : Operand → ℕ
bits_of (reg n) = n
bits_of (label b) = b
bits_of (int z) = residue z

-- the opcode and its r, s and v
abbrev pub instruction : ℕ → ℕ → ℕ → Operand → Instruction
instruction opcode r s v = record { opcode = opcode; r = r; s = s; kind = kind_of v; operand = bits_of v }

-- r := v
abbrev pub move : ℕ → Operand → Instruction
move r v = instruction 1 r 0 v

-- r := s op v
abbrev pub plus : ℕ → ℕ → Operand → Instruction
plus r s v = instruction 2 r s v

abbrev pub minus : ℕ → ℕ → Operand → Instruction
minus r s v = instruction 3 r s v

abbrev pub divide : ℕ → ℕ → Operand → Instruction
divide r s v = instruction 5 r s v

abbrev pub modulo : ℕ → ℕ → Operand → Instruction
modulo r s v = instruction 6 r s v

abbrev pub less : ℕ → ℕ → Operand → Instruction
less r s v = instruction 7 r s v

-- r := word v
abbrev pub word : ℕ → Operand → Instruction
word r v = instruction 9 r 0 v

-- if-jump s, v
abbrev pub if_jump : ℕ → Operand → Instruction
if_jump s v = instruction 10 0 s v

-- r := jralloc v
abbrev pub jralloc : ℕ → Operand → Instruction
jralloc r v = instruction 11 r 0 v

-- fork s, v
abbrev pub fork : ℕ → Operand → Instruction
fork s v = instruction 12 0 s v

abbrev pub jump : Operand → Instruction
jump v = instruction 13 0 0 v

abbrev pub halt : Instruction
halt = record { opcode = 14; r = 0; s = 0; kind = 0; operand = 0 }

abbrev pub join : Operand → Instruction
join v = instruction 15 0 0 v

-- version 2: push v, pop r
abbrev pub push : Operand → Instruction
push v = instruction 16 0 0 v

abbrev pub pop : ℕ → Instruction
pop r = record { opcode = 17; r = r; s = 0; kind = 0; operand = 0 }

-- ---- Blocks

-- a pair: the child's register, and the target that it is copied to
pub data Pair : Type 0 where
  ◌to◌ : ℕ → ℕ → Pair

pub data Policy : Type 0 where
  assoc assoc_comm : Policy

pub data Annotation : Type 0 where
  none : Annotation
  -- promotion-ready, with its handler block
  ready : ℕ → Annotation
  -- join target: policy, pairs in rising order of target, combining block
  target : Policy → List Pair → ℕ → Annotation

pub data Listed : Type 0 where
  block : Annotation → List Instruction → Listed

abbrev pub policy_of : Policy → ℕ
policy_of assoc = 0
policy_of assoc_comm = 1

-- the first pair in the low eight bits
abbrev pub packed_of : List Pair → ℕ
packed_of [] = 0
packed_of ((child to register) ∷ pairs) = 16 * child + register + 256 * packed_of pairs

-- the block record, given the block's first instruction
abbrev pub record_of : ℕ → Annotation → Block
record_of first none = record { first = first; annotation = 0; policy = 0; label = 0; pairs = 0; packed = 0 }
record_of first (ready handler) = record { first = first; annotation = 1; policy = 0; label = handler; pairs = 0; packed = 0 }
record_of first (target policy pairs combining) =
    record { first = first; annotation = 2; policy = policy_of policy; label = combining; pairs = length pairs; packed = packed_of pairs }

-- ---- The image, of version 1 or 2

-- all instructions, block after block
abbrev pub all_code : List Listed → List Instruction
all_code [] = []
all_code (block _ code ∷ blocks) = code ++ all_code blocks

abbrev pub code_bytes : List Instruction → List ℕ
code_bytes [] = []
code_bytes (x ∷ code) = instruction_bytes x ++ code_bytes code

-- the block records, the first of which starts at an instruction
abbrev pub records_from : ℕ → ℕ → List Listed → List ℕ
records_from version first [] = []
records_from version first (block note code ∷ blocks) =
    block_bytes version (record_of first note) ++ records_from version (first + length code) blocks

unfoldable pub assembled : ℕ → List Listed → List ℕ
assembled version blocks =
    mark
    ++ (bytes_of 2 version
    ++ (bytes_of 1 (length blocks)
    ++ (bytes_of 2 (length (all_code blocks)) ++ (records_from version 0 blocks ++ code_bytes (all_code blocks)))))
