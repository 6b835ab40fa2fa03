-- The decoded program: four numbers for each instruction.
use Rattle.std.specs.Prelude.{◌≡◌, List, ℕ, ◌+◌, ◌*◌, ◌<◌, ◌≤◌, length, get_or}
use Rattle.image.specs.declared.Instruction.{Instruction}
use Rattle.image.specs.Layout.{instruction_count, block_of, instruction_of}

-- a jump or if-jump to a label whose block is not promotion-ready: in place of the label the block's first place in the decoded code
pub record Plain (cells : List ℕ) (x : Instruction) (arm v : ℕ) : Type 0 where
  pub plain_arm : arm ≡ 128 + (x.opcode + 32 * x.kind)
  pub to_label : x.kind ≡ 2
  pub is_jump : (x.opcode ≡ 10 → ⊥) → x.opcode ≡ 13
  pub unready : (block_of cells x.operand).annotation ≡ 1 → ⊥
  pub its_first : v ≡ 4 * (block_of cells x.operand).first

-- the number of the arm by opcode and operand kind, and the operand; or such a jump
pub record Armed (cells : List ℕ) (x : Instruction) (arm v : ℕ) : Type 0 where
  pub common : arm < 128 → (arm ≡ x.opcode + 32 * x.kind) × (v ≡ x.operand)
  pub plain : 128 ≤ arm → Plain cells x arm v

-- these two numbers, with the registers r and s between them
pub record Decoded (cells : List ℕ) (x : Instruction) (arm r s v : ℕ) : Type 0 where
  pub armed : Armed cells x arm v
  pub same_r : r ≡ x.r
  pub same_s : s ≡ x.s

-- instruction i is in its place
abbrev pub DecodedAt : List ℕ → List ℕ → ℕ → Type 0
DecodedAt cells code i =
    Decoded cells (instruction_of cells i) (get_or code (4 * i) 0) (get_or code (4 * i + 1) 0) (get_or code (4 * i + 2) 0) (get_or code (4 * i + 3) 0)

-- it has been decoded, and those before it stay
pub record DecodesOne (cells : List ℕ) (i : ℕ) (before after : List ℕ) : Type 0 where
  pub same_length : length after ≡ length before
  pub here : DecodedAt cells after i
  pub below : (j : ℕ) → j < i → DecodedAt cells before j → DecodedAt cells after j

-- all have been
pub record Decodes (cells code : List ℕ) : Type 0 where
  pub stored : 4 * instruction_count cells ≤ length code
  pub decoded : (i : ℕ) → i < instruction_count cells → DecodedAt cells code i
