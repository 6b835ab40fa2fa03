-- What the fields of an instruction record are compared with, the same for all instructions of an opcode.
use Rattle.std.specs.Prelude.{◌≡◌, cond, List, [], ◌∷◌, ℕ, ◌+◌, ◌-◌, ◌*◌, ◌/◌, ◌%◌, ◌≤◌, get_or, eqb}
use Rattle.image.specs.declared.questions.Fields.{Fields}
use Rattle.image.specs.declared.questions.Limits.{Limits}
use Rattle.image.specs.Questions.{fields, has_r, has_s, has_v}

-- an opcode's fields as one number, a row of `fields`
abbrev pub flags_of : Fields → ℕ
flags_of f = cond f.r has_r 0 + (cond f.s has_s 0 + cond f.v has_v 0)

-- of an opcode with these flags: the largest r, the largest s, the least kind and the largest kind
abbrev pub limit_row : ℕ → Limits
limit_row flags = record {
  r = 15 * (flags / has_r % 2);
  s = 15 * (flags / has_s % 2);
  least = flags / has_v % 2;
  most = 3 * (flags / has_v % 2);
}

-- 0 is no opcode: no kind fits its row, since the least is above the largest
abbrev pub no_opcode : Limits
no_opcode = record { r = 0; s = 0; least = 1; most = 0 }

-- the rows of 0 and of the seventeen opcodes
unfoldable pub limits_of : ℕ → Limits
limits_of opcode = cond (eqb opcode 0) no_opcode (limit_row (get_or fields (opcode - 1) 0))

-- the largest operand of each kind: absent, register, label, integer
abbrev pub largest_of : ℕ → List ℕ
largest_of blocks = 0 ∷ 15 ∷ (blocks - 1) ∷ 18446744073709551615 ∷ []

-- for a program of one block or more whose version has some of the seventeen opcodes
pub record Limited (opcodes blocks : ℕ) (largest : List ℕ) : Type 0 where
  pub few_opcodes : opcodes ≤ 17
  pub some_block : 1 ≤ blocks
  pub largest_are : largest ≡ largest_of blocks

-- how many blocks that is, told by the largest label
abbrev pub blocks_by : List ℕ → ℕ
blocks_by largest = get_or largest 2 0 + 1
