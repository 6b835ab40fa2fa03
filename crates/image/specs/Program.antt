-- A program, wherever it is kept: what the questions 3, 4 and 6 to 9, the shape test and the meaning of instructions know of it. `Layout` has
-- the one that a program buffer holds.
use Rattle.std.specs.Prelude.{ℕ}
use Rattle.image.specs.declared.Block.{Block}
use Rattle.image.specs.declared.Instruction.{Instruction}

pub record Program : Type 0 where
  -- 1 or 2 (document 02, request 4)
  pub version : ℕ
  -- how many blocks and instructions it has: B and I
  pub blocks : ℕ
  pub instructions : ℕ
  -- block b, instruction i
  pub block : ℕ → Block
  pub instruction : ℕ → Instruction
