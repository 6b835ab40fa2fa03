-- Which instructions start a block, marked once for all of them.
use Rattle.std.specs.Prelude.{◌≡◌, Bool, false, List, ℕ, ◌+◌, ◌<◌, length, get_or}
use Rattle.image.specs.Layout.{instruction_count, program_of}
use Rattle.image.specs.Questions.{starts_at, last_in_block}

-- the marks of the instructions at which one of the first n blocks starts
pub record Marked (cells : List ℕ) (n : ℕ) (marks : List Bool) : Type 0 where
  pub sized : length marks ≡ 1025
  pub marked : (i : ℕ) → i < 1025 → get_or marks i false ≡ starts_at (program_of cells) n i

-- with the program's end marked too, what follows an instruction tells whether it is the last of its block
pub record Ended (cells : List ℕ) (marks : List Bool) : Type 0 where
  pub sized : length marks ≡ 1025
  pub ended : (i : ℕ) → i < instruction_count cells → get_or marks (i + 1) false ≡ last_in_block (program_of cells) i
