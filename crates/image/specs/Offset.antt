-- The reader's running offset (document 02, request 3): where its walk over an image's records comes to.
use Rattle.std.specs.Prelude.{◌≡◌, cond, List, ℕ, zero, suc, ◌+◌, ◌<◌, length, eqb}
use Rattle.image.specs.Layout.{block_size, block_place, instruction_place, version_in, blocks_in, instructions_in, cells_in}
use Rattle.image.specs.Questions.{first_no, block_no, instruction_no}
use Rattle.image.specs.Doors.{header_no, image_no}

-- how many answers of f at i, i + 1, .. (n of them) are 0 before the first that is not
unfoldable pub passed : (ℕ → ℕ) → ℕ → ℕ → ℕ
passed f zero i = 0
passed f (suc n) i = cond (eqb (f i) 0) (suc (passed f n (i + 1))) 0

-- how many blocks are answered with yes before the first that is refused, and how many instructions
abbrev pub blocks_passed : List ℕ → ℕ
blocks_passed bytes = passed (block_no (cells_in bytes)) (blocks_in bytes) 0

abbrev pub instructions_passed : List ℕ → ℕ
instructions_passed bytes = passed (instruction_no (cells_in bytes)) (instructions_in bytes) 0

-- after the blocks: the place of the first one that is refused, else the end of the last
unfoldable pub blocks_offset : List ℕ → ℕ
blocks_offset bytes = block_place (version_in bytes) (blocks_passed bytes)

-- after the instructions likewise
unfoldable pub instructions_offset : List ℕ → ℕ
instructions_offset bytes = instruction_place (version_in bytes) (blocks_in bytes) (instructions_passed bytes)

-- after the walk: a refused header has none
unfoldable pub offset_in : List ℕ → ℕ
offset_in bytes =
    cond (eqb (header_no bytes) 0)
    (cond (eqb (first_no (block_no (cells_in bytes)) (blocks_in bytes) 0) 0) (instructions_offset bytes) (blocks_offset bytes))
    0

-- what is shown of it; `proofs/Offset.antt` proves it
pub record KeepsOffset : Type 0 where
  -- a block record is 10 bytes in version 1, 14 in version 2
  pub size_one : block_size 1 ≡ 10
  pub size_two : block_size 2 ≡ 14
  -- it begins at 8, and each record moves it on to the next one's place
  pub first_block : (version : ℕ) → block_place version 0 ≡ 8
  pub next_block : (version b : ℕ) → block_place version (b + 1) ≡ block_place version b + block_size version
  pub first_instruction : (version blocks : ℕ) → instruction_place version blocks 0 ≡ block_place version blocks
  pub next_instruction : (version blocks i : ℕ) → instruction_place version blocks (i + 1) ≡ instruction_place version blocks i + 12
  -- at the first record that is refused, it is that record's place
  pub at_block : (bytes : List ℕ) (b : ℕ) → header_no bytes ≡ 0 → b < blocks_in bytes
      → ((j : ℕ) → j < b → block_no (cells_in bytes) j ≡ 0) → (block_no (cells_in bytes) b ≡ 0 → ⊥) → offset_in bytes ≡ block_place (version_in bytes) b
  pub at_instruction : (bytes : List ℕ) (i : ℕ) → header_no bytes ≡ 0 → i < instructions_in bytes
      → ((j : ℕ) → j < blocks_in bytes → block_no (cells_in bytes) j ≡ 0)
      → ((j : ℕ) → j < i → instruction_no (cells_in bytes) j ≡ 0) → (instruction_no (cells_in bytes) i ≡ 0 → ⊥)
      → offset_in bytes ≡ instruction_place (version_in bytes) (blocks_in bytes) i
  -- after an accepted image's last record, it is the image's length
  pub after_last : (bytes : List ℕ) → image_no bytes ≡ 0 → offset_in bytes ≡ length bytes
