-- The round trip between images and programs, as one statement. `proofs/RoundTrip.antt` proves it.
use Rattle.std.specs.Prelude.{◌≡◌, List, ℕ, ◌^◌, ◌<◌, length, get_or}
use Rattle.image.specs.Layout.{image_length, program_cells, version_of, block_count, instruction_count, cells_in, image_of, trimmed}
use Rattle.image.specs.Doors.{image_no, write_no}

-- a list of bytes, and one of cells of 64 bits: what slices hold
abbrev pub Bytes : List ℕ → Type 0
Bytes bytes = (i : ℕ) → get_or bytes i 0 < 256

abbrev pub Cells : List ℕ → Type 0
Cells cells = (i : ℕ) → get_or cells i 0 < 2 ^ 64

-- the writer accepts the program, given a buffer of its image's length
abbrev pub Writes : List ℕ → Type 0
Writes cells = write_no cells (image_length (version_of cells) (block_count cells) (instruction_count cells)) ≡ 0

pub record RoundTrip : Type 0 where
  -- an accepted image is a program that the writer accepts, and is written back byte for byte
  pub written_back : (bytes : List ℕ) → Bytes bytes → image_no bytes ≡ 0 → Writes (cells_in bytes) × (image_of (cells_in bytes) ≡ bytes)
  -- an accepted program's image is accepted, and read again it is that program
  pub read_again : (cells : List ℕ) → Cells cells → Writes cells → (image_no (image_of cells) ≡ 0) × (cells_in (image_of cells) ≡ trimmed cells)
  -- two accepted images of one program are the same image
  pub one_image : (x y : List ℕ) → Bytes x → Bytes y → image_no x ≡ 0 → image_no y ≡ 0 → cells_in x ≡ cells_in y → x ≡ y
  -- the writer accepts exactly the programs that some image reads to
  pub some_image : (cells : List ℕ) → Cells cells → Writes cells
      → (bytes : List ℕ) × Bytes bytes × (image_no bytes ≡ 0) × (cells_in bytes ≡ trimmed cells)
  pub from_image : (cells : List ℕ) → length cells ≡ program_cells → (bytes : List ℕ) → image_no bytes ≡ 0 → cells_in bytes ≡ trimmed cells → Writes cells
