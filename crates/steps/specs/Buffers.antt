-- What lent buffers of bytes hold: the cells of a program, registers and words, 8 bytes each, little-endian. A buffer whose length is no
-- multiple of 8 has those that are whole.
use Rattle.std.specs.Prelude.{Bool, List, ℕ, ◌*◌, ◌/◌, ◌%◌, eqb, ℤ, length}
use Rattle.image.specs.Layout.{program_cells}
use Rattle.state.specs.Numbers.{integers_in}
use Rattle.state.specs.Reading.{table, number_at}

-- how many are whole
abbrev pub wholes : List ℕ → ℕ
wholes bytes = length bytes / 8

-- nothing is left over
abbrev pub is_whole : List ℕ → Bool
is_whole bytes = eqb (length bytes % 8) 0

unfoldable pub cells_of : List ℕ → List ℕ
cells_of bytes = table (λ i. number_at bytes (8 * i)) (wholes bytes)

abbrev pub integers_of : List ℕ → List ℤ
integers_of bytes = integers_in bytes 0 (wholes bytes)

-- the length of a program buffer: 5,891 cells
abbrev pub program_bytes : ℕ
program_bytes = 8 * program_cells
