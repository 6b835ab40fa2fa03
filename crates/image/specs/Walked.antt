-- What the reader's walk leaves in a program buffer, for every image. It lays a record once the record's questions are answered with yes,
-- so after a refusal the buffer has the records before the refused one.
use Rattle.std.specs.Prelude.{List, [], ◌∷◌, ℕ, Ok, Err, Result, replicate}
use Rattle.std.proofs.lemmas.List.Edits.{sets}
use Rattle.image.specs.declared.walk.Stopped.{Stopped}
use Rattle.image.specs.Refusals.{number}
use Rattle.image.specs.Layout.{version_in, blocks_in, instructions_in, program_cells, block_cell, instruction_cell}
use Rattle.image.specs.Layout.{block_cells_in, instruction_cells_in, cells_in}
use Rattle.image.specs.Questions.{first_no, block_no}
use Rattle.image.specs.Doors.{unless_refused, header_no}
use Rattle.image.specs.Offset.{blocks_passed, instructions_passed}

-- what a walk answers, as a number, and the offset that it came to
abbrev pub walked_no : Result ℕ Stopped → ℕ
walked_no (Ok at) = 0
walked_no (Err stopped) = number stopped.refusal

abbrev pub walked_to : Result ℕ Stopped → ℕ
walked_to (Ok at) = at
walked_to (Err stopped) = stopped.at

-- the blocks that passed, and the instructions
abbrev pub blocks_walked : List ℕ → List ℕ → List ℕ
blocks_walked bytes cells = sets cells (block_cell 0) (block_cells_in bytes (blocks_passed bytes))

abbrev pub instructions_walked : List ℕ → List ℕ → List ℕ
instructions_walked bytes cells = sets cells (instruction_cell 0) (instruction_cells_in bytes (instructions_passed bytes))

-- both: after a refused block no instruction is asked
unfoldable pub records_walked : List ℕ → List ℕ → List ℕ
records_walked bytes cells =
    unless_refused (first_no (block_no (cells_in bytes)) (blocks_in bytes) 0)
    (instructions_walked bytes (blocks_walked bytes cells))
    (blocks_walked bytes cells)

-- a cleared buffer after reading: the version, the two counts and the records, or nothing where the header is refused. `proofs/Walked.antt` proves
-- that of an accepted image it is `cells_in`
unfoldable pub scanned : List ℕ → List ℕ
scanned bytes =
    unless_refused (header_no bytes)
    (records_walked bytes (sets (replicate program_cells 0) 0 (version_in bytes ∷ blocks_in bytes ∷ instructions_in bytes ∷ [])))
    (replicate program_cells 0)
