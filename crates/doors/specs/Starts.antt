-- Start's own questions, 11 to 15 in document 01's order: their boundaries, and where two neighbours are both a no.
use Rattle.std.specs.Prelude.{List, [], ◌∷◌, ◌++◌, ℕ, take}
use Rattle.doors.specs.Doors.{Call, Row, ◌gives◌, start}
use Rattle.doors.specs.Programs.{program_f, zeros}

-- a program with P, the interval, and so many registers and words
abbrev pub start_of : List ℕ → ℕ → ℕ → ℕ → ℕ → Call
start_of program places interval registers words = start program places interval (zeros registers) (zeros words)

unfoldable pub start_rows : List Row
start_rows =
    -- P allowed? (11)
    start_of program_f 0 0 16 0 gives 11
    ∷ start_of program_f 1 0 16 0 gives 0
    ∷ start_of program_f 2 0 16 0 gives 0
    ∷ start_of program_f 3 0 16 0 gives 11
    ∷ start_of program_f 4 0 16 0 gives 0
    ∷ start_of program_f 5 0 16 0 gives 11
    ∷ start_of program_f 8 0 16 0 gives 0
    ∷ start_of program_f 16 0 16 0 gives 0
    ∷ start_of program_f 32 0 16 0 gives 0
    ∷ start_of program_f 63 0 16 0 gives 11
    ∷ start_of program_f 64 0 16 0 gives 0
    ∷ start_of program_f 65 0 16 0 gives 11
    ∷ start_of program_f 128 0 16 0 gives 11
    -- with interval 7 too
    ∷ start_of program_f 3 7 16 0 gives 11
    -- Interval 0 or 8 to 65,535? (12)
    ∷ start_of program_f 2 1 16 0 gives 12
    ∷ start_of program_f 2 7 16 0 gives 12
    ∷ start_of program_f 2 8 16 0 gives 0
    ∷ start_of program_f 2 65535 16 0 gives 0
    ∷ start_of program_f 2 65536 16 0 gives 12
    -- with 15 registers too
    ∷ start_of program_f 2 7 15 0 gives 12
    -- Sixteen registers? (13)
    ∷ start_of program_f 2 0 0 0 gives 13
    ∷ start_of program_f 2 0 15 0 gives 13
    ∷ start_of program_f 2 0 17 0 gives 13
    -- with 4,097 words too
    ∷ start_of program_f 2 0 15 4097 gives 13
    -- At most 4,096 words? (14)
    ∷ start_of program_f 2 0 16 1 gives 0
    ∷ start_of program_f 2 0 16 4096 gives 0
    ∷ start_of program_f 2 0 16 4097 gives 14
    -- in a program buffer of 816 cells too
    ∷ start_of (take 816 program_f) 2 0 16 4097 gives 14
    -- Every lent buffer of the length docs/ names? (15)
    ∷ start_of (take 816 program_f) 2 0 16 0 gives 15
    ∷ start_of (take 5890 program_f) 2 0 16 0 gives 15
    ∷ start_of (program_f ++ (0 ∷ [])) 2 0 16 0 gives 15
    ∷ []
