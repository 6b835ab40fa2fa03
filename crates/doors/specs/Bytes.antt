-- The engine's calls over bytes, up to question 15. A program buffer is 8 bytes a cell; registers, words, state and report are bytes too. The
-- buffers here are short, so that antt can compute them: 15 is the most that they get. The reader over bytes stands in Images.antt.
use Rattle.std.specs.Prelude.{List, [], ◌∷◌, ◌++◌, ℕ, set, take, replicate}
use Rattle.state.specs.Numbers.{in_bytes}
use Rattle.doors.specs.Doors.{Asked, ◌gets◌, Row, ◌gives◌, write_bytes, start_bytes, pick_bytes, run_bytes, or_later}
use Rattle.doors.specs.Programs.{only_halt}

-- n bytes 0
abbrev pub blank : ℕ → List ℕ
blank n = replicate n 0

-- one block with one halt, in the first 776 of a program buffer's cells
unfoldable pub short : List ℕ
short = take 6208 (in_bytes only_halt)

-- ---- The program's questions, with all that comes later a no too

unfoldable pub short_buffers : List Asked
short_buffers =
    -- Version 1 or 2? (3) There is none, it is not whole; 0, 3 with B 129 too, and 257
    [] gets 3
    ∷ take 7 short gets 3
    ∷ set (take 72 short) 0 0 gets 3
    ∷ set (set (take 72 short) 0 3) 8 129 gets 3
    ∷ set (take 72 short) 1 1 gets 3
    -- B in 1 to 128 and I in 1 to 1,024? (4) I is not whole
    ∷ take 8 short gets 4
    ∷ take 23 short gets 4
    -- B 129; I 1,025
    ∷ set (take 72 short) 8 129 gets 4
    ∷ set (set (take 72 short) 16 1) 17 4 gets 4
    -- block 0 lacks, or its last cell is not whole (6)
    ∷ take 24 short gets 6
    ∷ take 71 short gets 6
    -- block 0 starts at 1 (6), or has annotation 3 (7)
    ∷ set (take 72 short) 24 1 gets 6
    ∷ set (take 72 short) 32 3 gets 7
    -- instruction 0 lacks, or its last cell is not whole (8)
    ∷ take 72 short gets 8
    ∷ take 6207 short gets 8
    -- its opcode is 1 (8: it has no v), or 1 with v (9)
    ∷ set short 6168 1 gets 8
    ∷ set (set short 6168 1) 6192 3 gets 9
    -- or 16 with v, which only version 2 has, and not last in a block
    ∷ set (set short 6168 16) 6192 3 gets 8
    ∷ set (set (set short 6168 16) 6192 3) 0 2 gets 9
    -- accepted: on to the next question
    ∷ short gets 0
    ∷ set short 0 2 gets 0
    ∷ []

-- lent no image, P 3 and interval 7 with 15 registers and no state; 4,097 words; no state and no report
abbrev pub at_bytes : List Asked → List Row
at_bytes [] = []
at_bytes ((program gets n) ∷ programs) =
    write_bytes program 0 gives or_later n 15
    ∷ start_bytes program 3 7 (blank 120) (blank 32776) 0 gives or_later n 11
    ∷ pick_bytes program (blank 32776) 64 [] gives or_later n 14
    ∷ run_bytes program (blank 32776) [] 0 gives or_later n 14
    ∷ at_bytes programs

-- ---- 11 to 15

unfoldable pub lent_bytes : List Row
lent_bytes =
    -- P allowed? (11) Interval 0 or 8 to 65,535? (12) With the next one a no too
    start_bytes short 3 7 (blank 128) [] 83992 gives 11
    ∷ start_bytes short 2 7 (blank 120) [] 83992 gives 12
    -- Sixteen registers? (13) With 4,097 words too
    ∷ start_bytes short 2 8 (blank 120) (blank 32776) 83992 gives 13
    ∷ start_bytes short 2 8 (blank 136) [] 83992 gives 13
    -- At most 4,096 words? (14) The program buffer is short too
    ∷ start_bytes short 2 8 (blank 128) (blank 32776) 83992 gives 14
    ∷ pick_bytes short (blank 32776) 0 [] gives 14
    ∷ run_bytes short (blank 32776) [] 424 gives 14
    -- Every lent buffer of the length docs/ names? (15) Sixteen registers and 4,096 words are whole. There is no state (20) either
    ∷ write_bytes short 30 gives 15
    ∷ start_bytes short 64 65535 (blank 128) [] 83992 gives 15
    ∷ start_bytes short 2 0 (blank 135) (blank 32775) 83992 gives 15
    ∷ pick_bytes short (blank 32768) 0 [] gives 15
    ∷ pick_bytes short (blank 32775) 0 [] gives 15
    ∷ run_bytes short (blank 32768) [] 424 gives 15
    ∷ []

unfoldable pub byte_rows : List Row
byte_rows = at_bytes short_buffers ++ lent_bytes
