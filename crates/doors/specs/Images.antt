-- Images, each with the number that reading it gets: questions 1 to 9 in document 01's order, 0 where it is accepted. All stand at the image
-- check, and some at the other doors that read an image.
use Rattle.std.specs.Prelude.{List, [], ◌∷◌, ◌++◌, ℕ, ◌+◌, ◌*◌, length, set, take, replicate}
use Rattle.std.proofs.lemmas.List.Edits.{sets}
use Rattle.cases.specs.Assembly.{assembled}
use Rattle.cases.specs.ProgramF.{image_f}
use Rattle.cases.specs.ProgramF.{program_f as listed_f}
use Rattle.doors.specs.Doors.{Asked, ◌gets◌, Row, ◌gives◌, check, read, rewrite, read_bytes, or_later}
use Rattle.doors.specs.Fields.{fields}

-- ---- F's image with a byte changed. The places are document 01's: 8 bytes, records of 10 for its four blocks, records of 12

abbrev pub in_block : ℕ → ℕ → ℕ → List ℕ → List ℕ
in_block b field byte image = set image (8 + 10 * b + field) byte

abbrev pub in_code : ℕ → ℕ → ℕ → List ℕ → List ℕ
in_code i field byte image = set image (8 + 10 * 4 + 12 * i + field) byte

-- the header: mark (3 bytes), version (2), B, I (2)
abbrev pub version : ℕ
version = 3

abbrev pub blocks : ℕ
blocks = 5

abbrev pub instructions : ℕ
instructions = 6

-- a block record: first instruction (2), annotation, policy, label, number of pairs, four pair bytes
abbrev pub first : ℕ
first = 0

abbrev pub annotation : ℕ
annotation = 2

abbrev pub policy : ℕ
policy = 3

abbrev pub label : ℕ
label = 4

abbrev pub pairs : ℕ
pairs = 5

abbrev pub pair : ℕ → ℕ
pair n = 6 + n

-- an instruction record: opcode, r, s, operand kind, operand (8)
abbrev pub opcode : ℕ
opcode = 0

abbrev pub r : ℕ
r = 1

abbrev pub s : ℕ
s = 2

abbrev pub kind : ℕ
kind = 3

abbrev pub operand : ℕ
operand = 4

-- ---- F of version 2, whose block records have 14 bytes: 172 in all

unfoldable pub second_f : List ℕ
second_f = assembled 2 listed_f

abbrev pub in_block2 : ℕ → ℕ → ℕ → List ℕ → List ℕ
in_block2 b field byte image = set image (8 + 14 * b + field) byte

abbrev pub in_code2 : ℕ → ℕ → ℕ → List ℕ → List ℕ
in_code2 i field byte image = set image (8 + 14 * 4 + 12 * i + field) byte

-- its block 2 with eight pair bytes: r0 to r1, to r2, .., to r8
abbrev pub eight_bytes : List ℕ → List ℕ
eight_bytes image = sets image (8 + 14 * 2 + 6) (1 ∷ 2 ∷ 3 ∷ 4 ∷ 5 ∷ 6 ∷ 7 ∷ 8 ∷ [])

-- ---- Headers: questions 1 to 5

unfoldable pub headers : List Asked
headers =
    -- 8 bytes or more? (1) The mark of 7 bytes 0 is wrong too
    [] gets 1
    ∷ take 7 image_f gets 1
    ∷ replicate 7 0 gets 1
    -- Mark TPB? (2)
    ∷ replicate 8 0 gets 2
    ∷ set image_f 0 85 gets 2
    ∷ set image_f 1 81 gets 2
    ∷ set image_f 2 67 gets 2
    -- with a wrong version too
    ∷ set (set image_f 2 67) version 3 gets 2
    -- Version 1 or 2? (3) 0, 3, 257 and 258
    ∷ set image_f version 0 gets 3
    ∷ set image_f version 3 gets 3
    ∷ set image_f (version + 1) 1 gets 3
    ∷ set (set image_f version 2) (version + 1) 1 gets 3
    -- with no block too
    ∷ set (set image_f version 3) blocks 0 gets 3
    -- B in 1 to 128 and I in 1 to 1,024? (4) F's length is wrong for these too
    ∷ set image_f blocks 0 gets 4
    ∷ set image_f blocks 129 gets 4
    ∷ set image_f blocks 255 gets 4
    ∷ set image_f instructions 0 gets 4
    -- of version 2 too
    ∷ set (set image_f version 2) blocks 129 gets 4
    -- I 1,025
    ∷ set (set image_f instructions 1) (instructions + 1) 4 gets 4
    -- Length 8 + 10·B + 12·I? (5) B 128, I 1,024, I 265, 8 bytes, a byte too few or too many
    ∷ set image_f blocks 128 gets 5
    ∷ set (set image_f instructions 0) (instructions + 1) 4 gets 5
    ∷ set image_f (instructions + 1) 1 gets 5
    ∷ set image_f blocks 1 gets 5
    ∷ set image_f instructions 1 gets 5
    ∷ take 8 image_f gets 5
    ∷ take 155 image_f gets 5
    ∷ (image_f ++ (0 ∷ [])) gets 5
    -- with a block 0 that starts at 1 too
    ∷ (in_block 0 first 1 image_f ++ (0 ∷ [])) gets 5
    -- of version 2 it is 8 + 14·B + 12·I: records of 10 bytes in version 2, and of 14 in version 1; a byte too few or too many
    ∷ set image_f version 2 gets 5
    ∷ set second_f version 1 gets 5
    ∷ take 171 second_f gets 5
    ∷ (second_f ++ (0 ∷ [])) gets 5
    ∷ []

-- ---- Records: questions 6 to 9. F has blocks at 0, 4, 6 and 7, and nine instructions; block 2 is its join target

unfoldable pub records : List Asked
records =
    image_f gets 0
    -- Does block 0 start at 0, a later one after its predecessor, all below I? (6)
    ∷ in_block 0 first 1 image_f gets 6
    ∷ in_block 1 first 0 image_f gets 6
    ∷ in_block 2 first 4 image_f gets 6
    ∷ in_block 2 first 3 image_f gets 6
    ∷ in_block 3 first 9 image_f gets 6
    ∷ in_block 3 (first + 1) 1 image_f gets 6
    -- of block 2 with annotation 3 too
    ∷ in_block 2 first 4 (in_block 2 annotation 3 image_f) gets 6
    -- block after block: block 1's 7, and then block 2's 6
    ∷ in_block 1 annotation 3 (in_block 2 first 4 image_f) gets 7
    -- Is the annotation as laid out, label below B? (7)
    ∷ in_block 0 annotation 3 image_f gets 7
    ∷ in_block 2 annotation 3 image_f gets 7
    ∷ in_block 3 annotation 255 image_f gets 7
    -- none: no policy, label or pairs
    ∷ in_block 0 policy 1 image_f gets 7
    ∷ in_block 0 label 1 image_f gets 7
    ∷ in_block 0 pairs 1 image_f gets 7
    ∷ in_block 0 (pair 0) 1 image_f gets 7
    -- promotion-ready, handler block 3: no policy or pairs
    ∷ in_block 1 annotation 1 (in_block 1 label 3 image_f) gets 0
    ∷ in_block 1 annotation 1 (in_block 1 label 4 image_f) gets 7
    ∷ in_block 1 annotation 1 (in_block 1 policy 1 image_f) gets 7
    ∷ in_block 1 annotation 1 (in_block 1 pairs 1 image_f) gets 7
    ∷ in_block 1 annotation 1 (in_block 1 (pair 3) 1 image_f) gets 7
    -- join target: label below B, policy 0 or 1
    ∷ in_block 2 label 0 image_f gets 0
    ∷ in_block 2 label 4 image_f gets 7
    ∷ in_block 2 policy 1 image_f gets 0
    ∷ in_block 2 policy 2 image_f gets 7
    -- used pairs come first: one more in use, one fewer, one after it
    ∷ in_block 2 pairs 2 image_f gets 7
    ∷ in_block 2 pairs 0 image_f gets 7
    ∷ in_block 2 (pair 1) 19 image_f gets 7
    ∷ in_block 2 (pair 3) 1 image_f gets 7
    -- in strictly rising order of target, the low four bits: r0 to r2, then r1 to r3, to r2, to r1; r3 to r2, then r0 to r3
    ∷ in_block 2 pairs 2 (in_block 2 (pair 1) 19 image_f) gets 0
    ∷ in_block 2 pairs 2 (in_block 2 (pair 1) 18 image_f) gets 7
    ∷ in_block 2 pairs 2 (in_block 2 (pair 1) 17 image_f) gets 7
    ∷ in_block 2 pairs 2 (in_block 2 (pair 0) 50 (in_block 2 (pair 1) 3 image_f)) gets 0
    -- four pairs at most
    ∷ in_block 2 pairs 4 (in_block 2 (pair 1) 3 (in_block 2 (pair 2) 4 (in_block 2 (pair 3) 15 image_f))) gets 0
    ∷ in_block 2 pairs 5 (in_block 2 (pair 1) 3 (in_block 2 (pair 2) 4 (in_block 2 (pair 3) 15 image_f))) gets 7
    -- blocks before instructions: the last block's 7, and instruction 0's 8
    ∷ in_block 3 annotation 3 (in_code 0 opcode 0 image_f) gets 7
    -- Are opcode, registers, labels and zeros as laid out? (8)
    ∷ in_code 0 opcode 0 image_f gets 8
    ∷ in_code 8 opcode 16 image_f gets 8
    -- an r or an s that the opcode does not have
    ∷ in_code 0 s 1 image_f gets 8
    ∷ in_code 1 r 1 image_f gets 8
    -- a register operand 0 to 15, all of its 8 bytes
    ∷ in_code 7 operand 15 image_f gets 0
    ∷ in_code 7 operand 16 image_f gets 8
    ∷ in_code 7 (operand + 7) 1 image_f gets 8
    -- a label operand below B
    ∷ in_code 1 operand 3 image_f gets 0
    ∷ in_code 1 operand 4 image_f gets 8
    ∷ in_code 1 (operand + 1) 1 image_f gets 8
    -- any integer; kinds 1, 2 and 3
    ∷ in_code 2 (operand + 7) 255 image_f gets 0
    ∷ in_code 2 kind 0 image_f gets 8
    ∷ in_code 2 kind 4 image_f gets 8
    -- a halt that has r, in the middle of its block too
    ∷ in_code 0 opcode 14 image_f gets 8
    -- instruction after instruction: 0's 9, and then 1's 8
    ∷ in_code 0 opcode 13 (in_code 0 r 0 (in_code 1 opcode 0 image_f)) gets 9
    -- Is it opcode 13, 14 or 15 exactly when last in its block? (9) Jump and join in the middle; another as the last of block 0, of block 3
    ∷ in_code 0 opcode 13 (in_code 0 r 0 image_f) gets 9
    ∷ in_code 0 opcode 15 (in_code 0 r 0 image_f) gets 9
    ∷ in_code 3 opcode 12 image_f gets 9
    ∷ in_code 8 opcode 1 image_f gets 9
    ∷ in_code 8 opcode 13 image_f gets 0
    -- block 3 starts at 8, so that the halt before 7 is in the middle of block 2
    ∷ in_block 3 first 8 image_f gets 9
    ∷ []

-- the same questions of version 2
unfoldable pub second_records : List Asked
second_records =
    second_f gets 0
    -- 6 and 7, where the records of 14 bytes have them
    ∷ in_block2 1 first 0 second_f gets 6
    ∷ in_block2 3 first 9 second_f gets 6
    ∷ in_block2 3 annotation 3 second_f gets 7
    ∷ in_block2 0 (pair 7) 1 second_f gets 7
    -- five pairs, and eight at most
    ∷ in_block2 2 pairs 5 (in_block2 2 (pair 5) 0 (in_block2 2 (pair 6) 0 (in_block2 2 (pair 7) 0 (eight_bytes second_f)))) gets 0
    ∷ in_block2 2 pairs 8 (eight_bytes second_f) gets 0
    ∷ in_block2 2 pairs 9 (eight_bytes second_f) gets 7
    -- one fewer in use, one more; the last not in rising order of target
    ∷ in_block2 2 pairs 7 (eight_bytes second_f) gets 7
    ∷ in_block2 2 pairs 8 (in_block2 2 (pair 7) 0 (eight_bytes second_f)) gets 7
    ∷ in_block2 2 pairs 8 (in_block2 2 (pair 7) 23 (eight_bytes second_f)) gets 7
    -- push 1 for the sum, pop r0 for the child's move; opcode 18
    ∷ in_code2 2 opcode 16 second_f gets 0
    ∷ in_code2 4 opcode 17 (in_code2 4 kind 0 (in_code2 4 operand 0 second_f)) gets 0
    ∷ in_code2 2 opcode 18 second_f gets 8
    -- push with r, pop with v
    ∷ in_code2 2 r 1 (in_code2 2 opcode 16 second_f) gets 8
    ∷ in_code2 4 opcode 17 second_f gets 8
    -- push and pop as the last of a block, in the middle of the code and at its end
    ∷ in_code2 5 opcode 16 second_f gets 9
    ∷ in_code2 8 opcode 16 second_f gets 9
    ∷ in_code2 8 opcode 17 (in_code2 8 kind 0 (in_code2 8 operand 0 second_f)) gets 9
    ∷ []

-- ---- At the doors

-- one row for each of 6 to 9 in version 1, and of 7 to 9 in version 2 with what that alone has
unfoldable pub some_records : List Asked
some_records =
    image_f gets 0
    ∷ in_block2 2 pairs 9 (eight_bytes second_f) gets 7
    ∷ in_code2 2 opcode 16 second_f gets 0
    ∷ in_code2 2 opcode 18 second_f gets 8
    ∷ in_code2 8 opcode 16 second_f gets 9
    ∷ in_block 2 first 4 image_f gets 6
    ∷ in_block 2 annotation 3 image_f gets 7
    ∷ in_code 8 opcode 16 image_f gets 8
    ∷ in_code 8 opcode 1 image_f gets 9
    ∷ []

abbrev pub at_check : List Asked → List Row
at_check [] = []
at_check ((image gets n) ∷ images) = check image gives n ∷ at_check images

-- lent the right length, and a wrong one: 15 comes last
abbrev pub at_readers : List Asked → List Row
at_readers [] = []
at_readers ((image gets n) ∷ images) =
    read image 5891 gives n
    ∷ read image 5890 gives or_later n 15
    ∷ rewrite image (length image) gives n
    ∷ rewrite image (length image + 1) gives or_later n 15
    ∷ read_bytes image 47128 gives n
    ∷ read_bytes image 5891 gives or_later n 15
    ∷ at_readers images

unfoldable pub image_rows : List Row
image_rows =
    at_check headers
    ++ (at_check records ++ (at_check second_records ++ (at_check fields ++ (at_readers headers ++ at_readers some_records))))
