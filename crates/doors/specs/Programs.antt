-- Program buffers, each with the number that questions 3, 4 and 6 to 9 give it, at the writer, start, pick and run: these put them before their
-- own. Some of the images' records stand here too, as programs.
use Rattle.std.specs.Prelude.{List, [], ◌∷◌, ◌++◌, ℕ, ℤ, pos, set, take, replicate}
use Rattle.int64.specs.Little.{little}
use Rattle.image.specs.Layout.{cells_in}
use Rattle.drive.specs.declared.State.{State}
use Rattle.machine.specs.Starting.{empty}
use Rattle.cases.specs.ProgramF.{image_f}
use Rattle.doors.specs.Doors.{Asked, ◌gets◌, Row, ◌gives◌, write, start, pick, run, or_later}
use Rattle.doors.specs.Fields.{single}
use Rattle.doors.specs.Images.{some_records}

-- F in a program buffer of 5,891 cells: version, B, I, six cells for each of 128 blocks from cell 3 on, five for each of 1,024 instructions
-- from 771 on
unfoldable pub program_f : List ℕ
program_f = cells_in image_f

-- one block with one halt
unfoldable pub only_halt : List ℕ
only_halt = cells_in (single 14 0 0 0)

-- n integers 0: registers, or words
abbrev pub zeros : ℕ → List ℤ
zeros n = replicate n (pos 0)

-- no state that start or a pick leaves
abbrev pub no_state : State
no_state = empty 0 0

-- F of version 2, which has the same records
abbrev pub second_f : List ℕ
second_f = set program_f 0 2

-- so many pairs in the join target, block 2 (its cells are 15 to 20): r0 to r1, to r2, .., eight at most
abbrev pub with_pairs : ℕ → List ℕ → List ℕ
with_pairs n program = set (set program 19 n) 20 (little n (1 ∷ 2 ∷ 3 ∷ 4 ∷ 5 ∷ 6 ∷ 7 ∷ 8 ∷ []) 0)

-- ---- Questions 3 and 4, and what a short buffer lacks

unfoldable pub buffers : List Asked
buffers =
    -- Version 1 or 2? (3) A buffer that lacks it has none
    [] gets 3
    ∷ set program_f 0 0 gets 3
    ∷ set program_f 0 3 gets 3
    -- with B 0 too
    ∷ set (set program_f 0 3) 1 0 gets 3
    -- B in 1 to 128 and I in 1 to 1,024? (4) A buffer that lacks them has none
    ∷ take 1 program_f gets 4
    ∷ take 2 program_f gets 4
    ∷ set program_f 1 0 gets 4
    ∷ set program_f 1 129 gets 4
    ∷ set program_f 2 0 gets 4
    ∷ set program_f 2 1025 gets 4
    -- with a block 0 that starts at 1 too
    ∷ set (set program_f 1 129) 3 1 gets 4
    -- B 128: on to 6, block 4 starts at 0. I 1,024: on to 9, the join at 8 is not the last in its block
    ∷ set program_f 1 128 gets 6
    ∷ set program_f 2 1024 gets 9
    -- a block that a short buffer lacks counts as a no to 6: all of block 0, its last cell, block 3's last cell
    ∷ take 3 program_f gets 6
    ∷ take 8 only_halt gets 6
    ∷ take 26 program_f gets 6
    -- block 3 lacks, but block 2 before it has annotation 3; block 3 has annotation 3, and lacks
    ∷ take 26 (set program_f 16 3) gets 7
    ∷ take 26 (set program_f 22 3) gets 6
    -- block 3 has annotation 3, and instruction 0 no opcode; instruction 0 is a halt that has r, in the middle of its block
    ∷ set (set program_f 22 3) 771 0 gets 7
    ∷ set program_f 771 14 gets 8
    -- an instruction that it lacks counts as a no to 8: all of the first, its last cell, the last one's last cell
    ∷ take 9 only_halt gets 8
    ∷ take 775 only_halt gets 8
    ∷ take 815 program_f gets 8
    -- the last instruction lacks, but instruction 2 before it is a halt in the middle; the first lacks, and has opcode 0
    ∷ take 815 (set (set (set program_f 781 14) 784 0) 785 0) gets 9
    ∷ take 775 (set only_halt 771 0) gets 8
    -- nothing lacks
    ∷ take 776 only_halt gets 0
    ∷ take 816 program_f gets 0
    ∷ program_f gets 0
    ∷ []

-- ---- What the version decides: the same records in both

unfoldable pub versions : List Asked
versions =
    second_f gets 0
    -- four pairs; five, as a cell has room for them; eight; nine
    ∷ with_pairs 4 program_f gets 0
    ∷ with_pairs 5 program_f gets 7
    ∷ with_pairs 5 second_f gets 0
    ∷ with_pairs 8 second_f gets 0
    ∷ set (with_pairs 8 second_f) 19 9 gets 7
    -- push 1 in the middle of block 0; pop r0 there; opcode 18
    ∷ set program_f 781 16 gets 8
    ∷ set second_f 781 16 gets 0
    ∷ set (set (set program_f 781 17) 784 0) 785 0 gets 8
    ∷ set (set (set second_f 781 17) 784 0) 785 0 gets 0
    ∷ set second_f 781 18 gets 8
    -- push r1 and pop r0 as the last of block 3
    ∷ set program_f 811 16 gets 8
    ∷ set second_f 811 16 gets 9
    ∷ set (set (set second_f 811 17) 814 0) 815 0 gets 9
    ∷ []

abbrev pub programs_of : List Asked → List Asked
programs_of [] = []
programs_of ((image gets n) ∷ images) = cells_in image gets n ∷ programs_of images

-- ---- At the doors. All that comes later is a no too: the writer's 15, start's 11 to 15, the pick's and the run's 14 to 21

abbrev pub at_programs : List Asked → List Row
at_programs [] = []
at_programs ((program gets n) ∷ programs) =
    write program 0 gives or_later n 15
    ∷ start program 3 7 (zeros 15) (zeros 4097) gives or_later n 11
    ∷ pick program (zeros 4097) no_state 64 gives or_later n 14
    ∷ run program (zeros 4097) no_state 0 gives or_later n 14
    ∷ at_programs programs

-- Reader and writer put 15 last: the program's buffer, and the image's of 8 + 10·B + 12·I bytes, of version 2 8 + 14·B + 12·I
unfoldable pub writes : List Row
writes =
    write program_f 156 gives 0
    ∷ write program_f 155 gives 15
    ∷ write program_f 157 gives 15
    ∷ write only_halt 30 gives 0
    ∷ write (take 816 program_f) 156 gives 15
    ∷ write (take 5890 program_f) 156 gives 15
    ∷ write (program_f ++ (0 ∷ [])) 156 gives 15
    ∷ write second_f 172 gives 0
    ∷ write second_f 156 gives 15
    ∷ []

unfoldable pub program_rows : List Row
program_rows = at_programs (buffers ++ versions ++ programs_of some_records) ++ writes
