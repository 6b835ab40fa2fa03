-- Pick's own questions, 14, 15 and 20 to 24 in document 01's order, and the run's, which are the pick's up to 20. Question 20's rows follow
-- the shape test in docs/machine.md.
use Rattle.std.specs.Prelude.{List, [], ◌∷◌, ◌++◌, ℕ, pos, take}
use Rattle.task.specs.declared.Value.{Value}
use Rattle.task.specs.declared.Value.TheVariants.{Int, Label, Record}
use Rattle.task.specs.declared.Status.TheVariants.{Waiting, Halted, Faulted}
use Rattle.drive.specs.declared.State.{State}
use Rattle.doors.specs.Doors.{Call, Row, ◌gives◌, says, refused, ended, spent, pick, run}
use Rattle.doors.specs.Programs.{program_f, second_f, only_halt, zeros, no_state}
use Rattle.doors.specs.States.{after, fresh, forked, parent_waits, halted, faulted}
use Rattle.doors.specs.States.{with_places, with_interval, with_work, status, places, pc, counter, span, depth, height, fork, register, entry, but, copied}

-- a pick of F's task in a slot, with no words
abbrev pub pick_f : State → ℕ → Call
pick_f state slot = pick program_f [] state slot

-- ---- The program's questions stand in Programs.antt; then 14, 15 and 20

unfoldable pub lent_rows : List Row
lent_rows =
    -- At most 4,096 words? (14)
    pick program_f (zeros 4096) fresh 0 gives 0
    ∷ pick program_f (zeros 4097) fresh 0 gives 14
    ∷ run program_f (zeros 4096) fresh 0 gives 0
    ∷ run program_f (zeros 4097) fresh 0 gives 14
    -- in a program buffer of 816 cells too
    ∷ pick (take 816 program_f) (zeros 4097) fresh 0 gives 14
    ∷ run (take 816 program_f) (zeros 4097) fresh 0 gives 14
    -- Every lent buffer of the length docs/ names? (15)
    ∷ pick (take 816 program_f) [] fresh 0 gives 15
    ∷ pick (take 5890 program_f) [] fresh 0 gives 15
    ∷ pick (program_f ++ (0 ∷ [])) [] fresh 0 gives 15
    ∷ run (take 816 program_f) [] fresh 0 gives 15
    ∷ run (program_f ++ (0 ∷ [])) [] fresh 0 gives 15
    -- with no state too
    ∷ pick (take 816 program_f) [] no_state 0 gives 15
    ∷ run (take 816 program_f) [] no_state 0 gives 15
    -- Does the state meet the shape test for the program handed in? (20) Slot 0 is not below P 0 either
    ∷ pick program_f [] no_state 0 gives 20
    ∷ run program_f [] no_state 0 gives 20
    -- a state that suits another program too, and one that does not: its task stands at instruction 1, and r1 has a record of block 2
    ∷ pick only_halt [] fresh 0 gives 0
    ∷ pick only_halt [] (after 2 (0 ∷ [])) 0 gives 20
    ∷ run only_halt [] (after 2 (0 ∷ [])) 0 gives 20
    ∷ []

-- ---- Question 20, and the states that just meet it

unfoldable pub shape_rows : List Row
shape_rows =
    -- P is 1, 2, 4, 8, 16, 32 or 64, and the interval 0 or 8 to 65,535
    pick_f (with_places 3 fresh) 0 gives 20
    ∷ pick_f (with_places 128 fresh) 0 gives 20
    ∷ pick_f (with_interval 7 fresh) 0 gives 20
    ∷ pick_f (with_interval 8 fresh) 0 gives 0
    ∷ pick_f (with_interval 65535 fresh) 0 gives 0
    ∷ pick_f (with_interval 65536 fresh) 0 gives 20
    -- the live tasks tile the slots: a task at depth d has P / 2^d places, and sits in the first of its slots with the others vacant
    ∷ pick_f (with_places 4 fresh) 0 gives 20
    ∷ pick_f (with_places 1 fresh) 0 gives 20
    ∷ pick_f (but 0 (places 1) fresh) 0 gives 20
    ∷ pick_f (but 0 (depth 1) fresh) 0 gives 20
    ∷ pick_f (copied 0 1 fresh) 0 gives 20
    ∷ pick_f (copied 63 1 forked) 0 gives 20
    ∷ pick_f (but 1 (places 2) forked) 0 gives 20
    -- no two sides of one fork have both ended
    ∷ pick_f (copied 0 1 parent_waits) 0 gives 20
    -- slots from P on are vacant; a vacant slot holds the one fixed record and 16 integers 0
    ∷ pick_f (copied 0 2 fresh) 0 gives 20
    ∷ pick_f (but 1 (register 15 (Int (pos 1))) fresh) 0 gives 20
    ∷ pick_f (but 63 (pc 1) fresh) 0 gives 20
    ∷ pick_f (but 1 (fork 0 (record { continuation = 2; depth = 0 })) fresh) 0 gives 20
    -- the program counter is below I
    ∷ pick_f (but 0 (pc 8) fresh) 0 gives 0
    ∷ pick_f (but 0 (pc 9) fresh) 0 gives 20
    -- Waiting only at a depth above 0, Halted only at depth 0, Faulted with a number from 31 to 38 and 16 integers 0
    ∷ pick_f (but 0 (status Waiting) fresh) 0 gives 20
    ∷ pick_f (but 0 (status Halted) parent_waits) 1 gives 20
    ∷ pick_f (but 0 (status (Faulted 30)) faulted) 0 gives 20
    ∷ pick_f (but 0 (status (Faulted 31)) faulted) 0 gives 22
    ∷ pick_f (but 0 (status (Faulted 38)) faulted) 0 gives 22
    ∷ pick_f (but 0 (status (Faulted 39)) faulted) 0 gives 20
    ∷ pick_f (but 0 (register 0 (Int (pos 1))) faulted) 0 gives 20
    -- a task that isn't running has program counter and counter 0
    ∷ pick_f (but 0 (pc 1) halted) 0 gives 20
    ∷ pick_f (but 0 (counter 1) parent_waits) 1 gives 20
    -- its open forks name join targets of the program, and its other fork entries are 0
    ∷ pick_f (but 0 (fork 0 (record { continuation = 3; depth = 0 })) forked) 0 gives 20
    ∷ pick_f (but 0 (fork 1 (record { continuation = 2; depth = 0 })) forked) 0 gives 20
    -- every label in its registers is below B, and every record's continuation a join target
    ∷ pick_f (but 0 (register 15 (Label 3)) fresh) 0 gives 0
    ∷ pick_f (but 0 (register 15 (Label 4)) fresh) 0 gives 20
    ∷ pick_f (but 0 (register 15 (Record 2 0)) fresh) 0 gives 0
    ∷ pick_f (but 0 (register 15 (Record 3 0)) fresh) 0 gives 20
    -- counter and span are at most the work, which is 2
    ∷ pick_f (but 0 (counter 2) forked) 0 gives 0
    ∷ pick_f (but 0 (counter 3) forked) 0 gives 20
    ∷ pick_f (but 0 (span 3) forked) 0 gives 20
    ∷ []

-- ---- Question 20 about stacks, of F in version 2

-- a pick of its task in a slot, with no words
abbrev pub pick_second : State → ℕ → Call
pick_second state slot = pick second_f [] state slot

-- a stack of this height in slot 0, with the value in its first entry, or in its last
abbrev pub on_stack : ℕ → Value → State
on_stack n v = but 0 (height n) (but 0 (entry 0 v) fresh)

abbrev pub on_top : ℕ → Value → State
on_top n v = but 0 (height n) (but 0 (entry 31 v) fresh)

unfoldable pub stack_rows : List Row
stack_rows =
    -- at most 32 values
    pick_second (but 0 (height 32) fresh) 0 gives 0
    ∷ pick_second (but 0 (height 33) fresh) 0 gives 20
    -- those on the stack are as those in registers
    ∷ pick_second (on_stack 1 (Int (pos 1))) 0 gives 0
    ∷ pick_second (on_stack 1 (Label 3)) 0 gives 0
    ∷ pick_second (on_stack 1 (Label 4)) 0 gives 20
    ∷ pick_second (on_stack 1 (Record 2 0)) 0 gives 0
    ∷ pick_second (on_stack 1 (Record 3 0)) 0 gives 20
    ∷ pick_second (on_top 32 (Label 3)) 0 gives 0
    ∷ pick_second (on_top 32 (Label 4)) 0 gives 20
    -- and above the height there is integer 0
    ∷ pick_second (on_stack 0 (Int (pos 1))) 0 gives 20
    ∷ pick_second (on_stack 0 (Label 0)) 0 gives 20
    ∷ pick_second (on_top 31 (Int (pos 1))) 0 gives 20
    -- a task that waits or has halted keeps its stack; one that has faulted has none
    ∷ pick_second (but 0 (height 1) parent_waits) 1 gives 0
    ∷ pick_second (but 0 (height 1) halted) 0 gives 22
    ∷ pick_second (but 0 (height 1) faulted) 0 gives 20
    ∷ pick_second (but 0 (entry 0 (Int (pos 1))) faulted) 0 gives 20
    -- nor has a vacant slot, below P or not
    ∷ pick_second (but 1 (height 1) fresh) 0 gives 20
    ∷ pick_second (but 1 (entry 31 (Int (pos 1))) fresh) 0 gives 20
    ∷ pick_second (but 63 (height 1) fresh) 0 gives 20
    -- Faulted with a number from 31 to 38, 42 or 43
    ∷ pick_second (but 0 (status (Faulted 41)) faulted) 0 gives 20
    ∷ pick_second (but 0 (status (Faulted 42)) faulted) 0 gives 22
    ∷ pick_second (but 0 (status (Faulted 43)) faulted) 0 gives 22
    ∷ pick_second (but 0 (status (Faulted 44)) faulted) 0 gives 20
    -- of which version 1 has not 42 and 43; the run asks as the pick does
    ∷ pick_f (but 0 (status (Faulted 42)) faulted) 0 gives 20
    ∷ pick_f (but 0 (status (Faulted 43)) faulted) 0 gives 20
    ∷ run program_f [] (but 0 (status (Faulted 42)) faulted) 0 gives 20
    ∷ run second_f [] (but 0 (status (Faulted 42)) faulted) 0 gives 0
    ∷ run second_f [] (but 0 (height 33) fresh) 0 gives 20
    ∷ []

-- ---- The pick's: 21 to 24

unfoldable pub slot_rows : List Row
slot_rows =
    -- with no state of the shape, a slot beyond P too
    pick_f (with_interval 7 fresh) 2 gives 20
    -- Slot below P? (21)
    ∷ pick_f fresh 2 gives 21
    ∷ pick_f (after 64 []) 63 gives 23
    ∷ pick_f (after 64 []) 64 gives 21
    -- the job has ended too
    ∷ pick_f halted 2 gives 21
    ∷ pick_f faulted 1 gives 21
    -- Job not ended? (22) No task runs there either
    ∷ pick_f halted 0 gives 22
    ∷ pick_f halted 1 gives 22
    ∷ pick_f faulted 0 gives 22
    -- A running task there? (23)
    ∷ pick_f fresh 0 gives 0
    ∷ pick_f fresh 1 gives 23
    ∷ pick_f forked 1 gives 0
    ∷ pick_f parent_waits 0 gives 23
    ∷ pick_f parent_waits 1 gives 0
    -- the work stands at the limit too
    ∷ pick_f (with_work 4294967295 halted) 0 gives 22
    ∷ pick_f (with_work 4294967295 fresh) 1 gives 23
    -- Work below 4,294,967,295? (24)
    ∷ pick_f (with_work 4294967294 fresh) 0 gives 0
    ∷ pick_f (with_work 4294967295 fresh) 0 gives 24
    ∷ []

-- ---- The run: what it says

unfoldable pub run_rows : List Row
run_rows =
    -- spent once it has carried out exactly the budget's picks; a job that ends on the last of those answers ended
    says program_f [] fresh 8 (spent 8)
    ∷ says program_f [] fresh 9 (ended 9)
    -- one that had ended before answers ended, 0 picks; failing that, budget 0 answers spent
    ∷ says program_f [] halted 5 (ended 0)
    ∷ says program_f [] faulted 0 (ended 0)
    ∷ says program_f [] fresh 0 (spent 0)
    -- or the work stands at the limit
    ∷ says program_f [] (with_work 4294967294 fresh) 5 (spent 1)
    ∷ says program_f [] (with_work 4294967295 fresh) 5 (spent 0)
    ∷ says program_f [] (with_work 4294967295 halted) 5 (ended 0)
    -- a state that does not meet the shape test
    ∷ says program_f [] no_state 5 (refused 20)
    ∷ []

unfoldable pub pick_rows : List Row
pick_rows = lent_rows ++ (shape_rows ++ (stack_rows ++ (slot_rows ++ run_rows)))
