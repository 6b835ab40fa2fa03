-- What the run program prints for a job: F's output whole, and a text of each other kind.
use Rattle.std.specs.Prelude.{List, [], ◌∷◌, negsuc}
use Prim.Native.String.{String}
use Rattle.cases.specs.ProgramF.{image_f}
use Rattle.cases.specs.Assembly.{block, none, label, int, move, halt, assembled}
use Rattle.cases.specs.Calls.{calling, pop_in_sides, pushing}
use Rattle.doors.specs.Doors.{Row, prints}
use Rattle.doors.specs.Fields.{single, single_of}
use Rattle.doors.specs.Jobs.{job_of, job_f}

abbrev pub zeros_from3 : List String
zeros_from3 =
    "r3 int 0" ∷ "r4 int 0" ∷ "r5 int 0" ∷ "r6 int 0" ∷ "r7 int 0" ∷ "r8 int 0" ∷ "r9 int 0" ∷ "r10 int 0"
    ∷ "r11 int 0" ∷ "r12 int 0" ∷ "r13 int 0" ∷ "r14 int 0" ∷ "r15 int 0" ∷ []

unfoldable pub text_rows : List Row
text_rows =
    -- F with P 2, interval 0, r0 4, other registers 0, no words. Budget 1,000,000
    prints job_f 1000000 ("end halt" ∷ "work 9" ∷ "span 7" ∷ "r0 int 12" ∷ "r1 rec 2 0" ∷ "r2 int 7" ∷ zeros_from3)
    -- it ends on the last of nine picks
    ∷ prints job_f 9 ("end halt" ∷ "work 9" ∷ "span 7" ∷ "r0 int 12" ∷ "r1 rec 2 0" ∷ "r2 int 7" ∷ zeros_from3)
    -- end spent, and then the work line alone
    ∷ prints job_f 8 ("end spent" ∷ "work 8" ∷ [])
    ∷ prints job_f 0 ("end spent" ∷ "work 0" ∷ [])
    -- F with P 1: fault 37, work 2, span 2
    ∷ prints (job_of image_f 1 0 4 0) 1000000 ("end fault 37" ∷ "work 2" ∷ "span 2" ∷ "r0 int 0" ∷ "r1 int 0" ∷ "r2 int 0" ∷ zeros_from3)
    -- an integer below 0, and a label
    ∷ prints (job_of (assembled 1 (block none (move 0 (int (negsuc 41)) ∷ move 1 (label 0) ∷ halt ∷ []) ∷ [])) 1 0 0 0) 1000000
    ("end halt" ∷ "work 3" ∷ "span 3" ∷ "r0 int -42" ∷ "r1 lab 0" ∷ "r2 int 0" ∷ zeros_from3)
    -- version 2: a call and return, twice; 33 pushes; a child that pops its empty stack
    ∷ prints (job_of (assembled 2 calling) 1 0 4 0) 1000000
    ("end halt" ∷ "work 13" ∷ "span 13" ∷ "r0 int 16" ∷ "r1 lab 2" ∷ "r2 int 4" ∷ zeros_from3)
    ∷ prints (job_of (assembled 2 (pushing 33)) 1 0 4 0) 1000000
    ("end fault 42" ∷ "work 33" ∷ "span 33" ∷ "r0 int 0" ∷ "r1 int 0" ∷ "r2 int 0" ∷ zeros_from3)
    ∷ prints (job_of (assembled 2 pop_in_sides) 2 0 4 0) 1000000
    ("end fault 43" ∷ "work 6" ∷ "span 5" ∷ "r0 int 0" ∷ "r1 int 0" ∷ "r2 int 0" ∷ zeros_from3)
    -- a pop from the empty stack of the first task
    ∷ prints (job_of (single_of 2 17 0 0 0) 1 0 4 0) 1000000
    ("end fault 43" ∷ "work 1" ∷ "span 1" ∷ "r0 int 0" ∷ "r1 int 0" ∷ "r2 int 0" ∷ zeros_from3)
    -- refused n
    ∷ prints [] 1000000 ("refused 10" ∷ [])
    ∷ prints (job_of image_f 3 0 4 0) 1000000 ("refused 11" ∷ [])
    ∷ prints (job_of [] 2 0 4 0) 1000000 ("refused 1" ∷ [])
    ∷ prints (job_of (single 17 0 0 0) 1 0 4 0) 1000000 ("refused 8" ∷ [])
    ∷ prints (job_of (single_of 3 14 0 0 0) 1 0 4 0) 1000000 ("refused 3" ∷ [])
    ∷ []
