-- Faults inside a task, 31 to 38, 42 and 43, and where two questions of one instruction are both a no: document 01's order decides.
use Rattle.std.specs.Prelude.{cond, List, [], ◌∷◌, ◌++◌, map, ℕ, ◌-◌, ℤ, pos, negsuc, length, replicate}
use Rattle.std.proofs.lemmas.List.Edits.{sets}
use Rattle.image.specs.declared.Instruction.{Instruction}
use Rattle.image.specs.Layout.{instruction_cells, cells_in}
use Rattle.task.specs.declared.Value.{Value}
use Rattle.task.specs.declared.Value.TheVariants.{Int, Label, Record}
use Rattle.task.specs.declared.Status.TheVariants.{Running}
use Rattle.task.specs.declared.Fork.{Fork}
use Rattle.task.specs.declared.Frame.{Frame}
use Rattle.task.specs.Frames.{empty_stack, zero_register, zero_fork}
use Rattle.task.specs.Step.{with_height}
use Rattle.cases.specs.Assembly.{block, none, target, assoc, reg, label, int, instruction, move, divide, modulo, word, if_jump, jralloc, fork, jump, halt, join, push, pop, assembled}
use Rattle.doors.specs.Doors.{Call, Row, ◌gives◌, issue}
use Rattle.doors.specs.Fields.{is_last}

-- ---- The task that issues an instruction

-- block 1 is a join target, block 2 is not; block 0 has room for an instruction that goes on, or for one that ends its block
unfoldable pub going_on : List ℕ
going_on =
    cells_in (assembled 2 (block none (halt ∷ halt ∷ []) ∷ block (target assoc [] 2) (halt ∷ []) ∷ block none (halt ∷ []) ∷ []))

unfoldable pub ending : List ℕ
ending = cells_in (assembled 2 (block none (halt ∷ []) ∷ block (target assoc [] 2) (halt ∷ []) ∷ block none (halt ∷ []) ∷ []))

-- the instruction is the first of block 0
abbrev pub program : Instruction → List ℕ
program x = sets (cond (is_last x.opcode) ending going_on) 771 (instruction_cells x)

-- its registers: integers 0 and 5, labels of both blocks, and records: of block 1 at depth 0 and 1, of block 2 at depth 0
abbrev pub values : List Value
values = Int (pos 0) ∷ Int (pos 5) ∷ Label 1 ∷ Label 2 ∷ Record 1 0 ∷ Record 1 1 ∷ Record 2 0 ∷ []

abbrev pub int0 : ℕ
int0 = 0

abbrev pub int5 : ℕ
int5 = 1

abbrev pub lab1 : ℕ
lab1 = 2

abbrev pub lab2 : ℕ
lab2 = 3

abbrev pub rec10 : ℕ
rec10 = 4

abbrev pub rec11 : ℕ
rec11 = 5

abbrev pub rec20 : ℕ
rec20 = 6

-- the register that results go to
abbrev pub r : ℕ
r = 7

-- a running task with these places and open forks
abbrev pub task : ℕ → List Fork → Frame
task places forks = record {
  task = record {
    status = Running;
    places = places;
    pc = 0;
    counter = 0;
    span = 0;
    depth = length forks;
    height = 0;
    forks = forks ++ replicate (6 - length forks) zero_fork;
  };
  registers = map (λ v. record { value = v }) values ++ replicate (16 - length values) zero_register;
  stack = empty_stack;
}

abbrev pub under : ℕ → ℕ → Fork
under continuation depth = record { continuation = continuation; depth = depth }

-- no open fork; one, under the record (1, 0); two, the second under (1, 1)
abbrev pub alone : ℕ → Frame
alone places = task places []

abbrev pub inside : ℕ → Frame
inside places = task places (under 1 0 ∷ [])

abbrev pub nested : ℕ → Frame
nested places = task places (under 1 0 ∷ under 1 1 ∷ [])

-- with so many values on its stack, which are integers 0
abbrev pub holding : ℕ → Frame
holding n = record { task = with_height n (alone 1).task; registers = (alone 1).registers; stack = empty_stack }

-- the instruction issued by a task, with a call record of two words, and with an empty one
abbrev pub on_words : List ℤ → Instruction → Frame → Call
on_words words x f = issue (program x) words 0 f

abbrev pub on : Instruction → Frame → Call
on x f = on_words (pos 10 ∷ pos 20 ∷ []) x f

-- ---- The faults

-- r := s op v: Both operands integers? (31)
abbrev pub operation : ℕ → List Row
operation opcode =
    on (instruction opcode r int5 (int (pos 1))) (alone 1) gives 0
    ∷ on (instruction opcode r lab1 (int (pos 1))) (alone 1) gives 31
    ∷ on (instruction opcode r int5 (reg rec10)) (alone 1) gives 31
    ∷ []

unfoldable pub operations : List Row
operations = operation 2 ++ operation 3 ++ operation 4 ++ operation 5 ++ operation 6 ++ operation 7 ++ operation 8

unfoldable pub others : List Row
others =
    -- a move asks nothing
    on (move r (reg rec10)) (alone 1) gives 0
    -- Divisor not 0? (32) Its dividend is a label or a record too, or its divisor a label
    ∷ on (divide r int5 (int (pos 0))) (alone 1) gives 32
    ∷ on (divide r int5 (reg int0)) (alone 1) gives 32
    ∷ on (modulo r int5 (int (pos 0))) (alone 1) gives 32
    ∷ on (divide r int0 (reg int5)) (alone 1) gives 0
    ∷ on (divide r lab1 (int (pos 0))) (alone 1) gives 31
    ∷ on (modulo r rec10 (int (pos 0))) (alone 1) gives 31
    ∷ on (divide r int5 (label 0)) (alone 1) gives 31
    -- r := word v: Index an integer? (31) Inside the record? (33) A label beside an empty record is both
    ∷ on (word r (int (pos 0))) (alone 1) gives 0
    ∷ on (word r (int (pos 1))) (alone 1) gives 0
    ∷ on (word r (int (pos 2))) (alone 1) gives 33
    ∷ on (word r (int (negsuc 0))) (alone 1) gives 33
    ∷ on (word r (reg rec10)) (alone 1) gives 31
    ∷ on_words [] (word r (int (pos 0))) (alone 1) gives 33
    ∷ on_words [] (word r (label 1)) (alone 1) gives 31
    -- if-jump s, v: Register an integer? (31) Target a label? (34; only when it jumps)
    ∷ on (if_jump int0 (label 2)) (alone 1) gives 0
    ∷ on (if_jump int0 (int (pos 2))) (alone 1) gives 34
    ∷ on (if_jump int0 (reg rec10)) (alone 1) gives 34
    ∷ on (if_jump int5 (int (pos 2))) (alone 1) gives 0
    ∷ on (if_jump lab1 (label 2)) (alone 1) gives 31
    ∷ on (if_jump lab1 (int (pos 2))) (alone 1) gives 31
    ∷ on (if_jump rec10 (reg rec10)) (alone 1) gives 31
    -- jump v: Target a label? (34)
    ∷ on (jump (label 2)) (alone 1) gives 0
    ∷ on (jump (reg lab2)) (alone 1) gives 0
    ∷ on (jump (int (pos 2))) (alone 1) gives 34
    ∷ on (jump (reg rec10)) (alone 1) gives 34
    -- r := jralloc v: A label of a join target? (35)
    ∷ on (jralloc r (label 1)) (alone 1) gives 0
    ∷ on (jralloc r (reg lab1)) (alone 1) gives 0
    ∷ on (jralloc r (label 2)) (alone 1) gives 35
    ∷ on (jralloc r (label 0)) (alone 1) gives 35
    ∷ on (jralloc r (int (pos 1))) (alone 1) gives 35
    ∷ on (jralloc r (reg rec10)) (alone 1) gives 35
    -- fork s, v: A record that fits? (36) Its depth is above the task's; the fork opened beyond it belongs to another
    ∷ on (fork rec10 (label 2)) (alone 2) gives 0
    ∷ on (fork int0 (label 2)) (alone 2) gives 36
    ∷ on (fork lab1 (label 2)) (alone 2) gives 36
    ∷ on (fork rec11 (label 2)) (alone 2) gives 36
    ∷ on (fork rec10 (label 2)) (inside 2) gives 0
    ∷ on (fork rec11 (label 2)) (inside 2) gives 0
    ∷ on (fork rec20 (label 2)) (inside 2) gives 36
    ∷ on (fork rec10 (label 2)) (nested 2) gives 36
    ∷ on (fork rec11 (label 2)) (nested 2) gives 0
    -- Target a label? (34)
    ∷ on (fork rec10 (reg lab2)) (alone 2) gives 0
    ∷ on (fork rec10 (int (pos 2))) (alone 2) gives 34
    ∷ on (fork rec10 (reg rec10)) (alone 2) gives 34
    -- Two places to fork? (37)
    ∷ on (fork rec10 (label 2)) (alone 1) gives 37
    ∷ on (fork rec10 (label 2)) (alone 64) gives 0
    -- 36 before 34 before 37: all three, the first two, the first and the last, the last two
    ∷ on (fork int0 (int (pos 2))) (alone 1) gives 36
    ∷ on (fork int0 (int (pos 2))) (alone 2) gives 36
    ∷ on (fork int0 (label 2)) (alone 1) gives 36
    ∷ on (fork rec10 (int (pos 2))) (alone 1) gives 34
    -- join v: A record that fits? (36)
    ∷ on (join (reg rec10)) (alone 1) gives 0
    ∷ on (join (reg rec20)) (alone 1) gives 0
    ∷ on (join (reg rec11)) (alone 1) gives 36
    ∷ on (join (int (pos 1))) (alone 1) gives 36
    ∷ on (join (label 1)) (alone 1) gives 36
    ∷ on (join (reg rec10)) (inside 1) gives 0
    ∷ on (join (reg rec11)) (inside 1) gives 0
    ∷ on (join (reg rec20)) (inside 1) gives 36
    ∷ on (join (reg rec10)) (nested 1) gives 36
    ∷ on (join (reg rec11)) (nested 1) gives 0
    -- No open fork at halt? (38)
    ∷ on halt (alone 1) gives 0
    ∷ on halt (inside 1) gives 38
    ∷ on halt (nested 1) gives 38
    ∷ []

unfoldable pub on_stacks : List Row
on_stacks =
    -- push v: A place left on the stack? (42) Whatever the value
    on (push (int (pos 1))) (holding 0) gives 0
    ∷ on (push (label 2)) (holding 0) gives 0
    ∷ on (push (reg rec10)) (holding 0) gives 0
    ∷ on (push (int (pos 1))) (holding 31) gives 0
    ∷ on (push (int (pos 1))) (holding 32) gives 42
    ∷ on (push (reg rec10)) (holding 32) gives 42
    -- pop r: Something on it? (43)
    ∷ on (pop r) (holding 0) gives 43
    ∷ on (pop r) (holding 1) gives 0
    ∷ on (pop r) (holding 32) gives 0
    -- another instruction asks nothing of it
    ∷ on (move r (int (pos 1))) (holding 32) gives 0
    ∷ on halt (holding 32) gives 0
    ∷ []

unfoldable pub fault_rows : List Row
fault_rows = operations ++ (others ++ on_stacks)
