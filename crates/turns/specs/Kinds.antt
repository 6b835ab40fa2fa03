-- What each kind of step leaves of the task's record. Only the loop's small functions cite these.
use Rattle.std.specs.Prelude.{Bool, true, false, cond, ℕ, ◌+◌, ◌-◌, ◌/◌, ltb, set}
use Rattle.task.specs.declared.Kind.{Kind}
use Rattle.task.specs.declared.Kind.TheVariants.{Stores, Goes, Pushes, Pops, Waits, Halts, Faults, Forks}
use Rattle.task.specs.declared.Status.{Status}
use Rattle.task.specs.declared.Status.TheVariants.{Running, Waiting, Halted, Faulted}
use Rattle.task.specs.declared.Fork.{Fork}
use Rattle.task.specs.declared.Task.{Task}
use Rattle.task.specs.Frames.{stack_length}
use Rattle.task.specs.Step.{with_height, counted, moved_to}

-- the task runs on alone, with the stack that it had
abbrev pub runs_on : Kind → Bool
runs_on Stores = true
runs_on Goes = true
runs_on Pushes = false
runs_on Pops = false
runs_on Waits = false
runs_on Halts = false
runs_on Faults = false
runs_on Forks = false

abbrev pub stores_it : Kind → Bool
stores_it Stores = true
stores_it Goes = false
stores_it Pushes = false
stores_it Pops = false
stores_it Waits = false
stores_it Halts = false
stores_it Faults = false
stores_it Forks = false

-- where it has faulted, with the fault's number n
abbrev pub status_of : Kind → ℕ → Status
status_of Stores n = Running
status_of Goes n = Running
status_of Pushes n = Running
status_of Pops n = Running
status_of Waits n = Waiting
status_of Halts n = Halted
status_of Faults n = Faulted n
status_of Forks n = Running

-- a fault empties the stack
abbrev pub height_left : Kind → ℕ → ℕ
height_left Stores h = h
height_left Goes h = h
height_left Pushes h = h
height_left Pops h = h
height_left Waits h = h
height_left Halts h = h
height_left Faults h = 0
height_left Forks h = h

-- ---- a push or a pop, of a task whose stack has h values

abbrev pub stacks_it : Kind → Bool
stacks_it Stores = false
stacks_it Goes = false
stacks_it Pushes = true
stacks_it Pops = true
stacks_it Waits = false
stacks_it Halts = false
stacks_it Faults = false
stacks_it Forks = false

abbrev pub pops_it : Kind → Bool
pops_it Stores = false
pops_it Goes = false
pops_it Pushes = false
pops_it Pops = true
pops_it Waits = false
pops_it Halts = false
pops_it Faults = false
pops_it Forks = false

-- a place left on the stack? (42) Something on it? (43) The kind is a push, or a pop
abbrev pub stack_no : Bool → ℕ → ℕ
stack_no false h = cond (ltb h stack_length) 0 42
stack_no true h = cond (ltb 0 h) 0 43

-- the entry that it fills, or empties, and the height after it
abbrev pub entry_of : Bool → ℕ → ℕ
entry_of false h = h
entry_of true h = h - 1

abbrev pub height_after : Bool → ℕ → ℕ
height_after false h = h + 1
height_after true h = h - 1

-- the task goes on
abbrev pub restacked_by : Bool → Task → ℕ → ℕ → Task
restacked_by pops t pc counter = with_height (height_after pops t.height) (moved_to pc counter (counted t))

-- ---- a fork

-- the parent's side of a fork
abbrev pub side_of : Task → Fork → ℕ → ℕ → Task
side_of t under pc counter = record {
  status = Running;
  places = t.places / 2;
  pc = pc;
  counter = counter;
  span = t.span + 1;
  depth = t.depth + 1;
  height = t.height;
  forks = set t.forks t.depth under;
}
