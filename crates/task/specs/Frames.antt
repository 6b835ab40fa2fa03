-- A frame is a task record with its 16 registers and its stack of 32 values. The fixed ones: a vacant slot's, and a job's first.
use Rattle.std.specs.Prelude.{Bool, true, false, List, [], map, ℕ, ℤ, pos, replicate}
use Rattle.std.proofs.Math.Option.{Option, none, some}
use Rattle.task.specs.declared.Value.TheVariants.{Int}
use Rattle.task.specs.declared.Register.{Register}
use Rattle.task.specs.declared.Status.{Status}
use Rattle.task.specs.declared.Status.TheVariants.{Vacant, Running, Waiting, Halted, Faulted}
use Rattle.task.specs.declared.Fork.{Fork}
use Rattle.task.specs.declared.Task.{Task}
use Rattle.task.specs.declared.Frame.{Frame}

abbrev pub zero_register : Register
zero_register = record { value = Int (pos 0) }

-- 16 integers 0
abbrev pub zeros : List Register
zeros = replicate 16 zero_register

-- the values of a task's stack, and of the stacks of all 64 slots
abbrev pub stack_length : ℕ
stack_length = 32

abbrev pub stacks_length : ℕ
stacks_length = 2048

-- 32 integers 0
abbrev pub empty_stack : List Register
empty_stack = replicate stack_length zero_register

abbrev pub zero_fork : Fork
zero_fork = record { continuation = 0; depth = 0 }

abbrev pub no_forks : List Fork
no_forks = replicate 6 zero_fork

abbrev pub vacant_task : Task
vacant_task = record { status = Vacant; places = 0; pc = 0; counter = 0; span = 0; depth = 0; height = 0; forks = no_forks }

-- what a slot without a task holds
abbrev pub vacant : Frame
vacant = record { task = vacant_task; registers = zeros; stack = empty_stack }

-- what the code's logic reads past the end of an array of task records
abbrev pub no_task : Task
no_task = record { status = Vacant; places = 0; pc = 0; counter = 0; span = 0; depth = 0; height = 0; forks = [] }

abbrev pub is_running : Status → Bool
is_running Vacant = false
is_running Running = true
is_running Waiting = false
is_running Halted = false
is_running (Faulted n) = false

abbrev pub running : Frame → Bool
running f = is_running f.task.status

-- the number of the fault that a task has ended with
abbrev pub fault_of : Status → Option ℕ
fault_of Vacant = none
fault_of Running = none
fault_of Waiting = none
fault_of Halted = none
fault_of (Faulted n) = some n

-- the start registers are integers
abbrev pub integers : List ℤ → List Register
integers zs = map (λ z. record { value = Int z }) zs

-- all P places, block 0 (which starts at 0), counter and span 0, no open fork, an empty stack
abbrev pub start_frame : ℕ → List Register → Frame
start_frame places registers = record {
  task = record { status = Running; places = places; pc = 0; counter = 0; span = 0; depth = 0; height = 0; forks = no_forks };
  registers = registers;
  stack = empty_stack;
}

-- the most work that a state can show (24): no counter and no span is above it
abbrev pub work_limit : ℕ
work_limit = 4294967295

-- the registers of a state: 16 of each of 64 slots
abbrev pub bank_length : ℕ
bank_length = 1024
