-- The state's bytes: the whole state as 10,499 numbers of 64 bits, little-endian.
use Rattle.std.specs.Prelude.{List, [], ◌∷◌, ◌++◌, ℕ, ◌+◌, ◌*◌, get_or}
use Rattle.image.specs.Layout.{rows}
use Rattle.task.specs.declared.Status.{Status}
use Rattle.task.specs.declared.Status.TheVariants.{Vacant, Running, Waiting, Halted, Faulted}
use Rattle.task.specs.declared.Register.{Register}
use Rattle.task.specs.declared.Fork.{Fork}
use Rattle.task.specs.declared.Task.{Task}
use Rattle.task.specs.Frames.{stack_length, zero_fork, zero_register, no_task}
use Rattle.drive.specs.declared.State.{State}
use Rattle.state.specs.Numbers.{value_numbers, in_bytes}

abbrev pub status_number : Status → ℕ
status_number Vacant = 0
status_number Running = 1
status_number Waiting = 2
status_number Halted = 3
status_number (Faulted n) = 4

-- 0 where the task has not ended with a fault
abbrev pub fault_number : Status → ℕ
fault_number Vacant = 0
fault_number Running = 0
fault_number Waiting = 0
fault_number Halted = 0
fault_number (Faulted n) = n

abbrev pub fork_numbers : Fork → List ℕ
fork_numbers f = f.continuation ∷ f.depth ∷ []

-- status, fault number, places, program counter, counter, span, depth, then six forks: all of a task record but its stack's height
abbrev pub task_numbers : Task → List ℕ
task_numbers t =
    status_number t.status ∷ fault_number t.status ∷ t.places ∷ t.pc ∷ t.counter ∷ t.span ∷ t.depth
    ∷ rows (λ i. fork_numbers (get_or t.forks i zero_fork)) 6

-- the numbers of n values of an array, from its element `first` on
abbrev pub values_from : List Register → ℕ → ℕ → List ℕ
values_from values first n = rows (λ i. value_numbers (get_or values (first + i) zero_register).value) n

-- a slot's 164 numbers: the task record, its 16 registers, its stack's height, then the stack's 32 values
unfoldable pub slot_numbers : State → ℕ → List ℕ
slot_numbers m k =
    task_numbers (get_or m.tasks k no_task)
    ++ (values_from m.bank (16 * k) 16
    ++ ((get_or m.tasks k no_task).height ∷ values_from m.stacks (32 * k) stack_length))

-- P, interval, work, then the 64 slots
unfoldable pub state_numbers : State → List ℕ
state_numbers m = m.places ∷ m.interval ∷ m.work ∷ rows (slot_numbers m) 64

abbrev pub state_length : ℕ
state_length = 83992

abbrev pub state_bytes : State → List ℕ
state_bytes m = in_bytes (state_numbers m)
