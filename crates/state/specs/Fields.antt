-- Every number of a state within its field, and every array of its length: what the code's types ensure of each state that it holds.
use Rattle.std.specs.Prelude.{◌≡◌, ℕ, ◌^◌, ◌<◌, length, get_or}
use Rattle.std.specs.Int.{w64}
use Rattle.std.proofs.Common.{SFits}
use Rattle.task.specs.declared.Value.{Value}
use Rattle.task.specs.declared.Value.TheVariants.{Int, Label, Record}
use Rattle.task.specs.declared.Fork.{Fork}
use Rattle.task.specs.declared.Task.{Task}
use Rattle.task.specs.Frames.{zero_fork, zero_register, no_task}
use Rattle.drive.specs.declared.State.{State}
use Rattle.drive.specs.Slots.{Sized}
use Rattle.state.specs.State.{fault_number}

-- an integer of 64 bits; a block number and a depth of 32
abbrev pub ValueInField : Value → Type 0
ValueInField (Int z) = SFits w64 z
ValueInField (Label b) = b < 2 ^ 32
ValueInField (Record c d) = (c < 2 ^ 32) × (d < 2 ^ 32)

abbrev pub ForkInField : Fork → Type 0
ForkInField f = (f.continuation < 2 ^ 32) × (f.depth < 2 ^ 32)

pub record TaskInFields (t : Task) : Type 0 where
  pub fault : fault_number t.status < 256
  pub places : t.places < 2 ^ 64
  pub pc : t.pc < 2 ^ 16
  pub counter : t.counter < 2 ^ 32
  pub span : t.span < 2 ^ 32
  pub depth : t.depth < 2 ^ 32
  pub height : t.height < 2 ^ 32
  pub six_forks : length t.forks ≡ 6
  pub forks : (i : ℕ) → ForkInField (get_or t.forks i zero_fork)

pub record InFields (m : State) : Type 0 where
  pub places : m.places < 2 ^ 64
  pub interval : m.interval < 2 ^ 16
  pub work : m.work < 2 ^ 32
  pub sized : Sized m
  pub registers : (i : ℕ) → ValueInField (get_or m.bank i zero_register).value
  pub entries : (i : ℕ) → ValueInField (get_or m.stacks i zero_register).value
  pub tasks : (k : ℕ) → k < 64 → TaskInFields (get_or m.tasks k no_task)
