-- What `replay` hands back: the state after an order from a fresh start, or a blank one where start refused.
use Rattle.std.specs.Prelude.{List, ℕ, ℤ}
use Rattle.image.specs.Doors.{unless_refused}
use Rattle.drive.specs.declared.State.{State}
use Rattle.machine.specs.Starting.{empty}
use Rattle.orders.specs.Demand.{Job, start_on, played}

abbrev pub job_of : List ℕ → ℕ → ℕ → List ℤ → List ℤ → Job
job_of cells places interval registers words = record { cells = cells; places = places; interval = interval; registers = registers; words = words }

-- start is called on a blank state
abbrev pub replayed : ℕ → Job → List ℕ → State
replayed answer j order = unless_refused answer (played j (start_on j (empty 0 0)) order) (empty 0 0)
