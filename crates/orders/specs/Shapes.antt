-- What the shape test of question 20 ensures, of every state that meets it, reached or not. `proofs/Shapes.antt` proves it.
use Rattle.std.specs.Prelude.{ℕ, ◌<◌, ◌≡◌, true, false, List, eqb, leb, ℤ, length}
use Rattle.agreement.specs.Places.{held_from}
use Rattle.image.specs.Layout.{program_cells, program_of}
use Rattle.image.specs.Questions.{program_no}
use Rattle.task.specs.declared.Status.{Status}
use Rattle.task.specs.declared.Status.TheVariants.{Vacant, Running, Waiting, Halted, Faulted}
use Rattle.task.specs.Frames.{running, work_limit}
use Rattle.drive.specs.declared.State.{State}
use Rattle.drive.specs.Slots.{at, Sized}
use Rattle.drive.specs.Ending.{job_ended}
use Rattle.machine.specs.Starting.{most_words}
use Rattle.drive.specs.Shape.{shape}
use Rattle.machine.specs.Picking.{pick_no, picked}
use Rattle.orders.specs.Demand.{Job, Accepted, start_on, played}

-- the places of a slot with a task
abbrev pub held_as : Status → ℕ → ℕ
held_as Vacant places = 0
held_as Running places = places
held_as Waiting places = places
held_as Halted places = places
held_as (Faulted n) places = places

-- the places of all running and waiting tasks, a task that ended the job included
abbrev pub places_held : State → ℕ
places_held m = held_from at (λ f. held_as f.task.status f.task.places) 64 m 0

-- meets the shape test for a program
pub record Meets (cells : List ℕ) (m : State) : Type 0 where
  pub sized : Sized m
  pub shaped : shape (program_of cells) m ≡ true

-- of a state m, for every pick
pub record ShapeEnsures (cells : List ℕ) (words : List ℤ) (m : State) : Type 0 where
  pub pick_meets : (k : ℕ) → Meets cells (picked cells words m k)
  pub keeps_places : (k : ℕ) → (picked cells words m k).places ≡ m.places
  pub keeps_interval : (k : ℕ) → (picked cells words m k).interval ≡ m.interval
  pub places_add_up : places_held m ≡ m.places
  -- a job that hasn't ended has a running task, and one that has ended has none
  pub open_runs : job_ended m ≡ false → (k : ℕ) × (k < m.places) × (running (at m k) ≡ true)
  pub ended_idle : job_ended m ≡ true → (k : ℕ) → k < m.places → running (at m k) ≡ false
  -- below the limit, with lent buffers that 14 and 15 let pass, a running task can be picked
  pub running_pickable : leb (length words) most_words ≡ true → eqb (length cells) program_cells ≡ true
      → (k : ℕ) → k < m.places → running (at m k) ≡ true → m.work < work_limit → pick_no cells words m k ≡ 0

abbrev pub EveryShape : Type 0
EveryShape = (cells : List ℕ) (words : List ℤ) (m : State) → program_no cells ≡ 0 → Meets cells m → ShapeEnsures cells words m

-- each state left by start or a carried-out pick meets it for that call's program: so after every order
abbrev pub EveryOrderMeets : Type 0
EveryOrderMeets = (j : Job) → Accepted j → (m : State) (ks : List ℕ) → Meets j.cells (played j (start_on j m) ks)
