-- The dispatcher: rounds on 1 to 8 lanes, at most so many.
use Rattle.std.specs.Prelude.{Bool, false, cond, ◌&&◌, List, ℕ, eqb, leb, ℤ, length, Ok, Err, Result}
use Rattle.image.specs.declared.refusal.Refusal.{Refusal}
use Rattle.image.specs.Refusals.{number}
use Rattle.image.specs.Layout.{program_of}
use Rattle.image.specs.Questions.{ask, or_else}
use Rattle.drive.specs.declared.State.{State}
use Rattle.drive.specs.Ending.{job_ended}
use Rattle.drive.specs.Shape.{shape}
use Rattle.drive.specs.Courses.{Run}
use Rattle.drive.specs.Rounds.{Rounding, rounds_from}
use Rattle.machine.specs.declared.Machine.{Machine}
use Rattle.machine.specs.declared.Rounds.{Rounds}
use Rattle.machine.specs.Dispatched.{Dispatched}
use Rattle.machine.specs.Picking.{call_no}

abbrev pub lanes_allowed : ℕ → Bool
lanes_allowed lanes = leb 1 lanes && leb lanes 8

-- A call's questions, then: 1 to 8 lanes? (41) Does the state meet the shape test? (20)
unfoldable pub dispatch_no_by : List ℕ → ℕ → ℕ → State → ℕ
dispatch_no_by cells words lanes m =
    or_else (call_no cells words) (ask (lanes_allowed lanes) 41 (ask (shape (program_of cells) m) 20 0))

abbrev pub dispatch_no : List ℕ → List ℤ → ℕ → State → ℕ
dispatch_no cells words lanes m = dispatch_no_by cells (length words) lanes m

-- Ended, or spent: it says which, the rounds begun and the picks carried out. A refused dispatcher hands back the old state
abbrev pub dispatched_by : ℕ → State → Run Rounding → Dispatched
dispatched_by refusal m r =
    cond (eqb refusal 0)
    (record { no = 0; ended = job_ended r.state; rounds = r.kept.done; picks = r.picks; machine = record { state = r.state } })
    (record { no = refusal; ended = false; rounds = 0; picks = 0; machine = record { state = m } })

unfoldable pub dispatched : List ℕ → List ℤ → State → ℕ → ℕ → Dispatched
dispatched cells words m lanes budget = dispatched_by (dispatch_no cells words lanes m) m (rounds_from cells words m lanes budget)

-- what the code hands back: a refused dispatcher 0 rounds and 0 picks, and not that the job has ended
abbrev pub dispatched_of : Machine → Result Rounds Refusal → Dispatched
dispatched_of machine (Ok r) = record { machine = machine; rounds = r.rounds; picks = r.picks; no = 0; ended = r.ended }
dispatched_of machine (Err r) = record { machine = machine; rounds = 0; picks = 0; no = number r; ended = false }
