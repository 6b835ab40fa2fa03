-- The budgeted run: passes over the slots, from slot 0 on.
use Rattle.std.specs.Prelude.{false, cond, List, ℕ, eqb, ℤ, Ok, Err, Result}
use Rattle.image.specs.declared.refusal.Refusal.{Refusal}
use Rattle.image.specs.Refusals.{number}
use Rattle.drive.specs.declared.State.{State}
use Rattle.machine.specs.declared.Machine.{Machine}
use Rattle.machine.specs.declared.Ran.{Ran}
use Rattle.machine.specs.Outcome.{Outcome}
use Rattle.drive.specs.Ending.{job_ended}
use Rattle.machine.specs.Picking.{state_no}
use Rattle.drive.specs.Courses.{Run}
use Rattle.drive.specs.Passes.{run_from}

module _ (cells : List ℕ) (words : List ℤ) where
  -- The pick's questions up to 20 apply first. Ended, or spent: it says which, and the picks carried out. A refused run hands back the old state
  abbrev pub outcome_by : ℕ → State → Run ℕ → Outcome
  outcome_by refusal m r =
      cond (eqb refusal 0) (record { no = 0; ended = job_ended r.state; picks = r.picks; machine = record { state = r.state } })
      (record { no = refusal; ended = false; picks = 0; machine = record { state = m } })

  unfoldable pub outcome : State → ℕ → Outcome
  outcome m budget = outcome_by (state_no cells words m) m (run_from cells words m 0 budget)

-- what the code hands back: a refused run 0 picks, and not that the job has ended
abbrev pub outcome_of : Machine → Result Ran Refusal → Outcome
outcome_of machine (Ok ran) = record { machine = machine; picks = ran.picks; no = 0; ended = ran.ended }
outcome_of machine (Err r) = record { machine = machine; picks = 0; no = number r; ended = false }
