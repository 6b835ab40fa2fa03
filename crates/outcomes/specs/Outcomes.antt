-- What a job's run hands out is a function of what the job's plain evaluation comes to within the budget: which slots the run picked, and
-- in which order, doesn't show. So code that finds this outcome in another way, with no slots and no state, hands out the same report.
-- `proofs/Reports.antt` proves it. It rests on serial's `within_budget` (an evaluation's outcome within a budget), orders' Demand (the
-- evaluation of a job) and Runs (the budgeted run), and report's `report_of` (the report of a run).
use Rattle.std.specs.Prelude.{ℕ, ◌-◌, min, ◌≡◌}
use Rattle.serial.specs.Serial.{Outcome, spent, done, within_budget}
use Rattle.task.specs.declared.Frame.{Frame}
use Rattle.task.specs.Frames.{zeros, work_limit}
use Rattle.drive.specs.declared.State.{State}
use Rattle.drive.specs.declared.End.TheVariants.{NotEnded}
use Rattle.drive.specs.Ending.{end_of}
use Rattle.orders.specs.Demand.{Job, Accepted, start_on, evaluation}
use Rattle.orders.specs.Runs.{run}
use Rattle.report.specs.declared.Report.{Report}
use Rattle.report.specs.Report.{report_of}

-- the instructions that a budget allows: a state's work has a limit (24), whatever the budget
abbrev pub allowance : ℕ → ℕ
allowance budget = min budget work_limit

-- what a job's plain evaluation comes to within n instructions. (Where it runs out of its fuel, and where it ends with more work than n, it
-- is spent)
abbrev pub plain_outcome : Job → ℕ → Outcome Frame
plain_outcome j n = within_budget n (evaluation j work_limit)

-- The report of what an evaluation came to within n instructions, each of them a pick. Done: it ended as its task did, by halt or by a
-- fault, its work is what is not left of n, and span and registers are the task's. Spent: all n were issued, and the work alone is reported
abbrev pub report_from : ℕ → Outcome Frame → Report
report_from n (done e left) = record {
  end = end_of e;
  picks = n - left;
  work = n - left;
  span = e.task.span;
  registers = e.registers;
}
report_from n spent = record { end = NotEnded; picks = n; work = n; span = 0; registers = zeros }

-- ---- The statement

-- for every job that start does not refuse, whatever state it was called on, and every budget: the report of the run is that of the plain
-- evaluation within what the budget allows
abbrev pub RunIsPlain : Type 0
RunIsPlain =
    (j : Job) → Accepted j → (m : State) (budget : ℕ)
    → let r = run j (start_on j m) budget in
    report_of r.state r.picks ≡ report_from (allowance budget) (plain_outcome j (allowance budget))
