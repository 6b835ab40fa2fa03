-- The report of an accepted job, given by its bytes, is that of the job's plain evaluation within what the budget allows.
use Prim.Native.Nat.{ℕ}
use mathlib.Core.Path.{◌≡◌}
use mathlib.Core.List.{List}
use Rattle.machine.specs.Starting.{empty}
use Rattle.outcomes.specs.Outcomes.{allowance, plain_outcome, report_from}
use Rattle.outcomes.proofs.Reports.{run_is_plain}
use Rattle.job.specs.Job.{job_no}
use Rattle.job.specs.Replay.{job_in}
use Rattle.job.specs.Run.{report_in}
use Rattle.job.proofs.Replaying.{start-agrees}

pub report_is_plain : (bytes : List ℕ) → job_no bytes ≡ 0 → (budget : ℕ)
    → report_in bytes budget ≡ report_from (allowance budget) (plain_outcome (job_in bytes) (allowance budget))
report_is_plain bytes accepted budget = run_is_plain (job_in bytes) (start-agrees bytes accepted) (empty 0 0) budget
