-- The dispatcher of a job given by its bytes: a fresh start, and then rounds on lanes.
use Rattle.std.specs.Prelude.{List, ℕ, eqb}
use Rattle.image.specs.Questions.{ask, or_else}
use Rattle.drive.specs.Courses.{Run}
use Rattle.drive.specs.Rounds.{Rounding, rounds_from}
use Rattle.machine.specs.Starting.{empty}
use Rattle.machine.specs.Dispatching.{lanes_allowed}
use Rattle.orders.specs.Demand.{start_on}
use Rattle.report.specs.Report.{report_of, rounds_report_length, rounds_report_bytes}
use Rattle.job.specs.Job.{job_no}
use Rattle.job.specs.Replay.{job_in}

abbrev pub rounds_in : List ℕ → ℕ → ℕ → Run Rounding
rounds_in bytes lanes budget = let j = job_in bytes in rounds_from j.cells j.words (start_on j (empty 0 0)) lanes budget

abbrev pub rounds_report_in : List ℕ → ℕ → ℕ → List ℕ
rounds_report_in bytes lanes budget =
    let r = rounds_in bytes lanes budget in rounds_report_bytes (report_of r.state r.picks) r.kept.done

-- the job's questions, then: the report's buffer of the length docs/ names? (15) 1 to 8 lanes? (41)
unfoldable pub dispatch_job_no : List ℕ → ℕ → ℕ → ℕ
dispatch_job_no bytes lanes lent = or_else (job_no bytes) (ask (eqb lent rounds_report_length) 15 (ask (lanes_allowed lanes) 41 0))
