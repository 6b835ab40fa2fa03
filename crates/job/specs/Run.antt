-- The run of a job given by its bytes: a fresh start, and then a run with a budget.
use Rattle.std.specs.Prelude.{cond, List, ℕ, eqb, length}
use Rattle.std.proofs.lemmas.List.Edits.{sets}
use Rattle.image.specs.Questions.{ask, or_else}
use Rattle.machine.specs.Starting.{empty}
use Rattle.drive.specs.Courses.{Run}
use Rattle.drive.specs.Passes.{run_from}
use Rattle.orders.specs.Demand.{start_on}
use Rattle.report.specs.declared.Report.{Report}
use Rattle.report.specs.Report.{report_of, report_length}
use Rattle.report.specs.Text.{text_of, refused_text, text_room}
use Rattle.job.specs.Job.{job_no}
use Rattle.job.specs.Replay.{job_in}

abbrev pub run_in : List ℕ → ℕ → Run ℕ
run_in bytes budget = let j = job_in bytes in run_from j.cells j.words (start_on j (empty 0 0)) 0 budget

abbrev pub report_in : List ℕ → ℕ → Report
report_in bytes budget = report_of (run_in bytes budget).state (run_in bytes budget).picks

-- the job's questions, then: the report's buffer of the length docs/ names? (15)
unfoldable pub run_no : List ℕ → ℕ → ℕ
run_no bytes lent = or_else (job_no bytes) (ask (eqb lent report_length) 15 0)

-- ---- What the run program prints

unfoldable pub text_in : List ℕ → ℕ → List ℕ
text_in bytes budget = cond (eqb (job_no bytes) 0) (text_of (report_in bytes budget)) (refused_text (job_no bytes))

-- the text's length, or 0 where the text's buffer has not the length that docs/ names
unfoldable pub text_length : List ℕ → ℕ → ℕ → ℕ
text_length bytes budget lent = cond (eqb lent text_room) (length (text_in bytes budget)) 0

-- the buffer then: the text at its front, and what was there after it; one of another length stays as it was
unfoldable pub text_stored : List ℕ → ℕ → List ℕ → List ℕ
text_stored bytes budget out = cond (eqb (length out) text_room) (sets out 0 (text_in bytes budget)) out
