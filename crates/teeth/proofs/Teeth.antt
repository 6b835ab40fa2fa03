-- The demands are false of every wrong machine of document 01's list.
use native.Mathlib.Omega.{arith}
use Rattle.teeth.specs.Teeth.{Teeth}
use Rattle.teeth.proofs.Picks.{always_says_lem, its_alters_nothing, nothing_issued, its_alters_work_alone, its_work_doubled, its_work_shown, its_span_shown, its_one_ending}
use Rattle.teeth.proofs.WholeJob.{its_whole_job_first, whole_job_at_once}
use Rattle.teeth.proofs.Runs.{its_spent_at_once, its_spent_unworked, its_spent_one_short, its_spent_when_ended}
use Rattle.teeth.proofs.Doors.{its_reader_refusing, its_start_refusing, accepted_jobs_only}

pub teeth : Teeth
teeth = record {
  always_23 = always_says_lem 23 (λ e. omega arith);
  its_spent_at_once = its_spent_at_once;
  its_spent_unworked = its_spent_unworked;
  its_spent_one_short = its_spent_one_short;
  its_spent_when_ended = its_spent_when_ended;
  its_work_doubled = its_work_doubled;
  its_work_shown = its_work_shown;
  its_span_shown = its_span_shown;
  its_whole_job_first = its_whole_job_first;
  whole_job_at_once = whole_job_at_once;
  its_alters_nothing = its_alters_nothing;
  nothing_issued = nothing_issued;
  its_alters_work_alone = its_alters_work_alone;
  its_one_ending = its_one_ending;
  its_reader_refusing = its_reader_refusing;
  its_start_refusing = its_start_refusing;
  accepted_jobs_only = accepted_jobs_only;
}
