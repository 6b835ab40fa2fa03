-- What is proved: the demands hold of our machine (`proofs/Ours.antt`), and each wrong machine breaks one (`proofs/Teeth.antt`).
use Rattle.std.specs.Prelude.{ℕ, ◌≡◌}
use Rattle.task.specs.declared.Status.{Status}
use Rattle.image.specs.Doors.{image_no}
use Rattle.machine.specs.Running.{outcome}
use Rattle.orders.specs.Demand.{Demand3Of, ours}
use Rattle.teeth.specs.Demands.{NoGoodImageRefused, NoGoodJobRefused, EachPickIssues, SpentWhenDue}
use Rattle.teeth.specs.Machines.{reader_refusing, start_refusing, always_says, alters_nothing, alters_work_alone, whole_job_first}
use Rattle.teeth.specs.Machines.{work_doubled, work_shown, span_shown, one_ending, spent_at_once, spent_unworked, spent_one_short, spent_when_ended}

pub record Ours : Type 0 where
  pub whatever_the_order : Demand3Of ours
  pub each_pick_issues : EachPickIssues ours
  pub no_good_job_refused : NoGoodJobRefused ours
  pub no_good_image_refused : NoGoodImageRefused image_no
  pub spent_when_due : SpentWhenDue outcome

pub record Teeth : Type 0 where
  -- a pick that always says 23
  pub always_23 : Demand3Of (always_says 23) → ⊥
  -- a run saying spent early
  pub its_spent_at_once : SpentWhenDue spent_at_once → ⊥
  pub its_spent_unworked : SpentWhenDue spent_unworked → ⊥
  pub its_spent_one_short : SpentWhenDue spent_one_short → ⊥
  pub its_spent_when_ended : SpentWhenDue spent_when_ended → ⊥
  -- a work or span made up, whichever number is shown
  pub its_work_doubled : Demand3Of work_doubled → ⊥
  pub its_work_shown : (w : ℕ) → Demand3Of (work_shown w) → ⊥
  pub its_span_shown : (s : ℕ) → Demand3Of (span_shown s) → ⊥
  -- a pick that runs the whole job first and idles later
  pub its_whole_job_first : Demand3Of whole_job_first → ⊥
  pub whole_job_at_once : EachPickIssues whole_job_first → ⊥
  -- or alters nothing
  pub its_alters_nothing : Demand3Of alters_nothing → ⊥
  pub nothing_issued : EachPickIssues alters_nothing → ⊥
  pub its_alters_work_alone : Demand3Of alters_work_alone → ⊥
  -- one ending for all jobs, whichever it is
  pub its_one_ending : (s : Status) → Demand3Of (one_ending s) → ⊥
  -- a reader refusing all images, and a start refusing all jobs, whichever number they say
  pub its_reader_refusing : (n : ℕ) → (n ≡ 0 → ⊥) → NoGoodImageRefused (reader_refusing n) → ⊥
  pub its_start_refusing : (n : ℕ) → (n ≡ 0 → ⊥) → NoGoodJobRefused (start_refusing n) → ⊥
  -- demand 3 speaks of accepted jobs only, and does not see the last one
  pub accepted_jobs_only : (n : ℕ) → (n ≡ 0 → ⊥) → Demand3Of (start_refusing n)
