-- What is known of F, from the table of starred cases: nothing is computed again.
use Prim.Native.Nat.{ℕ}
use mathlib.Core.Path.{◌≡◌, refl}
use mathlib.Core.List.Memᴰ
use Rattle.task.specs.declared.Frame.{Frame}
use Rattle.drive.specs.declared.State.{State}
use Rattle.drive.specs.declared.End.{End}
use Rattle.drive.specs.declared.End.TheVariants.{Halt, Fault}
use Rattle.drive.specs.Ending.{end_of}
use Rattle.machine.specs.Starting.{empty}
use Rattle.image.specs.Doors.{image_no}
use Rattle.orders.specs.Demand.{Job, Accepted, Ends}
use Rattle.cases.specs.Cases.{Case, job_of, Right}
use Rattle.cases.specs.ProgramF.{image_f}
use Rattle.cases.specs.Table.{case_f, one_place, table}
use Rattle.cases.proofs.Starred.{starred_cases}

-- start accepts the job, and its plain evaluation ends so
pub record Known (j : Job) (end : End) (work span : ℕ) : Type 0 where
  pub accepted : Accepted j
  pub frame : Frame
  pub ends : Ends j frame work
  pub its_end : end_of frame ≡ end
  pub its_span : frame.task.span ≡ span

known : (x : Case) → Right x → Known (job_of x) x.outcome.end x.outcome.work x.outcome.span
known x r = record {
  accepted = r.start_accepted;
  frame = r.evaluated.0;
  ends = r.evaluated.1;
  its_end = r.evaluated.2.its_end;
  its_span = r.evaluated.2.its_span;
}

-- the state that start is called on
abbrev pub blank : State
blank = empty 0 0

abbrev pub F : Job
F = job_of case_f

-- with P 1
abbrev pub F1 : Job
F1 = job_of one_place

pub f-known : Known F Halt 9 7
unfolding case_f table
f-known = known case_f (starred_cases case_f (Memᴰ.head refl))

pub f1_known : Known F1 (Fault 37) 2 2
unfolding one_place table
f1_known = known one_place (starred_cases one_place (Memᴰ.tail (Memᴰ.head refl)))

pub f_read : image_no image_f ≡ 0
unfolding case_f table
f_read = (starred_cases case_f (Memᴰ.head refl)).image_accepted
