-- A pick that runs the whole job first and idles later: F with P 1 has ended after one pick, and its evaluation has the work 2.
use Prim.Native.Nat.{ℕ}
use mathlib.Core.Path.{◌≡◌, sym, ap, ◌∙◌}
use mathlib.Core.Bool.{true, cond}
use mathlib.Core.List.{List}
use native.Mathlib.Omega.{arith}
use lib.Dec.{eqb}
use lib.IntN.{ℤ}
use Rattle.image.specs.Doors.{unless_refused}
use Rattle.drive.specs.declared.State.{State}
use Rattle.drive.specs.Slots.{ticked}
use Rattle.drive.specs.Ending.{job_ended}
use Rattle.task.specs.Frames.{work_limit}
use Rattle.machine.specs.Picking.{pick_no}
use Rattle.drive.specs.Passes.{run_from}
use Rattle.machine.proofs.PickLaws.{picked-issued}
use Rattle.orders.specs.Demand.{start_on, ours, Demand3Of}
use Rattle.orders.proofs.Demand.{demand_3}
use Rattle.teeth.specs.Demands.{EachPickIssues}
use Rattle.teeth.specs.Machines.{with_work, whole_job_first}
use Rattle.teeth.proofs.Reaching.{starts, its_goes_on, agrees}
use Rattle.teeth.proofs.Known.{blank, F1, f1_known}
use Rattle.teeth.proofs.Runs.{start_work, enough-ends}

module _ (cells : List ℕ) (words : List ℤ) (m : State) (k : ℕ) (none : m.work ≡ 0) where
  -- the first pick is refused where ours is
  asks : whole_job_first.pick_no cells words m k ≡ pick_no cells words m k
  asks = ap (λ (w : ℕ). cond (eqb w 0) (pick_no cells words m k) 0) none

  -- carried out, it hands back the end of the job
  runs_all : pick_no cells words m k ≡ 0 → whole_job_first.picked cells words m k ≡ with_work 1 (run_from cells words m 0 work_limit).state
  unfolding unless_refused
  runs_all e =
      let new = with_work 1 (run_from cells words m 0 work_limit).state in
      ap (λ (w : ℕ). cond (eqb w 0) (unless_refused (pick_no cells words m k) new m) (ticked m)) none
      ∙ ap (λ (a : ℕ). cond (eqb a 0) new m) e

abbrev m₀ : State
m₀ = start_on F1 blank

-- the first pick of F ends it
ended-at-once : (k : ℕ) → pick_no F1.cells F1.words m₀ k ≡ 0 → job_ended (whole_job_first.picked F1.cells F1.words m₀ k) ≡ true
ended-at-once k e =
    ap job_ended (runs_all F1.cells F1.words m₀ k (start_work f1_known blank) e)
    ∙ enough-ends f1_known blank work_limit f1_known.ends.within_limit

pub its_whole_job_first : Demand3Of whole_job_first → ⊥
its_whole_job_first demand =
    let a = f1_known.accepted in
    let s = starts whole_job_first demand F1 a blank in
    let p = (agrees whole_job_first demand F1 a blank f1_known.frame 2 f1_known.ends s).before_that_pickable (omega (arith, s.its_work)) in
    let r = its_goes_on whole_job_first demand F1 a blank s p.0 p.1 in
    let ended = ended-at-once p.0 (sym (asks F1.cells F1.words m₀ p.0 s.its_work) ∙ p.1) in
    omega (arith, r.its_work, (agrees whole_job_first demand F1 a blank f1_known.frame 2 f1_known.ends r).equal_when_ended ended)

-- after one instruction of F the job has not ended
pub whole_job_at_once : EachPickIssues whole_job_first → ⊥
whole_job_at_once each =
    let a = f1_known.accepted in
    let s = starts ours demand_3 F1 a blank in
    let p = (agrees ours demand_3 F1 a blank f1_known.frame 2 f1_known.ends s).before_that_pickable (omega (arith, s.its_work)) in
    let r = its_goes_on ours demand_3 F1 a blank s p.0 p.1 in
    let one = (each F1.cells F1.words m₀ p.0).one_instruction (asks F1.cells F1.words m₀ p.0 s.its_work ∙ p.1) in
    let same = one ∙ sym (picked-issued F1.cells F1.words m₀ p.0 p.1) in
    let ended = sym (ap job_ended same) ∙ ended-at-once p.0 p.1 in
    omega (arith, r.its_work, (agrees ours demand_3 F1 a blank f1_known.frame 2 f1_known.ends r).equal_when_ended ended)
