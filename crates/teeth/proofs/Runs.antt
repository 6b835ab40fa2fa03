-- Runs that say spent early: F with P 1 has budget left and a task to pick, or has ended.
use Prim.Native.Nat.{ℕ, ◌≤◌, ◌<◌}
use mathlib.Core.Path.{◌≡◌, refl, sym, ap, ◌∙◌}
use mathlib.Core.Logic.{◌⊎◌, inl, inr}
use mathlib.Core.Bool.{true}
use mathlib.Core.List.{[]}
use native.Mathlib.Omega.{arith}
use Rattle.facts.proofs.Tests.{clash, by-test}
use Rattle.drive.specs.declared.State.{State}
use Rattle.drive.specs.declared.End.{End}
use Rattle.machine.specs.Outcome.{Outcome}
use Rattle.drive.specs.Ending.{job_ended}
use Rattle.task.specs.Frames.{work_limit}
use Rattle.drive.specs.Passes.{run_from}
use Rattle.machine.specs.Running.{outcome}
use Rattle.orders.specs.Demand.{Job, start_on, played_of, carried_out_of, Agrees}
use Rattle.orders.specs.Runs.{IsRun}
use Rattle.orders.proofs.Demand.{demand_3}
use Rattle.orders.proofs.Runs.{order_passes, answers}
use Rattle.teeth.specs.Demands.{SpentWhenDue}
use Rattle.teeth.specs.Machines.{spent_at_once, spent_unworked, spent_one_short, spent_when_ended}
use Rattle.teeth.proofs.Known.{Known, blank, F1, f1_known}
use Rattle.teeth.proofs.Ours.{run_of}

-- ---- Our run from a start, and what run hands back

module _ {j : Job} {end : End} {W span : ℕ} (x : Known j end W span) (m : State) where
  pub start_work : (start_on j m).work ≡ 0
  unfolding played_of carried_out_of
  start_work = (demand_3 j x.accepted m []).work_counted

  pub from_start : (b : ℕ) → IsRun j (start_on j m) b (run_from j.cells j.words (start_on j m) 0 b)
  unfolding played_of
  from_start b = run_of j x.accepted m [] b

  pub said : (b : ℕ)
      → outcome j.cells j.words (start_on j m) b
      ≡ (let r = run_from j.cells j.words (start_on j m) 0 b in record { no = 0; ended = job_ended r.state; picks = r.picks; machine = record { state = r.state } })
  unfolding played_of
  said b = answers j (start_on j m) b (order_passes j x.accepted m [])

  run-agrees : (b : ℕ) → Agrees j (run_from j.cells j.words (start_on j m) 0 b).state x.frame W
  run-agrees b =
      let o = (from_start b).is_order in
      rw o.leads_here ((demand_3 j x.accepted m o.order).where_it_ends x.frame W x.ends)

  -- a budget of the whole work is enough
  pub enough-ends : (b : ℕ) → W ≤ b → job_ended (run_from j.cells j.words (start_on j m) 0 b).state ≡ true
  enough-ends b h = by-test (job_ended r) (λ e. e) (λ e. by ((from_start b).spent_when e))
    where
      r : State
      r = (run_from j.cells j.words (start_on j m) 0 b).state

      by : ((run_from j.cells j.words (start_on j m) 0 b).picks ≡ b) ⊎ (work_limit ≤ r.work) → job_ended r ≡ true
      by (inl p) =
          (run-agrees b).ended_when_equal (omega (arith, (from_start b).is_order.rise_in_work, start_work, (run-agrees b).work_never_above))
      by (inr p) = (run-agrees b).ended_when_equal (omega (arith, x.ends.within_limit, (run-agrees b).work_never_above))

-- ---- The wrong ones

-- with budget left and work below the limit, spent is not due
not-due : {p b w : ℕ} → p < b → w < work_limit → (p ≡ b) ⊎ (work_limit ≤ w) → ⊥
not-due below room (inl e) = omega arith
not-due below room (inr h) = omega arith

pub its_spent_at_once : SpentWhenDue spent_at_once → ⊥
unfolding played_of
its_spent_at_once due =
    not-due (omega arith) (omega (arith, start_work f1_known blank)) ((due F1 f1_known.accepted blank [] 1).spent_when refl)

pub its_spent_unworked : SpentWhenDue spent_unworked → ⊥
unfolding played_of
its_spent_unworked due =
    let a = (due F1 f1_known.accepted blank [] 1).an_order in
    omega
    (arith, start_work f1_known blank, ap (λ (n : State). n.work) a.leads_here, a.whatever_the_order.work_counted, a.all_carried_out, a.picks_counted)

pub its_spent_one_short : SpentWhenDue spent_one_short → ⊥
unfolding played_of
its_spent_one_short due =
    let r = run_from F1.cells F1.words (start_on F1 blank) 0 0 in
    let a = rw (said f1_known blank 0) at (due F1 f1_known.accepted blank [] 1) in
    let none = (from_start f1_known blank 0).is_order.no_budget refl in
    let rise = (from_start f1_known blank 0).is_order.rise_in_work in
    let start = start_work f1_known blank in
    by-test (job_ended r.state)
    (λ e. omega (arith, (run-agrees f1_known blank 0).equal_when_ended e, none.no_picks, rise, start))
    (λ e. not-due (omega (arith, none.no_picks)) (omega (arith, none.no_picks, rise, start)) (a.spent_when e))

pub its_spent_when_ended : SpentWhenDue spent_when_ended → ⊥
unfolding played_of
its_spent_when_ended due =
    let o = (due F1 f1_known.accepted blank [] 2).an_order in
    let same = ap (λ (n : Outcome). job_ended n.machine.state) (said f1_known blank 2) in
    clash (same ∙ enough-ends f1_known blank 2 (omega arith)) (sym o.ended_said)
