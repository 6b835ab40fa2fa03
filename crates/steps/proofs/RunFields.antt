-- A budgeted run leaves a state in its fields.
use mathlib.Core.Path.{◌≡◌, subst⁻¹}
use mathlib.Core.Bool.{true, false}
use mathlib.Core.List.{List}
use Prim.Native.Nat.{ℕ, zero, suc, ◌+◌, ◌<◌}
use native.Mathlib.Omega.{arith}
use lib.Dec.{eqb, ltb}
use lib.IntN.{ℤ}
use borrow.Author.Tests.{eqb-true, ltb-true}
use Rattle.facts.proofs.Tests.{by-test}
use Rattle.image.specs.Layout.{program_of}
use Rattle.image.specs.Questions.{program_no}
use Rattle.drive.specs.declared.State.{State}
use Rattle.drive.specs.Ending.{job_ended}
use Rattle.drive.specs.Shape.{shape}
use Rattle.task.specs.Frames.{work_limit}
use Rattle.machine.specs.Picking.{state_no}
use Rattle.drive.specs.Courses.{Run, begun, picked_at, follows}
use Rattle.drive.specs.Passes.{next_pick, stops, runs, run_from}
use Rattle.machine.specs.Running.{outcome}
use Rattle.drive.proofs.Models.{Allowed}
use Rattle.drive.proofs.ShapeLaws.{Fits, shape_allowed, shape-fits, fits-shape}
use Rattle.drive.proofs.IssueLaws.{issued-fits}
use Rattle.drive.proofs.Searching.{next-runs}
use Rattle.drive.proofs.Passing.{run-rests, picks_next}
use Rattle.drive.proofs.SlotQuestions.{Ready}
use Rattle.machine.proofs.PickLaws.{state_passed}
use Rattle.orders.proofs.Shapes.{every-shape}
use Rattle.state.specs.Fields.{InFields}
use Rattle.steps.specs.Fields.{IntegersInField}
use Rattle.steps.proofs.PickFields.{issued_in_fields}

module _ {cells : List ℕ} {interval places : ℕ} (allowed : Allowed cells interval places) (words : List ℤ) (fit : IntegersInField words) where
  -- while the job has not ended, the next pick is of a running task
  next-ready : (m : State) (k : ℕ) → Fits cells interval places m → job_ended m ≡ false → ltb m.work work_limit ≡ true → Ready m (next_pick m k)
  next-ready m k s unended room =
      let r = (every-shape cells words m allowed.program (record { sized = s.sized; shaped = fits-shape allowed m s })).open_runs unended in
      let n = next-runs m k r.0 r.1 r.2 in
      record { below = n.0; runs = n.1; below_limit = ltb-true m.work work_limit room }

  abbrev LeavesFields : ℕ → Run ℕ → Type 0
  LeavesFields n r = InFields (runs cells words n r).state

  stays : (n : ℕ) (r : Run ℕ) → InFields r.state → stops r.state ≡ true → LeavesFields n r
  stays n r x t = subst⁻¹ (λ (e : Run ℕ). InFields e.state) (run-rests cells words n r t) x

  runs_in_fields : (n : ℕ) (r : Run ℕ) → Fits cells interval places r.state → InFields r.state → LeavesFields n r
  unfolding follows
  runs_in_fields zero r s x = x
  runs_in_fields (suc n) r s x =
      let m = r.state in
      let k = next_pick m r.kept in
      by-test (job_ended m)
      (λ e. stays (suc n) r x (rw e))
      (λ e. by-test (ltb m.work work_limit)
      (λ l. let a = next-ready m r.kept s e l in
      let below : k < places = omega (arith, a.below, s.its_places) in
      subst⁻¹ (λ (e : Run ℕ). InFields e.state) (picks_next cells words n r (rw (e, l)))
      (runs_in_fields n (picked_at cells words k (k + 1) r) (issued-fits allowed words m k s below a.runs a.below_limit)
      (issued_in_fields cells words m k fit x allowed s below a.runs a.below_limit)))
      (λ l. stays (suc n) r x (rw (e, l))))

module _ (cells : List ℕ) (words : List ℤ) (m : State) where
  pub run_in_fields : (k budget : ℕ) → program_no cells ≡ 0 → shape (program_of cells) m ≡ true → IntegersInField words → InFields m
      → InFields (run_from cells words m k budget).state
  run_in_fields k budget program shaped fit x =
      runs_in_fields (shape_allowed cells m program shaped) words fit budget (begun m k)
      (shape-fits cells m x.sized shaped) x

  -- a refused run hands back the old state
  pub outcome_in_fields : (budget : ℕ) → IntegersInField words → InFields m → InFields (outcome cells words m budget).machine.state
  unfolding outcome
  outcome_in_fields budget fit x =
      by-test (eqb (state_no cells words m) 0)
      (λ t. let p = state_passed cells words m (eqb-true (state_no cells words m) 0 t) in
      rw t (run_in_fields 0 budget p.passed.program p.shaped fit x))
      (λ t. rw t x)
