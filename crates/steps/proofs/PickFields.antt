-- A pick leaves a state in its fields.
use mathlib.Core.Path.{◌≡◌, refl, subst, subst⁻¹}
use mathlib.Core.Bool.{true, cond}
use mathlib.Core.List.{List}
use Prim.Native.Nat.{ℕ, ◌<◌}
use native.Mathlib.Omega.{arith}
use lib.Dec.{eqb}
use lib.IntN.{ℤ}
use borrow.Author.Tests.{eqb-true}
use Rattle.facts.proofs.Tests.{by-test}
use Rattle.task.specs.Choices.{chosen}
use Rattle.image.specs.Layout.{program_of}
use Rattle.agreement.proofs.SlotLaws.{carry-keeps, carry_all}
use Rattle.image.specs.Doors.{unless_refused}
use Rattle.task.specs.Frames.{running, work_limit}
use Rattle.task.specs.Step.{step}
use Rattle.drive.specs.declared.State.{State}
use Rattle.drive.specs.Slots.{at, slots_of}
use Rattle.machine.specs.Picking.{pick_no, picked}
use Rattle.drive.specs.Issue.{issued}
use Rattle.drive.proofs.Owning.{places_most}
use Rattle.drive.proofs.Models.{Allowed}
use Rattle.drive.proofs.ShapeLaws.{Fits, shape_allowed, shape-fits}
use Rattle.drive.proofs.IssueLaws.{issued-fits}
use Rattle.machine.proofs.Picked.{pick_accepts}
use Rattle.state.specs.Fields.{InFields}
use Rattle.steps.specs.Fields.{IntegersInField}
use Rattle.steps.proofs.StepFields.{AllNarrow, Narrow, vacant_narrow, step_narrow, join_narrow}
use Rattle.steps.proofs.SlotFields.{put_narrow, fields_narrow}
use Rattle.steps.proofs.ShapeFields.{fits_in_fields}

module _ (cells : List ℕ) (words : List ℤ) (m : State) (k : ℕ) (fit : IntegersInField words) (x : InFields m) where
  issued_narrow : k < 64 → (i : ℕ) → Narrow (at (issued cells words m k) i)
  issued_narrow below =
      let leaves = step_narrow (program_of cells) words m.interval (at m k) fit (x.tasks k below).depth (fields_narrow m x k) in
      carry_all (slots_of (program_of cells)) Narrow put_narrow vacant_narrow (join_narrow (program_of cells)) (step (program_of cells) words (chosen m.interval)) m k (fields_narrow m x)
      (λ g e. subst AllNarrow e leaves) (λ p c e. subst AllNarrow e leaves)

  -- an instruction that may be issued, in a state of the shape
  pub issued_in_fields : {interval places : ℕ} → Allowed cells interval places → Fits cells interval places m → k < places
      → running (at m k) ≡ true → m.work < work_limit → InFields (issued cells words m k)
  issued_in_fields {interval} {places} allowed shaped below runs room =
      let work = carry-keeps (slots_of (program_of cells)) (λ n. n.work) (λ n k f. refl) (step (program_of cells) words (chosen m.interval)) m k in
      let slot : k < 64 = omega (arith, places_most places allowed.its_places_allowed) in
      fits_in_fields allowed (issued cells words m k) (issued-fits allowed words m k shaped below runs room) (omega (arith, work))
      (λ i b. issued_narrow slot i)

  -- a refused pick leaves the state as it was; of one carried out the program was accepted, and the state met the shape test
  pub picked_in_fields : InFields (picked cells words m k)
  unfolding unless_refused
  picked_in_fields =
      by-test (eqb (pick_no cells words m k) 0)
      (λ t. let a = pick_accepts cells words m k (eqb-true (pick_no cells words m k) 0 t) in
      let p = a.state in
      let r = a.ready in
      subst⁻¹ (λ b. InFields (cond b (issued cells words m k) m)) t
      (issued_in_fields (shape_allowed cells m p.passed.program p.shaped) (shape-fits cells m x.sized p.shaped) r.below r.runs
      r.below_limit))
      (λ t. subst⁻¹ (λ b. InFields (cond b (issued cells words m k) m)) t x)
