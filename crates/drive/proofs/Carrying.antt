-- An instruction of a running task of a state of the shape: where the task stands, and that nothing is joined while it goes on running.
use mathlib.Core.Path.{◌≡◌, ap, ◌∙◌}
use mathlib.Core.Bool.{true}
use mathlib.Core.List.{List}
use Prim.Native.Nat.{ℕ, ◌^◌, ◌<◌, ◌≤◌}
use native.Mathlib.Omega.{arith}
use lib.IntN.{ℤ}
use Rattle.task.specs.Choices.{chosen}
use Rattle.image.specs.Layout.{program_of}
use Rattle.agreement.specs.Plain.{one}
use Rattle.agreement.specs.Slots.{carry}
use Rattle.agreement.proofs.SlotLaws.{carry-one}
use Rattle.agreement.proofs.Laws.{Laws}
use Rattle.agreement.proofs.RunningLaws.{Stands, stands, settle-running}
use Rattle.task.specs.declared.Frame.{Frame}
use Rattle.task.specs.Frames.{running}
use Rattle.task.specs.Step.{step}
use Rattle.drive.specs.declared.State.{State}
use Rattle.drive.specs.Slots.{at, put, slots_of}
use Rattle.drive.specs.Settings.{rank}
use Rattle.drive.proofs.Models.{model_of, forms_of, Allowed, laws_hold}
use Rattle.drive.proofs.ShapeLaws.{Fits, fits-shows}

module _ {cells : List ℕ} {interval places : ℕ} (allowed : Allowed cells interval places) (words : List ℤ) (m : State) (k : ℕ) (fits : Fits cells interval places m)
    (below : k < places) (runs : running (at m k) ≡ true) where
  abbrev laws : Laws (model_of cells words interval places) (forms_of cells (rank places))
  laws = laws_hold allowed words

  pub slot_fits : places ≤ 64
  slot_fits = omega (arith, laws.places_power, laws.places_fit)

  pub stand : Stands (model_of cells words interval places) (forms_of cells (rank places)) laws m k
  stand =
      let t = fits-shows allowed words m fits in
      stands (model_of cells words interval places) (forms_of cells (rank places)) laws t.0 m t.1 k (omega (arith, laws.places_power)) runs

  -- it goes on: its frame is put back, and that is all
  pub goes-on-alone : (g : Frame) → step (program_of cells) words (chosen interval) (at m k) ≡ one g → running g ≡ true → carry (slots_of (program_of cells)) (step (program_of cells) words (chosen interval)) m k ≡ put m k g
  goes-on-alone g e r =
      let s = stand in
      let f = laws.step_one s.height (at m k) g s.formed runs e in
      let here : at (put m k g) k ≡ g = laws.put_same m k g fits.sized (laws.formed_fine s.height g f) (omega (arith, slot_fits)) in
      let p : (at (put m k g) k).task.places ≡ 2 ^ s.height = ap (λ (h : Frame). h.task.places) here ∙ laws.formed_places s.height g f in
      let q : running (at (put m k g) k) ≡ true = ap running here ∙ r in
      carry-one (slots_of (program_of cells)) (step (program_of cells) words (chosen interval)) m k g e ∙ settle-running (slots_of (program_of cells)) g.task.depth (put m k g) k s.height s.aligned p q
