-- What an instruction that is issued keeps, and that it leaves a state of the shape.
use Prim.Native.Nat.{ℕ, ◌+◌, ◌<◌}
use mathlib.Core.Path.{◌≡◌, refl, sym, ap, ◌∙◌, subst⁻¹}
use mathlib.Core.Bool.{true}
use mathlib.Core.List.{List}
use lib.IntN.{ℤ}
use Rattle.agreement.specs.Slots.{carry}
use Rattle.agreement.specs.Picks.{pick}
use Rattle.agreement.proofs.SlotLaws.{carry-keeps}
use Rattle.agreement.proofs.PickLaws.{parts_can, pick-carried}
use Rattle.image.specs.Layout.{program_of}
use Rattle.task.specs.Choices.{chosen}
use Rattle.task.specs.Frames.{running, work_limit}
use Rattle.task.specs.Step.{step}
use Rattle.drive.specs.declared.State.{State}
use Rattle.drive.specs.Slots.{at, ticked, slots_of}
use Rattle.drive.specs.Issue.{issued}
use Rattle.drive.proofs.Models.{model_of, Allowed}
use Rattle.drive.proofs.ShapeLaws.{Fits, pick-fits}

pub issued_work : (cells : List ℕ) (words : List ℤ) (m : State) (k : ℕ) → (issued cells words m k).work ≡ m.work + 1
issued_work cells words m k =
    ap (λ n. n + 1) (carry-keeps (slots_of (program_of cells)) (λ n. n.work) (λ n k f. refl) (step (program_of cells) words (chosen m.interval)) m k)

pub issued_places : (cells : List ℕ) (words : List ℤ) (m : State) (k : ℕ) → (issued cells words m k).places ≡ m.places
issued_places cells words m k =
    carry-keeps (slots_of (program_of cells)) (λ n. n.places) (λ n k f. refl) (step (program_of cells) words (chosen m.interval)) m k

pub issued_interval : (cells : List ℕ) (words : List ℤ) (m : State) (k : ℕ) → (issued cells words m k).interval ≡ m.interval
issued_interval cells words m k =
    carry-keeps (slots_of (program_of cells)) (λ n. n.interval) (λ n k f. refl) (step (program_of cells) words (chosen m.interval)) m k

module _ {cells : List ℕ} {interval places : ℕ} (allowed : Allowed cells interval places) (words : List ℤ) (m : State) (k : ℕ) (x : Fits cells interval places m)
    (below : k < places) (runs : running (at m k) ≡ true) (room : m.work < work_limit) where
  -- an instruction that may be issued is the model's pick
  pub issued_is_pick : issued cells words m k ≡ pick (model_of cells words interval places) m k
  issued_is_pick =
      let M = model_of cells words interval places in
      ap (λ n. ticked (carry (slots_of (program_of cells)) (step (program_of cells) words (chosen n)) m k)) x.its_interval
      ∙ sym (pick-carried M m k (parts_can M m k below runs room))

  -- and the state after it is of the shape
  pub issued-fits : Fits cells interval places (issued cells words m k)
  issued-fits = subst⁻¹ (λ n. Fits cells interval places n) issued_is_pick (pick-fits allowed words m k x)
