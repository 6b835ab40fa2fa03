-- One job's machine as a model of agreement's, and that it meets agreement's laws.
use Prim.Native.Nat.{ℕ, ◌≤◌}
use mathlib.Core.Path.{◌≡◌, refl}
use mathlib.Core.Bool.{true}
use mathlib.Core.List.{List}
use native.Mathlib.Omega.{arith}
use native.Mathlib.Nat.{pow-le-pow_right}
use lib.IntN.{ℤ}
use Rattle.task.specs.Choices.{chosen}
use Rattle.image.specs.Layout.{program_of}
use Rattle.agreement.specs.Picks.{Model}
use Rattle.agreement.proofs.Laws.{Forms, Laws}
use Rattle.image.specs.Questions.{program_no}
use Rattle.image.proofs.Accepted.{Accepted, accepted}
use Rattle.task.specs.declared.Frame.{Frame}
use Rattle.task.specs.Frames.{vacant, work_limit}
use Rattle.task.specs.Step.{step}
use Rattle.task.proofs.Formation.{Formed}
use Rattle.task.proofs.StepKeeps.{step_one, step_two}
use Rattle.task.proofs.JoinKeeps.{join_formed}
use Rattle.task.proofs.Vacancy.{vacant-idle}
use Rattle.drive.specs.declared.State.{State}
use Rattle.drive.specs.Slots.{Sized, ticked, slots_of}
use Rattle.drive.specs.Settings.{rank, places_allowed, interval_allowed}
use Rattle.drive.proofs.SlotLaws.{Full, put_sized, put_same, put_other, ticked_sized}
use Rattle.drive.proofs.RankLaws.{rank-small, rank_power}

abbrev pub model_of : List ℕ → List ℤ → ℕ → ℕ → Model Frame State
model_of cells words interval places = record {
  slots = slots_of (program_of cells);
  step = step (program_of cells) words (chosen interval);
  job_places = places;
  limit = work_limit;
  work = λ m. m.work;
  tick = ticked;
}

-- in a job of 2 ^ D places
abbrev pub forms_of : List ℕ → ℕ → Forms Frame State
forms_of cells D = record { D = D; Sound = Sized; Fine = Full; Empty = λ f. f ≡ vacant; Formed = Formed (program_of cells) D }

-- what start's questions ensure of a job's program, interval and places
pub record Allowed (cells : List ℕ) (interval places : ℕ) : Type 0 where
  pub program : program_no cells ≡ 0
  pub its_places_allowed : places_allowed places ≡ true
  pub its_interval_allowed : interval_allowed interval ≡ true

module _ {cells : List ℕ} {interval places : ℕ} (allowed : Allowed cells interval places) where
  ok : Accepted cells
  ok = accepted cells allowed.program

  room : rank places ≤ 6
  room = rank-small places allowed.its_places_allowed

  pub laws_hold : (words : List ℤ) → Laws (model_of cells words interval places) (forms_of cells (rank places))
  laws_hold words = record {
    places_power = rank_power places allowed.its_places_allowed;
    places_fit = pow-le-pow_right (omega arith) room;
    formed_fine = λ h f x. (x.registers_full, x.stack_full);
    formed_places = λ h f x. x.has_places;
    formed_depth = λ h f x. x.has_depth;
    vacant_fine = (refl, refl);
    vacant_empty = refl;
    empty_idle = vacant-idle;
    step_one = step_one cells ok (rank places) room words (chosen interval);
    step_two = step_two cells ok (rank places) room words (chosen interval);
    join_formed = λ h a b x y p q below. join_formed cells ok (rank places) room h a b x y below;
    put_sound = λ m k f s e. put_sized m k f s;
    put_same = put_same;
    put_other = λ m k f i e. put_other m k f i;
    put_work = λ m k f. refl;
    tick_sound = ticked_sized;
    tick_at = λ m i. refl;
    tick_work = λ m. refl;
  }
