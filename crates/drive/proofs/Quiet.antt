-- In a state of the shape the job has ended just where no task runs.
use mathlib.Core.Path.{◌≡◌, sym, ◌∙◌}
use mathlib.Core.Bool.{true, false}
use mathlib.Core.List.{List}
use Prim.Native.Nat.{ℕ, ◌<◌}
use native.Mathlib.Omega.{arith}
use lib.IntN.{ℤ}
use Rattle.facts.proofs.Tests.{clash, by-test}
use Rattle.image.specs.Layout.{program_of}
use Rattle.agreement.specs.Slots.{side_ended}
use Rattle.agreement.specs.Picks.{Model}
use Rattle.agreement.proofs.Laws.{Forms, Laws}
use Rattle.agreement.proofs.HoldsLaws.{ended_idle, open_runs}
use Rattle.task.specs.declared.Frame.{Frame}
use Rattle.task.specs.Frames.{running}
use Rattle.drive.specs.declared.State.{State}
use Rattle.drive.specs.Slots.{at, slots_of}
use Rattle.drive.specs.Ending.{job_ended}
use Rattle.drive.specs.Settings.{rank}
use Rattle.drive.proofs.EndingLaws.{ended_is}
use Rattle.drive.proofs.Models.{model_of, forms_of, Allowed, laws_hold}
use Rattle.drive.proofs.ShapeLaws.{Fits, fits-shows}

module _ {cells : List ℕ} {interval places : ℕ} (allowed : Allowed cells interval places) (words : List ℤ) (m : State) (x : Fits cells interval places m) where
  abbrev M : Model Frame State
  M = model_of cells words interval places

  abbrev K : Forms Frame State
  K = forms_of cells (rank places)

  abbrev laws : Laws (model_of cells words interval places) (forms_of cells (rank places))
  laws = laws_hold allowed words

  -- whether the job has ended is as agreement has it
  pub fits-ended : job_ended m ≡ side_ended (slots_of (program_of cells)) m 0 0
  fits-ended = let t = fits-shows allowed words m x in ended_is cells (rank places) t.0 m t.1.holds

  pub ended_quiet : job_ended m ≡ true → (k : ℕ) → k < m.places → running (at m k) ≡ false
  ended_quiet e k below =
      let t = fits-shows allowed words m x in
      ended_idle M K laws t.0 m t.1 (sym fits-ended ∙ e) k (omega (arith, x.its_places, laws.places_power, laws.places_fit))

  pub running_open : (k : ℕ) → k < m.places → running (at m k) ≡ true → job_ended m ≡ false
  running_open k below r = by-test (job_ended m) (λ e. clash r (ended_quiet e k below)) (λ e. e)

  pub quiet_ended : ((k : ℕ) → k < m.places → running (at m k) ≡ false) → job_ended m ≡ true
  quiet_ended quiet =
      by-test (job_ended m) (λ e. e)
      (λ e. let t = fits-shows allowed words m x in
      let r = open_runs M K laws t.0 m t.1 (sym fits-ended ∙ e) in
      clash r.2 (quiet r.0 (omega (arith, r.1, x.its_places, laws.places_power))))
