-- An order of picks is an order of agreement's model: the same states, and the same picks carried out.
use Prim.Native.Nat.{ℕ, ◌+◌}
use mathlib.Core.Path.{◌≡◌, refl, ap, ◌∙◌}
use mathlib.Core.List.{List, [], ◌∷◌, ◌++◌}
use Rattle.agreement.specs.Picks.{Model, if_picked, can_pick, pick, play}
use Rattle.agreement.specs.Picks as model
use Rattle.task.specs.declared.Frame.{Frame}
use Rattle.drive.specs.declared.State.{State}
use Rattle.machine.specs.Starting.{fresh}
use Rattle.machine.specs.Picking.{picked}
use Rattle.drive.proofs.Models.{model_of}
use Rattle.drive.proofs.ShapeLaws.{Fits, pick-fits}
use Rattle.machine.proofs.PickLaws.{pick-test, picked_is}
use Rattle.machine.proofs.StartLaws.{StartAccepted, start_accepted, started-fresh}
use Rattle.orders.specs.Demand.{Job, Accepted, start_on, played_of, played, carried_out_of, carried_out}

abbrev pub model_of_job : Job → Model Frame State
model_of_job j = model_of j.cells j.words j.interval j.places

-- a state of the job
abbrev pub FitsJob : Job → State → Type 0
FitsJob j = Fits j.cells j.interval j.places

-- ---- its start

abbrev pub fresh_job : Job → State
fresh_job j = fresh j.places j.interval j.registers

abbrev pub JobAccepted : Job → Type 0
JobAccepted j = StartAccepted j.cells j.places j.interval j.registers j.words

pub job_accepted : (j : Job) → Accepted j → JobAccepted j
job_accepted j = start_accepted j.cells j.places j.interval j.registers j.words

pub started_job : (j : Job) → Accepted j → (m : State) → start_on j m ≡ fresh_job j
started_job j e m = started-fresh m j.cells j.places j.interval j.registers j.words e

-- ---- its orders

-- two orders, one after the other
pub played-on : (j : Job) (ks ls : List ℕ) (m : State) → played j m (ks ++ ls) ≡ played j (played j m ks) ls
unfolding played_of
played-on j [] ls m = refl
played-on j (k ∷ ks) ls m = played-on j ks ls (picked j.cells j.words m k)

module _ {j : Job} (start : JobAccepted j) where
  abbrev M : Model Frame State
  M = model_of_job j

  next_fits : (m : State) (k : ℕ) → FitsJob j m → FitsJob j (pick M m k)
  next_fits = pick-fits start.allowed j.words

  next_is : (m : State) (k : ℕ) → FitsJob j m → picked j.cells j.words m k ≡ pick M m k
  next_is = picked_is start.allowed start.lent

  pub play-fits : (ks : List ℕ) (m : State) → FitsJob j m → FitsJob j (play (model_of_job j) m ks)
  unfolding play
  play-fits [] m x = x
  play-fits (k ∷ ks) m x = play-fits ks (pick M m k) (next_fits m k x)

  pub played_is : (ks : List ℕ) (m : State) → FitsJob j m → played j m ks ≡ play (model_of_job j) m ks
  unfolding played_of play
  played_is [] m x = refl
  played_is (k ∷ ks) m x = ap (λ n. played j n ks) (next_is m k x) ∙ played_is ks (pick M m k) (next_fits m k x)

  pub carried_out_is : (count : ℕ → ℕ) (ks : List ℕ) (m : State) → FitsJob j m
      → carried_out j count m ks ≡ model.carried_out (model_of_job j) count m ks
  unfolding carried_out_of model.carried_out
  carried_out_is count [] m x = refl
  carried_out_is count (k ∷ ks) m x =
      ap (λ b. if_picked b (count k) + carried_out j count (picked j.cells j.words m k) ks) (pick-test start.allowed start.lent m k x)
      ∙ ap (λ n. if_picked (can_pick M m k) (count k) + carried_out j count n ks) (next_is m k x)
      ∙ ap (λ n. if_picked (can_pick M m k) (count k) + n) (carried_out_is count ks (pick M m k) (next_fits m k x))
