-- An order carried out from a fresh start.
use mathlib.Core.Path.{◌≡◌, sym, ap, ◌∙◌, subst⁻¹}
use mathlib.Core.List.{List, []}
use Prim.Native.Nat.{ℕ}
use borrow.Author.Tests.{ne_eqb}
use Rattle.image.specs.Doors.{unless_refused}
use Rattle.drive.specs.declared.State.{State}
use Rattle.drive.specs.Slots.{Sized}
use Rattle.machine.specs.Starting.{start_no, started, empty}
use Rattle.machine.specs.Picking.{state_no}
use Rattle.drive.specs.Listing.{list_from}
use Rattle.machine.proofs.PickLaws.{StatePassed, state_passed}
use Rattle.orders.specs.Demand.{Job, Accepted, start_on, played_of, played}
use Rattle.orders.specs.Replay.{replayed}
use Rattle.orders.proofs.Plays.{started_job}
use Rattle.orders.proofs.Shapes.{every_order_meets}
use Rattle.orders.proofs.Runs.{order_passes}
use Rattle.orders.proofs.Lists.{list_is_played}

-- a refused start hands back the blank state that it was called on
pub refused-blank : (j : Job) (blank m : State) (order : List ℕ) (answer : ℕ) → blank ≡ empty 0 0 → answer ≡ start_no j.cells j.places j.interval j.registers j.words
    → m ≡ started blank j.cells j.places j.interval j.registers j.words → (answer ≡ 0 → ⊥) → m ≡ replayed answer j order
unfolding unless_refused
refused-blank j blank m order answer b n e h =
    e ∙ rw (← n, ne_eqb answer 0 h) b

-- the state that start leaves, whatever it was called on
module _ (j : Job) (accepted : Accepted j) (lent : State) {m : State} (fresh : m ≡ start_on j lent) where
  passes_all_lem : state_no j.cells j.words m ≡ 0
  unfolding played_of
  passes_all_lem = ap (state_no j.cells j.words) fresh ∙ order_passes j accepted lent []

  sized_lem : Sized m
  unfolding played_of
  sized_lem = subst⁻¹ Sized fresh (every_order_meets j accepted lent []).sized

  -- the questions up to 20 would all be answered with yes
  pub fresh-passes : StatePassed j.cells j.words m
  fresh-passes = state_passed j.cells j.words m passes_all_lem

  -- the order as a course comes to the order played
  pub replay_plays : (order : List ℕ) → (list_from j.cells j.words m order).state ≡ replayed 0 j order
  unfolding unless_refused
  replay_plays order =
      list_is_played j m sized_lem passes_all_lem order
      ∙ ap (λ (n : State). played j n order) (fresh ∙ started_job j accepted lent ∙ sym (started_job j accepted (empty 0 0)))
