-- The rounds of the loop, as drive's Rounds has them, come to what lanes' do: in every state that an order of an accepted job leads to.
use Rattle.std.specs.Prelude.{◌≡◌, List, ℕ, ◌+◌, ◌<◌}
use Rattle.drive.specs.declared.State.{State}
use Rattle.drive.specs.Courses.{Run}
use Rattle.drive.specs.Rounds.{Rounding, rounds_from}
use Rattle.orders.specs.Demand.{Job, Accepted, start_on, played}
use Rattle.lanes.specs.Rounds.{Dispatched}
use Rattle.rounds.specs.Jobs.{dispatched}

-- the run r along the course, from the state m, and a budget of rounds d from there
pub record SameRounds (m : State) (r : Run Rounding) (d : Dispatched State) : Type 0 where
  pub same_state : r.state ≡ d.state
  pub same_rounds : r.kept.done ≡ d.rounds
  pub picks_counted : m.work + r.picks ≡ d.state.work

abbrev pub CourseIsDispatch : Type 0
CourseIsDispatch =
    (j : Job) → Accepted j → (m₀ : State) (ks : List ℕ) (lanes : ℕ) → 0 < lanes → (budget : ℕ)
    → let m = played j (start_on j m₀) ks in SameRounds m (rounds_from j.cells j.words m lanes budget) (dispatched j lanes budget m)
