-- The dispatcher of every accepted job: what it answers, against the plain evaluation; and a budget of rounds in two parts.
use Rattle.std.specs.Prelude.{◌≡◌, true, List, ℕ, ◌+◌}
use Rattle.drive.specs.declared.State.{State}
use Rattle.drive.specs.Ending.{job_ended}
use Rattle.machine.specs.Dispatched.{Dispatched}
use Rattle.machine.specs.Dispatching.{lanes_allowed, dispatched}
use Rattle.orders.specs.Demand.{Job, Accepted, start_on, played}
use Rattle.rounds.specs.Jobs.{JobOnLanes}

abbrev pub dispatch_of : Job → State → ℕ → ℕ → Dispatched
dispatch_of j m lanes budget = dispatched j.cells j.words m lanes budget

-- what it answers from the state m₀ that start handed back: it is not refused, says ended exactly where the job has ended, and counts its own
-- picks; its picks are an order, spent and ended come as they should, and the rounds lie between the bounds
pub record DispatchAnswers (j : Job) (m₀ : State) (lanes budget : ℕ) (o : Dispatched) : Type 0 where
  pub not_refused : o.no ≡ 0
  pub ended_said : o.ended ≡ job_ended o.machine.state
  pub picks_counted : m₀.work + o.picks ≡ o.machine.state.work
  pub its_on_lanes : JobOnLanes j m₀ lanes budget (record { state = o.machine.state; rounds = o.rounds })

-- for every job that start does not refuse, whatever state it was called on, 1 to 8 lanes and every budget
abbrev pub EveryDispatch : Type 0
EveryDispatch =
    (j : Job) → Accepted j → (m : State) (lanes : ℕ) → lanes_allowed lanes ≡ true → (budget : ℕ)
    → DispatchAnswers j (start_on j m) lanes budget (dispatch_of j (start_on j m) lanes budget)

-- two calls, the second on the state that the first handed back, and one with both budgets
pub record AddsUp (first second whole : Dispatched) : Type 0 where
  pub same_state : second.machine.state ≡ whole.machine.state
  pub its_same_end : second.ended ≡ whole.ended
  pub rounds_add : first.rounds + second.rounds ≡ whole.rounds
  pub picks_add : first.picks + second.picks ≡ whole.picks

-- whatever was picked before: a call begins at a round's start, and counts its own rounds
abbrev pub DispatchesAdd : Type 0
DispatchesAdd =
    (j : Job) → Accepted j → (m : State) (ks : List ℕ) (lanes : ℕ) → lanes_allowed lanes ≡ true → (a b : ℕ)
    → let n = played j (start_on j m) ks in
    let first = dispatch_of j n lanes a in
    AddsUp first (dispatch_of j first.machine.state lanes b) (dispatch_of j n lanes (a + b))
