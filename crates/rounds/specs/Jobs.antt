-- Rounds on lanes, of every job that start accepts: a budget of rounds is an order of picks, and the rounds that end the job lie between the
-- bounds that its work and its span set. `proofs/Jobs.antt` proves it. A round and a budget of rounds: lanes' Rounds; the bounds: its OnLanes.
use Rattle.std.specs.Prelude.{ℕ, ◌+◌, ◌≤◌, ◌<◌, ◌≡◌, ◌⊎◌, true, false, List, length}
use Rattle.agreement.specs.Picks.{Model, once}
use Rattle.lanes.specs.Rounds.{Dispatched, and_then, round_of, round, dispatch}
use Rattle.lanes.specs.OnLanes.{Bounded}
use Rattle.image.specs.Layout.{program_of}
use Rattle.task.specs.declared.Frame.{Frame}
use Rattle.task.specs.Frames.{work_limit}
use Rattle.task.specs.Choices.{chosen}
use Rattle.task.specs.Step.{step}
use Rattle.drive.specs.declared.State.{State}
use Rattle.drive.specs.Slots.{at, ticked, slots_of}
use Rattle.drive.specs.Ending.{job_ended}
use Rattle.orders.specs.Demand.{Job, Accepted, start_on, played, carried_out, Ends}

-- the job's machine, as agreement has it
abbrev pub machine_of : Job → Model Frame State
machine_of j = record {
  slots = slots_of (program_of j.cells);
  step = step (program_of j.cells) j.words (chosen j.interval);
  job_places = j.places;
  limit = work_limit;
  work = λ m. m.work;
  tick = ticked;
}

abbrev pub span : Frame → ℕ
span f = f.task.span

-- at most `budget` rounds on so many lanes, from the state m
abbrev pub dispatched : Job → ℕ → ℕ → State → Dispatched State
dispatched j lanes budget m = dispatch (machine_of j) lanes budget m

-- A round is the engine's own picks of the slots that it takes, each on the state that the one before handed back: whatever was picked before
abbrev pub RoundsPlayed : Type 0
RoundsPlayed =
    (j : Job) → Accepted j → (m : State) (ks : List ℕ) (lanes : ℕ)
    → let n = played j (start_on j m) ks in round (machine_of j) lanes n ≡ played j n (round_of (machine_of j) lanes n)

-- d is what a budget of rounds comes to from the state m₀ that start handed back
pub record JobOnLanes (j : Job) (m₀ : State) (lanes budget : ℕ) (d : Dispatched State) : Type 0 where
  -- its picks are an order, none of them refused: so demand 3 holds of it
  pub order : List ℕ
  pub leads_here : d.state ≡ played j m₀ order
  pub all_carried_out : carried_out j once m₀ order ≡ length order
  pub work_counted : d.state.work ≡ length order
  -- spent: exactly the budget's rounds, or the work stands at the limit
  pub its_within_budget : d.rounds ≤ budget
  pub spent_when : job_ended d.state ≡ false → (d.rounds ≡ budget) ⊎ (work_limit ≤ d.state.work)
  -- ended: the plain evaluation has, with the task of slot 0, and the rounds lie between the bounds
  pub ended_as_evaluated : job_ended d.state ≡ true → Ends j (at d.state 0) d.state.work
  pub ended_bounded : job_ended d.state ≡ true → Bounded (machine_of j) span lanes d.rounds (at d.state 0) d.state.work
  -- as many rounds as the work are always enough
  pub enough : (e : Frame) (W : ℕ) → Ends j e W → W ≤ budget → job_ended d.state ≡ true

-- for every job that start does not refuse, whatever state it was called on, every number of lanes but 0 and every budget of rounds
abbrev pub EveryJobOnLanes : Type 0
EveryJobOnLanes =
    (j : Job) → Accepted j → (m : State) (lanes : ℕ) → 0 < lanes → (budget : ℕ)
    → JobOnLanes j (start_on j m) lanes budget (dispatched j lanes budget (start_on j m))

-- a budget of a + b rounds is one of a and then one of b: for every job and every state
abbrev pub RoundsAdd : Type 0
RoundsAdd =
    (j : Job) (lanes a b : ℕ) (m : State)
    → dispatched j lanes (a + b) m ≡ and_then (dispatched j lanes a m) (dispatched j lanes b (dispatched j lanes a m).state)
