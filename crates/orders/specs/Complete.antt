-- Stronger than demand 3: all complete orders of a job end in one state, with the same picks in every slot. And where the plain evaluation
-- ends within the limit, there is a complete order. `proofs/Complete.antt` proves both.
use Rattle.std.specs.Prelude.{ℕ, ◌≡◌, true, List}
use Rattle.agreement.specs.Picks.{only_at}
use Rattle.task.specs.declared.Frame.{Frame}
use Rattle.drive.specs.declared.State.{State}
use Rattle.drive.specs.Ending.{job_ended}
use Rattle.orders.specs.Demand.{Job, Accepted, start_on, played, carried_out, Ends}

-- an order is complete when the job has ended after it
abbrev pub Complete : Job → State → List ℕ → Type 0
Complete j m₀ ks = job_ended (played j m₀ ks) ≡ true

-- two orders from one state
pub record SameOutcome (j : Job) (m₀ : State) (ks ls : List ℕ) : Type 0 where
  -- the whole state
  pub same_state : played j m₀ ks ≡ played j m₀ ls
  -- the picks carried out in slot i
  pub same_picks : (i : ℕ) → carried_out j (only_at i) m₀ ks ≡ carried_out j (only_at i) m₀ ls

abbrev pub CompleteOrdersAgree : Type 0
CompleteOrdersAgree =
    (j : Job) → Accepted j → (m : State) (ks ls : List ℕ) → Complete j (start_on j m) ks → Complete j (start_on j m) ls
    → SameOutcome j (start_on j m) ks ls

abbrev pub SomeOrderCompletes : Type 0
SomeOrderCompletes =
    (j : Job) → Accepted j → (e : Frame) (W : ℕ) → Ends j e W → (m : State) → (ks : List ℕ) × Complete j (start_on j m) ks
