-- Rounds: the tasks that a round takes, one round, and a budget of rounds.
use Rattle.std.specs.Prelude.{ℕ, zero, suc, ◌+◌, Bool, true, false, not, ◌&&◌, List, [], ◌∷◌, ltb}
use Rattle.agreement.specs.Picks.{Model, job_ended, play}

-- what a budget of rounds leaves: the state, and the rounds that were begun
pub record Dispatched (S : Type 0) : Type 0 where
  pub state : S
  pub rounds : ℕ

abbrev pub one_more : {S : Type 0} → Dispatched S → Dispatched S
one_more d = record { state = d.state; rounds = suc d.rounds }

-- one budget of rounds and then another
abbrev pub and_then : {S : Type 0} → Dispatched S → Dispatched S → Dispatched S
and_then a b = record { state = b.state; rounds = a.rounds + b.rounds }

module _ {F S : Type 0} (M : Model F S) where
  open M use {slots, job_places, limit, work}
  open slots use {running, at}

  -- of the n slots from i on, the first `lanes` that have a running task
  unfoldable pub taken : S → ℕ → ℕ → ℕ → List ℕ
  taken m zero n i = []
  taken m (suc lanes) zero i = []
  taken m (suc lanes) (suc n) i = elim (running (at m i)) [
    | true ↦ i ∷ taken m lanes n (suc i)
    | false ↦ taken m (suc lanes) n (suc i)
  ]

  -- The slots that a round takes. They are fixed by the state at its start, so that a task made in a round waits for the next
  abbrev pub round_of : ℕ → S → List ℕ
  round_of lanes m = taken m lanes job_places 0

  -- one pick of each. (At the work limit a pick is refused, so that a round that the limit cuts short needs no words of its own)
  abbrev pub round : ℕ → S → S
  round lanes m = play M m (round_of lanes m)

  -- a round begins where the job has not ended and the work is below the limit
  abbrev pub goes_on : S → Bool
  goes_on m = not (job_ended M m) && ltb (work m) limit

  -- at most `budget` rounds, each of them counted once it has begun
  unfoldable pub dispatch : ℕ → ℕ → S → Dispatched S
  dispatch lanes zero m = record { state = m; rounds = 0 }
  dispatch lanes (suc budget) m = elim (goes_on m) [
    | true ↦ one_more (dispatch lanes budget (round lanes m))
    | false ↦ record { state = m; rounds = 0 }
  ]
