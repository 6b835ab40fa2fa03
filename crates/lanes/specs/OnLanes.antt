-- A budget of rounds from a start, against the plain evaluation: the statement. `proofs/OnLanesLaws.antt` proves it.
use Rattle.std.specs.Prelude.{ℕ, ◌+◌, ◌*◌, ◌-◌, ◌≤◌, ◌≡◌, ◌⊎◌, true, false, List, length}
use Rattle.agreement.specs.Plain.{ran, eval}
use Rattle.agreement.specs.Picks.{Model, rules, once, job_ended, play, carried_out}
use Rattle.lanes.specs.Rounds.{Dispatched}

module _ {F S : Type 0} (M : Model F S) (span : F → ℕ) where
  open M use {slots, limit, work}
  open slots use {at}

  -- what so many rounds on so many lanes come to, where the plain evaluation ends with the frame e and the work W
  pub record Bounded (lanes rounds : ℕ) (e : F) (W : ℕ) : Type 0 where
    pub greedy : lanes * rounds ≤ W + (lanes - 1) * span e
    pub span_fits : span e ≤ rounds
    pub work_fits : W ≤ lanes * rounds
    pub rounds_at_most : rounds ≤ W
    -- with one lane a round is a pick
    pub one_lane : lanes ≡ 1 → rounds ≡ W

  -- d is what a budget of rounds comes to from the start's state m₀, whose one task is f₀
  pub record OnLanes (m₀ : S) (f₀ : F) (lanes budget : ℕ) (d : Dispatched S) : Type 0 where
    -- its picks are an order, none of them refused: so demand 3 holds of it
    pub order : List ℕ
    pub leads_here : d.state ≡ play M m₀ order
    pub all_carried_out : carried_out M once m₀ order ≡ length order
    pub work_counted : work d.state ≡ length order
    -- spent: exactly the budget's rounds, or the work stands at the limit
    pub its_within_budget : d.rounds ≤ budget
    pub spent_when : job_ended M d.state ≡ false → (d.rounds ≡ budget) ⊎ (limit ≤ work d.state)
    -- ended: the plain evaluation has, within the limit, and the rounds lie between the bounds
    pub ended_as_evaluated : job_ended M d.state ≡ true
        → (eval (rules M) limit f₀ ≡ ran (at d.state 0) (work d.state)) × (work d.state ≤ limit)
    pub ended_bounded : job_ended M d.state ≡ true → Bounded lanes d.rounds (at d.state 0) (work d.state)
    -- as many rounds as the work are always enough
    pub enough : (e : F) (W : ℕ) → eval (rules M) limit f₀ ≡ ran e W → W ≤ limit → W ≤ budget → job_ended M d.state ≡ true
