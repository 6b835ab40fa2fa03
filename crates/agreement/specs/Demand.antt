-- Demand 3, said of one order of picks: the whole order against the plain evaluation.
use Rattle.std.specs.Prelude.{ℕ, ◌≤◌, ◌<◌, ◌≡◌, true, false, List}
use Rattle.agreement.specs.Plain.{ran, eval}
use Rattle.agreement.specs.Picks.{Model, rules, once, job_ended, can_pick, play, carried_out}

-- `Empty`: of a frame without a task
module _ {F S : Type 0} (M : Model F S) (Empty : F → Type 0) where
  open M use {slots, limit, work}
  open slots use {at, size}

  -- the state m after an order, where the plain evaluation ends with the frame e and the work W
  pub record Agrees (m : S) (e : F) (W : ℕ) : Type 0 where
    pub work_never_above : work m ≤ W
    pub ended_when_equal : work m ≡ W → job_ended M m ≡ true
    pub equal_when_ended : job_ended M m ≡ true → work m ≡ W
    pub first_slot : job_ended M m ≡ true → at m 0 ≡ e
    pub other_slots : job_ended M m ≡ true → (i : ℕ) → 0 < i → i < size → Empty (at m i)
    pub before_that_pickable : work m < W → (k : ℕ) × (can_pick M m k ≡ true)

  -- the order ks from the start's state m₀, whose one task is f₀
  pub record Ordered (m₀ : S) (f₀ : F) (ks : List ℕ) : Type 0 where
    pub work_counted : work (play M m₀ ks) ≡ carried_out M once m₀ ks
    pub agrees : (e : F) (W : ℕ) → eval (rules M) limit f₀ ≡ ran e W → W ≤ limit → Agrees (play M m₀ ks) e W
    pub ended_as_evaluated : job_ended M (play M m₀ ks) ≡ true
        → (eval (rules M) limit f₀ ≡ ran (at (play M m₀ ks) 0) (work (play M m₀ ks))) × (work (play M m₀ ks) ≤ limit)
    pub not_ended_elsewhere : ((e : F) (W : ℕ) → eval (rules M) limit f₀ ≡ ran e W → W ≤ limit → ⊥) → job_ended M (play M m₀ ks) ≡ false
    pub below_limit_pickable : job_ended M (play M m₀ ks) ≡ false → work (play M m₀ ks) < limit
        → (k : ℕ) × (can_pick M (play M m₀ ks) k ≡ true)
