-- The equations of a budget of rounds; that budgets add up; and when one is spent.
use Prim.Native.Nat.{ℕ, zero, suc, ◌+◌, ◌≤◌, ◌<◌}
use mathlib.Core.Path.{◌≡◌, refl, ap, ◌∙◌}
use mathlib.Core.Logic.{◌⊎◌, inl, inr}
use mathlib.Core.Bool.{true, false, not}
use native.Mathlib.Omega.{arith}
use lib.Dec.{ltb}
use borrow.Author.Tests.{ltb-true, not-true, lt-ltb}
use Rattle.facts.proofs.Tests.{clash, both_true, by-test, by-below}
use Rattle.agreement.specs.Picks.{Model, job_ended}
use Rattle.lanes.specs.Rounds.{Dispatched, one_more, and_then, round, goes_on, dispatch}

module _ {F S : Type 0} (M : Model F S) where
  open M use {limit, work}

  pub its_goes_on : (m : S) → goes_on M m ≡ true → (job_ended M m ≡ false) × (work m < limit)
  its_goes_on m h =
      let p = both_true (not (job_ended M m)) (ltb (work m) limit) h in
      (not-true (job_ended M m) p.0, ltb-true (work m) limit p.1)

  module _ (lanes : ℕ) where
    pub dispatch-none : (m : S) → dispatch M lanes 0 m ≡ record { state = m; rounds = 0 }
    unfolding dispatch
    dispatch-none m = refl

    pub dispatch-stops : (budget : ℕ) (m : S) → goes_on M m ≡ false → dispatch M lanes budget m ≡ record { state = m; rounds = 0 }
    unfolding dispatch
    dispatch-stops zero m h = refl
    dispatch-stops (suc budget) m h = rw (h, dispatch)

    pub dispatch-goes : (budget : ℕ) (m : S) → goes_on M m ≡ true
        → dispatch M lanes (suc budget) m ≡ one_more (dispatch M lanes budget (round M lanes m))
    unfolding dispatch
    dispatch-goes budget m h = rw (h, dispatch)

    counted_as : (s : S) {n k : ℕ} → n ≡ k → ◌≡◌ {A = Dispatched S} (record { state = s; rounds = n }) (record { state = s; rounds = k })
    counted_as s e = λ i. record { state = s; rounds = e i }

    -- a budget of a + b rounds is one of a and then one of b
    pub budgets_add : (a b : ℕ) (m : S)
        → dispatch M lanes (a + b) m ≡ and_then (dispatch M lanes a m) (dispatch M lanes b (dispatch M lanes a m).state)
    budgets_add zero b m =
        let e : 0 + b ≡ b = omega arith in
        rw (e, dispatch-none m) (counted_as (dispatch M lanes b m).state (omega arith))
    budgets_add (suc a) b m =
        let e : suc a + b ≡ suc (a + b) = omega arith in
        by-test (goes_on M m)
        (λ h. rw (e, dispatch-goes (a + b) m h, dispatch-goes a m h) (ap one_more (budgets_add a b (round M lanes m)) ∙ counted_as _ (omega arith)))
        (λ h. rw (dispatch-stops (suc a + b) m h, dispatch-stops (suc a) m h) (rw (dispatch-stops b m h)))

    -- exactly the budget's rounds were done, or the work stands at the limit
    abbrev Spent : ℕ → Dispatched S → Type 0
    Spent budget d = (d.rounds ≡ budget) ⊎ (limit ≤ work d.state)

    spent-more : (budget : ℕ) (d : Dispatched S) → Spent budget d → Spent (suc budget) (one_more d)
    spent-more budget d (inl x) = inl (ap suc x)
    spent-more budget d (inr x) = inr x

    -- where no round begins and the job has not ended
    stops-at_limit : (m : S) → goes_on M m ≡ false → job_ended M m ≡ false → limit ≤ work m
    stops-at_limit m h o = by-below (work m) limit (λ z. clash (rw (o, lt-ltb (work m) limit z)) h) (λ z. z)

    pub spent_when : (budget : ℕ) (m : S) → job_ended M (dispatch M lanes budget m).state ≡ false
        → ((dispatch M lanes budget m).rounds ≡ budget) ⊎ (limit ≤ work (dispatch M lanes budget m).state)
    spent_when zero m o = inl (rw (dispatch-none m))
    spent_when (suc budget) m o =
        by-test (goes_on M m)
        (λ h. rw (dispatch-goes budget m h) (spent-more budget _ (spent_when budget (round M lanes m) (rw (dispatch-goes budget m h) at o))))
        (λ h. rw (dispatch-stops (suc budget) m h) (inr (stops-at_limit m h (rw (dispatch-stops (suc budget) m h) at o))))

    pub its_within_budget : (budget : ℕ) (m : S) → (dispatch M lanes budget m).rounds ≤ budget
    its_within_budget zero m = rw (dispatch-none m) (omega arith)
    its_within_budget (suc budget) m =
        by-test (goes_on M m) (λ h. rw (dispatch-goes budget m h) (omega (arith, its_within_budget budget (round M lanes m))))
        (λ h. rw (dispatch-stops (suc budget) m h) (omega arith))
