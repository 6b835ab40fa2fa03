-- What the slots that a round takes are: running tasks' in order, at most one a lane; all of them where a lane is left.
use Prim.Native.Nat.{ℕ, zero, suc, ◌+◌, ◌≤◌, ◌<◌}
use mathlib.Core.Path.{◌≡◌, refl}
use mathlib.Core.Logic.{◌⊎◌, inl, inr}
use mathlib.Core.Bool.{true, false}
use mathlib.Core.List.{List, [], ◌∷◌}
use native.Mathlib.Omega.{arith}
use lib.ListN.{length}
use Rattle.facts.proofs.Tests.{clash, by-test, by_order}
use Rattle.agreement.specs.Picks.{Model}
use Rattle.lanes.specs.Rounds.{taken}

abbrev pub Among : ℕ → List ℕ → Type 0
Among j [] = ⊥
Among j (k ∷ ks) = (j ≡ k) ⊎ Among j ks

module _ {F S : Type 0} (M : Model F S) where
  open M use {slots}
  open slots use {running, at}

  -- the slots ks rise from i on and lie below `end`, and Q holds of the frame at each
  pub data Ready (Q : F → Type 0) (m : S) (end : ℕ) : ℕ → List ℕ → Type 0 where
    none : {i : ℕ} → Ready Q m end i []
    next : {i k : ℕ} {ks : List ℕ} → i ≤ k → k < end → Q (at m k) → Ready Q m end (suc k) ks → Ready Q m end i (k ∷ ks)

  ready_from : {Q : F → Type 0} {m : S} {end i j : ℕ} {ks : List ℕ} → i ≤ j → Ready Q m end j ks → Ready Q m end i ks
  ready_from h none = none
  ready_from {i = i} h (next {k = k} x y q r) = next {i = i} {k = k} (omega arith) y q r

  -- what holds of the frames at these slots still does where they have not changed
  pub ready-kept : {Q : F → Type 0} {m : S} {end i : ℕ} {ks : List ℕ} (m' : S) → ((f : F) → Q f → running f ≡ true)
      → ((j : ℕ) → i ≤ j → running (at m j) ≡ true → at m' j ≡ at m j) → Ready Q m end i ks → Ready Q m' end i ks
  ready-kept m' runs same none = none
  ready-kept {m = m} m' runs same (next {k = k} x y q r) =
      next x y (rw (same k x (runs (at m k) q)) q) (ready-kept m' runs (λ j z. same j (omega arith)) r)

  module _ (m : S) where
    pub taken-no_lane : (n i : ℕ) → taken M m 0 n i ≡ []
    unfolding taken
    taken-no_lane n i = refl

    pub taken-no_slot : (lanes i : ℕ) → taken M m lanes 0 i ≡ []
    unfolding taken
    taken-no_slot zero i = refl
    taken-no_slot (suc lanes) i = refl

    pub taken_here : (lanes n i : ℕ) → running (at m i) ≡ true → taken M m (suc lanes) (suc n) i ≡ i ∷ taken M m lanes n (suc i)
    unfolding taken
    taken_here lanes n i r = rw (r, taken)

    pub taken-past : (lanes n i : ℕ) → running (at m i) ≡ false → taken M m (suc lanes) (suc n) i ≡ taken M m (suc lanes) n (suc i)
    unfolding taken
    taken-past lanes n i r = rw (r, taken)

    pub taken-ready : (Q : F → Type 0) (end : ℕ) → ((k : ℕ) → k < end → running (at m k) ≡ true → Q (at m k)) → (n lanes i : ℕ) → i + n ≡ end
        → Ready Q m end i (taken M m lanes n i)
    taken-ready Q end q n zero i e = rw (taken-no_lane n i) none
    taken-ready Q end q zero (suc lanes) i e = rw (taken-no_slot (suc lanes) i) none
    taken-ready Q end q (suc n) (suc lanes) i e =
        by-test (running (at m i))
        (λ r. rw (taken_here lanes n i r)
        (next {i = i} {k = i} (omega arith) (omega arith) (q i (omega arith) r) (taken-ready Q end q n lanes (suc i) (omega arith))))
        (λ r. rw (taken-past lanes n i r) (ready_from (omega arith) (taken-ready Q end q n (suc lanes) (suc i) (omega arith))))

    pub taken_most : (n lanes i : ℕ) → length (taken M m lanes n i) ≤ lanes
    taken_most n zero i = rw (taken-no_lane n i) (omega arith)
    taken_most zero (suc lanes) i = rw (taken-no_slot (suc lanes) i) (omega arith)
    taken_most (suc n) (suc lanes) i =
        by-test (running (at m i)) (λ r. rw (taken_here lanes n i r) (omega (arith, taken_most n lanes (suc i))))
        (λ r. rw (taken-past lanes n i r) (taken_most n (suc lanes) (suc i)))

    -- a round that is not full takes every running task
    pub taken_all : (n lanes i : ℕ) → length (taken M m lanes n i) < lanes → (j : ℕ) → i ≤ j → j < i + n → running (at m j) ≡ true
        → Among j (taken M m lanes n i)
    taken_all n zero i h j x y r = absurd (omega arith)
    taken_all zero (suc lanes) i h j x y r = absurd (omega arith)
    taken_all (suc n) (suc lanes) i h j x y r =
        by-test (running (at m i))
        (λ t. rw (taken_here lanes n i t)
        (by_order i j (λ z. inr (taken_all n lanes (suc i) (omega (arith, rw (taken_here lanes n i t) at h)) j (omega arith) (omega arith) r))
        (λ z. inl (omega arith)) (λ z. absurd (omega arith))))
        (λ t. rw (taken-past lanes n i t)
        (by_order i j (λ z. taken_all n (suc lanes) (suc i) (rw (taken-past lanes n i t) at h) j (omega arith) (omega arith) r)
        (λ z. clash (rw (← z) at r) t) (λ z. absurd (omega arith))))
