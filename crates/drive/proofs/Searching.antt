-- The search for the next running task: what is found, and from where it makes no difference.
use mathlib.Core.Path.{◌≡◌, refl, sym, ap, ◌∙◌}
use mathlib.Core.Bool.{Bool, true, false, cond}
use Prim.Native.Nat.{ℕ, zero, suc, ◌+◌, ◌-◌, ◌<◌, ◌≤◌}
use native.Mathlib.Omega.{arith}
use lib.Dec.{ltb}
use borrow.Author.Tests.{ltb-true, le-ltb}
use Rattle.facts.proofs.Tests.{clash, by-test, by-below}
use Rattle.task.specs.Frames.{running}
use Rattle.drive.specs.declared.State.{State}
use Rattle.drive.specs.Slots.{at}
use Rattle.drive.specs.Passes.{first_running, next_pick}

module _ (m : State) where
  pub first_found : (n k s : ℕ) → k ≤ s → s < k + n → running (at m s) ≡ true → ((i : ℕ) → k ≤ i → i < s → running (at m i) ≡ false)
      → first_running m n k ≡ s
  unfolding first_running
  first_found zero k s a b r quiet = absurd (omega arith)
  first_found (suc n) k s a b r quiet =
      by-below k s (λ h. rw (first_running, quiet k (omega arith) h) (first_found n (k + 1) s (omega arith) (omega arith) r (λ i p q. quiet i (omega arith) q)))
      (λ h. let e : k ≡ s = omega arith in rw (first_running, ap (λ (i : ℕ). running (at m i)) e ∙ r) e)

  pub none_found : (n k : ℕ) → ((i : ℕ) → k ≤ i → i < k + n → running (at m i) ≡ false) → first_running m n k ≡ k + n
  unfolding first_running
  none_found zero k quiet = omega arith
  none_found (suc n) k quiet =
      rw (first_running, quiet k (omega arith) (omega arith)) (none_found n (k + 1) (λ i p q. quiet i (omega arith) (omega arith)) ∙ omega arith)

  -- one that is found runs
  pub found-runs : (n k : ℕ) → first_running m n k < k + n → running (at m (first_running m n k)) ≡ true
  unfolding first_running
  found-runs zero k h = absurd (omega arith)
  found-runs (suc n) k h = by-test (running (at m k)) (λ e. rw (first_running, e) e)
      (λ e. rw (first_running, e) (found-runs n (k + 1) (let g = rw (first_running, e) at h in omega arith)))

  -- and where one runs, one is found
  pub some_found : (n k s : ℕ) → k ≤ s → s < k + n → running (at m s) ≡ true → first_running m n k < k + n
  unfolding first_running
  some_found zero k s a b r = absurd (omega arith)
  some_found (suc n) k s a b r = by-test (running (at m k)) (λ e. rw (first_running, e) (omega arith))
      (λ e. by-below k s
      (λ h. let g = some_found n (k + 1) s (omega arith) (omega arith) r in rw (first_running, e) (omega arith))
      (λ h. let g : k ≡ s = omega arith in clash (ap (λ (i : ℕ). running (at m i)) g ∙ r) e))

  -- so the next pick is of a running task, wherever the run stands
  pub next-runs : (k s : ℕ) → s < m.places → running (at m s) ≡ true → (next_pick m k < m.places) × (running (at m (next_pick m k)) ≡ true)
  unfolding next_pick
  next-runs k s below r =
      let here = first_running m (m.places - k) k in
      by-test (ltb here m.places)
      (λ t. let h = ltb-true here m.places t in rw t (h, found-runs (m.places - k) k (omega arith)))
      (λ t. let g = some_found m.places 0 s (omega arith) (omega arith) r in rw t (omega arith, found-runs m.places 0 g))

  -- from slot 0 on
  pub next_from_first : next_pick m 0 ≡ first_running m m.places 0
  unfolding next_pick
  next_from_first = rw (whole m.places) (either (ltb (first_running m m.places 0) m.places) (first_running m m.places 0))
    where
      whole : (n : ℕ) → n - 0 ≡ n
      whole n = omega arith

      either : (t : Bool) (n : ℕ) → cond t n n ≡ n
      either true n = refl
      either false n = refl

  -- and so from a slot on from which none runs in this pass: from P on, say
  pub next_when_over : (k : ℕ) → ((i : ℕ) → k ≤ i → i < m.places → running (at m i) ≡ false) → next_pick m k ≡ next_pick m 0
  unfolding next_pick
  next_when_over k over =
      let none = none_found (m.places - k) k (λ i p q. over i p (omega arith)) in
      rw (none, le-ltb (k + (m.places - k)) m.places (omega arith)) (sym next_from_first)
