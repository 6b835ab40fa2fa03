-- `every`: one number at a time, tests that agree, and what it says of each number.
use Prim.Native.Nat.{ℕ, zero, suc, ◌+◌, ◌-◌, ◌≤◌, ◌<◌}
use mathlib.Core.Path.{◌≡◌, refl, sym, ap, ◌∙◌}
use mathlib.Core.Logic.{⊎_elim}
use mathlib.Core.Bool.{Bool, true, false}
use native.Mathlib.Omega.{arith}
use native.Mathlib.Nat.{eq-or-lt_of_le}
use Rattle.facts.proofs.Tests.{clash, by-test}
use Rattle.task.specs.Formed.{every}

module _ (test : ℕ → Bool) (n i : ℕ) where
  every_yes : test i ≡ true → every test (suc n) i ≡ every test n (i + 1)
  unfolding every
  every_yes e = rw (every, e)

  every-no : test i ≡ false → every test (suc n) i ≡ false
  unfolding every
  every-no e = rw (every, e)

every_first : (test : ℕ → Bool) (n i : ℕ) → 0 < n → test i ≡ true → every test n i ≡ every test (n - 1) (i + 1)
every_first test zero i h e = absurd (omega arith)
every_first test (suc n) i h e = let p : suc n - 1 ≡ n = omega arith in every_yes test n i e ∙ rw p

every_fails : (test : ℕ → Bool) (n i : ℕ) → 0 < n → test i ≡ false → every test n i ≡ false
every_fails test zero i h e = absurd (omega arith)
every_fails test (suc n) i h e = every-no test n i e

module _ (test : ℕ → Bool) (n i : ℕ) where
  pub every-goes-on : i < n → test i ≡ true → every test (n - i) i ≡ every test (n - (i + 1)) (i + 1)
  every-goes-on h e =
      every_first test (n - i) i (omega arith) e ∙ ap (λ k. every test k (i + 1)) {x = n - i - 1} {y = n - (i + 1)} (omega arith)

  pub every-stops : i < n → test i ≡ false → every test (n - i) i ≡ false
  every-stops h e = every_fails test (n - i) i (omega arith) e

  pub every-ends : n ≤ i → every test (n - i) i ≡ true
  unfolding every
  every-ends h = let p : n - i ≡ 0 = omega arith in rw p

-- tests that agree at each number agree at all of them
pub every-alike : (test other : ℕ → Bool) (n i : ℕ) → ((k : ℕ) → i ≤ k → k < i + n → test k ≡ other k)
    → every test n i ≡ every other n i
unfolding every
every-alike test other zero i h = refl
every-alike test other (suc n) i h =
    let here = h i (omega arith) (omega arith) in
    by-test (other i)
    (λ e.
    every_yes test n i (here ∙ e)
    ∙ every-alike test other n (i + 1) (λ k p q. h k (omega arith) (omega arith))
    ∙ sym (every_yes other n i e))
    (λ e. every-no test n i (here ∙ e) ∙ sym (every-no other n i e))

-- ---- what a test at each of n numbers says

both_of : (test : ℕ → Bool) (n i : ℕ) → every test (suc n) i ≡ true → (test i ≡ true) × (every test n (i + 1) ≡ true)
unfolding every
both_of test n i h = go (test i) refl
  where
    go : (t : Bool) → test i ≡ t → (test i ≡ true) × (every test n (i + 1) ≡ true)
    go true t = (t, rw (t, every) at h)
    go false t = clash (rw (t, every) at h) refl

pub every-at : (test : ℕ → Bool) (n i : ℕ) → every test n i ≡ true → (k : ℕ) → i ≤ k → k < i + n → test k ≡ true
every-at test zero i h k p q = absurd (omega arith)
every-at test (suc n) i h k p q =
    let e = both_of test n i h in
    ⊎_elim
    (λ (z : i ≡ k). rw (← z) e.0)
    (λ (z : i < k). every-at test n (i + 1) e.1 k (omega arith) (omega arith))
    (eq-or-lt_of_le p)

pub every_from : (test : ℕ → Bool) (n i : ℕ) → ((k : ℕ) → i ≤ k → k < i + n → test k ≡ true) → every test n i ≡ true
unfolding every
every_from test zero i h = refl
every_from test (suc n) i h =
    rw (h i (omega arith) (omega arith), every) (every_from test n (i + 1) (λ k p q. h k (omega arith) (omega arith)))
