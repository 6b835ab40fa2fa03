-- A record fits a task when its depth is not above the task's and every fork opened beyond that depth belongs to it: what the test
-- `fits` says.
use mathlib.Core.Path.{◌≡◌, refl, ap}
use mathlib.Core.Logic.{⊎_elim}
use mathlib.Core.Bool.{Bool, true, false, ◌&&◌}
use mathlib.Core.List.{List}
use Prim.Native.Nat.{ℕ, zero, suc, ◌+◌, ◌-◌, ◌<◌, ◌≤◌}
use native.Mathlib.Omega.{arith}
use native.Mathlib.Nat.{eq-or-lt_of_le}
use lib.Dec.{eqb, leb}
use lib.ListN.{get_or}
use borrow.Author.Tests.{eqb-true, eq-eqb, leb-true, le-leb}
use Rattle.facts.proofs.Tests.{clash, both_true, true_both}
use Rattle.task.specs.declared.Fork.{Fork}
use Rattle.task.specs.Frames.{zero_fork}
use Rattle.task.specs.Effect.{belong, fits}

pub record Fits (k : Fork) (depth : ℕ) (forks : List Fork) : Type 0 where
  pub shallow : k.depth ≤ depth
  pub belongs : (i : ℕ) → k.depth ≤ i → i < depth → get_or forks i zero_fork ≡ k

fork_is : (a k : Fork) → eqb a.continuation k.continuation && eqb a.depth k.depth ≡ true → a ≡ k
fork_is a k e =
    let p = both_true (eqb a.continuation k.continuation) (eqb a.depth k.depth) e in
    let c = eqb-true a.continuation k.continuation p.0 in
    let d = eqb-true a.depth k.depth p.1 in
    λ j. record { continuation = c j; depth = d j }

is_fork : (a k : Fork) → a ≡ k → eqb a.continuation k.continuation && eqb a.depth k.depth ≡ true
is_fork a k e =
    true_both (eq-eqb _ _ (ap (λ (x : Fork). x.continuation) e)) (eq-eqb _ _ (ap (λ (x : Fork). x.depth) e))

module _ (forks : List Fork) (k : Fork) where
  belong-first : (n i : ℕ) → belong forks k (suc n) i ≡ true → (get_or forks i zero_fork ≡ k) × (belong forks k n (i + 1) ≡ true)
  unfolding belong
  belong-first n i e = go (eqb (get_or forks i zero_fork).continuation k.continuation && eqb (get_or forks i zero_fork).depth k.depth) refl
    where
      go : (t : Bool) → eqb (get_or forks i zero_fork).continuation k.continuation && eqb (get_or forks i zero_fork).depth k.depth ≡ t
          → (get_or forks i zero_fork ≡ k) × (belong forks k n (i + 1) ≡ true)
      go true t = (fork_is (get_or forks i zero_fork) k t, rw (t, belong) at e)
      go false t = clash (rw (t, belong) at e) refl

  belong-at : (n i : ℕ) → belong forks k n i ≡ true → (m : ℕ) → i ≤ m → m < i + n → get_or forks m zero_fork ≡ k
  belong-at zero i e m p q = absurd (omega arith)
  belong-at (suc n) i e m p q =
      let h = belong-first n i e in
      ⊎_elim (λ (z : i ≡ m). rw (← z) h.0) (λ (z : i < m). belong-at n (i + 1) h.1 m (omega arith) (omega arith)) (eq-or-lt_of_le p)

  belong_from : (n i : ℕ) → ((m : ℕ) → i ≤ m → m < i + n → get_or forks m zero_fork ≡ k) → belong forks k n i ≡ true
  unfolding belong
  belong_from zero i h = refl
  belong_from (suc n) i h =
      rw (is_fork (get_or forks i zero_fork) k (h i (omega arith) (omega arith)), belong)
      (belong_from n (i + 1) (λ m p q. h m (omega arith) (omega arith)))

module _ (k : Fork) (depth : ℕ) (forks : List Fork) where
  pub fits_is : fits k depth forks ≡ true → Fits k depth forks
  unfolding fits
  fits_is e =
      let p = both_true (leb k.depth depth) (belong forks k (depth - k.depth) k.depth) e in
      let low = leb-true k.depth depth p.0 in
      record { shallow = low; belongs = λ i a b. belong-at forks k (depth - k.depth) k.depth p.1 i a (omega arith) }

  pub is_fits : Fits k depth forks → fits k depth forks ≡ true
  unfolding fits
  is_fits x =
      true_both (le-leb k.depth depth x.shallow)
      (belong_from forks k (depth - k.depth) k.depth (λ i a b. x.belongs i a (omega (arith, x.shallow))))

  -- a task that waits by a record has its innermost fork under that record: so the fork tells `join` the continuation
  pub innermost-under : fits k depth forks ≡ true → k.depth < depth → get_or forks (depth - 1) zero_fork ≡ k
  innermost-under e deep = (fits_is e).belongs (depth - 1) (omega arith) (omega arith)
