-- Tests: two that hold together, one that never holds, and cases by a test.
use Prim.Native.Nat.{ℕ, ◌≤◌, ◌<◌}
use mathlib.Core.Path.{◌≡◌, refl, sym, ◌∙◌}
use mathlib.Core.Logic.{◌⊎◌, inl, inr}
use mathlib.Core.Bool.{Bool, true, false, not, ◌&&◌, true≢false}
use native.Mathlib.Omega.{arith}
use lib.Dec.{ltb}
use borrow.Author.Tests.{ltb-true, ltb-false}

pub clash : {A : Type 0} {b : Bool} → b ≡ true → b ≡ false → A
clash p q = absurd (true≢false (sym p ∙ q))

pub both_true : (a b : Bool) → a && b ≡ true → (a ≡ true) × (b ≡ true)
both_true true b h = (refl, h)
both_true false b h = clash h refl

pub true_both : {a b : Bool} → a ≡ true → b ≡ true → a && b ≡ true
true_both p q = rw (p, q)

pub false_not : {a : Bool} → a ≡ false → not a ≡ true
false_not p = rw p

pub never : (b : Bool) → (b ≡ true → ⊥) → b ≡ false
never true h = absurd (h refl)
never false h = refl

-- two tests that pass together
pub same : (a b : Bool) → (a ≡ true → b ≡ true) → (b ≡ true → a ≡ true) → a ≡ b
same true b h k = sym (h refl)
same false true h k = k refl
same false false h k = refl

-- ---- by cases, each with what the case says

pub by-test : {A : Type 0} (b : Bool) → (b ≡ true → A) → (b ≡ false → A) → A
by-test true passed failed = passed refl
by-test false passed failed = failed refl

pub by-below : {A : Type 0} (i n : ℕ) → (i < n → A) → (n ≤ i → A) → A
by-below i n below from = by-test (ltb i n) (λ t. below (ltb-true i n t)) (λ t. from (ltb-false i n t))

pub by_order : {A : Type 0} (i n : ℕ) → (i < n → A) → (i ≡ n → A) → (n < i → A) → A
by_order i n below equal above = by-below i n below (λ p. by-below n i above (λ q. equal (omega arith)))

pub below_or_not : (i n : ℕ) → (i < n) ⊎ (n ≤ i)
below_or_not i n = by-below i n inl inr
