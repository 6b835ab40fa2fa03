-- Questions put one after the other: the first no decides.
use mathlib.Core.Path.{◌≡◌, refl, sym, ap, ap₂, ◌∙◌}
use mathlib.Core.Bool.{Bool, true, false}
use Prim.Native.Nat.{ℕ, zero, suc, ◌+◌, ◌-◌, ◌<◌, ◌≤◌}
use native.Mathlib.Omega.{arith}
use borrow.Author.Tests.{eq-eqb, ne_eqb, eqb-true, eqb-false}
use lib.Dec.{eqb}
use Rattle.image.specs.Questions.{ask, or_else, first_no}

-- a question's number is not 0
abbrev pub Numbered : ℕ → Type 0
Numbered zero = ⊥
Numbered (suc n) = Unit {0}

-- a question whose answer is 0 was answered with yes, and so were those after it
pub ask_yes : (t : Bool) (n after : ℕ) → Numbered n → ask t n after ≡ 0 → (t ≡ true) × (after ≡ 0)
ask_yes true n after k h = (refl, h)
ask_yes false zero after k h = absurd k
ask_yes false (suc n) after k h = absurd (omega arith)

pub or_else_no : (a b : ℕ) → (a ≡ 0 → ⊥) → or_else a b ≡ a
unfolding or_else
or_else_no a b h = rw (ne_eqb a 0 h)

pub or_else_yes : (a b : ℕ) → a ≡ 0 → or_else a b ≡ b
unfolding or_else
or_else_yes a b h = rw (eq-eqb a 0 h)

-- nothing is asked after it
pub or_else_none : (a : ℕ) → or_else a 0 ≡ a
unfolding or_else
or_else_none zero = refl
or_else_none (suc a) = or_else_no (suc a) 0 (λ e. (omega arith))

pub or_else_both : (a b : ℕ) → or_else a b ≡ 0 → (a ≡ 0) × (b ≡ 0)
unfolding or_else
or_else_both zero b h = (refl, h)
or_else_both (suc a) b h = absurd (omega (arith, or_else_no (suc a) b (λ e. (omega arith))))

-- what is asked next counts only where the first answer was 0
pub or_else_same : (a : ℕ) {b c : ℕ} → (a ≡ 0 → b ≡ c) → or_else a b ≡ or_else a c
unfolding or_else
or_else_same zero h = h refl
or_else_same (suc a) {b} {c} h = or_else_no (suc a) b (λ e. omega arith) ∙ sym (or_else_no (suc a) c (λ e. omega arith))

-- ---- the questions at i, i + 1, .., to - 1

-- equal answers
pub first-no-same : (f g : ℕ → ℕ) (n i : ℕ) → ((j : ℕ) → j < i + n → f j ≡ g j) → first_no f n i ≡ first_no g n i
unfolding first_no
first-no-same f g zero i h = refl
first-no-same f g (suc n) i h = ap₂ or_else (h i (omega arith)) (first-no-same f g n (i + 1) (λ j k. h j (omega arith)))

less_one : (n : ℕ) → suc n - 1 ≡ n
less_one n = omega arith

pub first-no-skips : (f : ℕ → ℕ) (n i : ℕ) → 0 < n → f i ≡ 0 → first_no f n i ≡ first_no f (n - 1) (i + 1)
unfolding first_no
first-no-skips f zero i h e = absurd (omega arith)
first-no-skips f (suc n) i h e = rw (or_else_yes (f i) (first_no f n (i + 1)) e, less_one n)

pub first-no-stops : (f : ℕ → ℕ) (n i : ℕ) → 0 < n → (f i ≡ 0 → ⊥) → first_no f n i ≡ f i
unfolding first_no
first-no-stops f zero i h e = absurd (omega arith)
first-no-stops f (suc n) i h e = or_else_no (f i) (first_no f n (i + 1)) e

pub begins : (f : ℕ → ℕ) (to : ℕ) → first_no f to 0 ≡ first_no f (to - 0) 0
begins f to = ap (λ (n : ℕ). first_no f n 0) (whole to)
  where
    whole : (n : ℕ) → n ≡ n - 0
    whole n = omega arith

module _ (f : ℕ → ℕ) (to i : ℕ) where
  rest : i < to → to - i - 1 ≡ to - (i + 1)
  rest h = omega arith

  none : to ≤ i → to - i ≡ 0
  none h = omega arith

  pub its_goes_on : i < to → f i ≡ 0 → first_no f (to - i) i ≡ first_no f (to - (i + 1)) (i + 1)
  its_goes_on h e = first-no-skips f (to - i) i (omega arith) e ∙ ap (λ (n : ℕ). first_no f n (i + 1)) (rest h)

  pub decides : i < to → (f i ≡ 0 → ⊥) → first_no f (to - i) i ≡ f i
  decides h e = first-no-stops f (to - i) i (omega arith) e

  pub no_more : to ≤ i → first_no f (to - i) i ≡ 0
  unfolding first_no
  no_more h = rw (none h)

  -- the last one decides alone
  pub closes : i + 1 ≡ to → first_no f (to - i) i ≡ f i
  unfolding first_no
  closes h = let one : to - i ≡ 1 = omega (arith, h) in rw one (or_else_none (f i))

-- all of them were answered with yes
pub first-no_all : (f : ℕ → ℕ) (n i : ℕ) → first_no f n i ≡ 0 → (j : ℕ) → i ≤ j → j < i + n → f j ≡ 0
unfolding first_no
first-no_all f zero i h j p q = absurd (omega arith)
first-no_all f (suc n) i h j p q = go (λ k. first-no_all f n (i + 1) both.1 j k (omega arith)) (eqb j i) refl
  where
    both : (f i ≡ 0) × (first_no f n (i + 1) ≡ 0)
    both = or_else_both (f i) (first_no f n (i + 1)) h

    go : (i + 1 ≤ j → f j ≡ 0) → (t : Bool) → eqb j i ≡ t → f j ≡ 0
    go later true e = ap f (eqb-true j i e) ∙ both.0
    go later false e = later (omega (arith, eqb-false j i e))

pub first-no-none : (f : ℕ → ℕ) (n i : ℕ) → ((j : ℕ) → i ≤ j → j < i + n → f j ≡ 0) → first_no f n i ≡ 0
unfolding first_no
first-no-none f zero i h = refl
first-no-none f (suc n) i h =
    or_else_yes (f i) (first_no f n (i + 1)) (h i (omega arith) (omega arith)) ∙ first-no-none f n (i + 1) (λ j p q. h j (omega arith) (omega arith))
