-- A walk over records that stops at the first no: what it answers, and how many records it has passed.
use mathlib.Core.Path.{◌≡◌, refl, ap, ◌∙◌}
use mathlib.Core.Bool.{Bool, true, false, cond}
use mathlib.Core.List.{List}
use Prim.Native.Nat.{ℕ, zero, suc, ◌+◌, ◌-◌, ◌*◌, ◌<◌, ◌≤◌}
use native.Mathlib.Omega.{arith}
use lib.ListN.{length}
use lib.Seq.{sets, length-sets}
use borrow.Author.Tests.{eq-eqb, ne_eqb}
use Rattle.image.specs.Layout.{rows}
use Rattle.image.specs.Questions.{first_no}
use Rattle.image.specs.Offset.{passed}
use Rattle.image.proofs.Asked.{begins, its_goes_on, decides, no_more, first-no_all}
use Rattle.image.proofs.Rows.{row-placed}

-- ---- records passed

passed-one : (f : ℕ → ℕ) (n i : ℕ) → 0 < n → f i ≡ 0 → passed f n i ≡ suc (passed f (n - 1) (i + 1))
unfolding passed
passed-one f zero i h e = absurd (omega arith)
passed-one f (suc n) i h e = rw (eq-eqb (f i) 0 e) (ap (λ (m : ℕ). suc (passed f m (i + 1))) (less n))
  where
    less : (n : ℕ) → n ≡ suc n - 1
    less n = omega arith

passed_none : (f : ℕ → ℕ) (n i : ℕ) → (f i ≡ 0 → ⊥) → passed f n i ≡ 0
unfolding passed
passed_none f zero i e = refl
passed_none f (suc n) i e = rw (ne_eqb (f i) 0 e)

passed_out : (f : ℕ → ℕ) (n i : ℕ) → n ≡ 0 → passed f n i ≡ 0
unfolding passed
passed_out f n i e = rw e

-- the first i of n records were answered with yes
pub record Walking (f : ℕ → ℕ) (n i : ℕ) : Type 0 where
  pub asked : first_no f n 0 ≡ first_no f (n - i) i
  pub gone : passed f n 0 ≡ i + passed f (n - i) i

module _ (f : ℕ → ℕ) (n : ℕ) where
  pub walk_begins : Walking f n 0
  walk_begins =
      let whole : n ≡ n - 0 = omega arith in
      let all : passed f n 0 ≡ passed f (n - 0) 0 = ap (λ (m : ℕ). passed f m 0) whole in
      record { asked = begins f n; gone = omega (arith, all) }

  module _ (i : ℕ) (w : Walking f n i) where
    pub walk_goes-on : i < n → f i ≡ 0 → Walking f n (i + 1)
    walk_goes-on h e =
        let one : passed f (n - i) i ≡ suc (passed f (n - i - 1) (i + 1)) = passed-one f (n - i) i (omega arith) e in
        let rest : n - i - 1 ≡ n - (i + 1) = omega arith in
        let more : passed f (n - i - 1) (i + 1) ≡ passed f (n - (i + 1)) (i + 1) = ap (λ (m : ℕ). passed f m (i + 1)) rest in
        record { asked = w.asked ∙ its_goes_on f n i h e; gone = omega (arith, w.gone, one, more) }

    pub walk_stops : i < n → (f i ≡ 0 → ⊥) → (first_no f n 0 ≡ f i) × (passed f n 0 ≡ i)
    walk_stops h e = (w.asked ∙ decides f n i h e, omega (arith, w.gone, passed_none f (n - i) i e))

    pub walk_ends : n ≤ i → (first_no f n 0 ≡ 0) × (passed f n 0 ≡ i)
    walk_ends h =
        let none : n - i ≡ 0 = omega arith in
        (w.asked ∙ no_more f n i h, omega (arith, w.gone, passed_out f (n - i) i none))

-- the walk's outcome, from its first no
pub walk_passed : (f : ℕ → ℕ) (n i : ℕ) → i ≤ n → ((j : ℕ) → j < i → f j ≡ 0) → Walking f n i
walk_passed f n zero h e = walk_begins f n
walk_passed f n (suc i) h e = rw (next i) (walk_goes-on f n i (walk_passed f n i (omega arith) (λ j q. e j (omega arith))) (omega arith) (e i (omega arith)))
  where
    next : (i : ℕ) → suc i ≡ i + 1
    next i = omega arith

-- where none is refused, it passes all
pub passed_all : (f : ℕ → ℕ) (n : ℕ) → first_no f n 0 ≡ 0 → passed f n 0 ≡ n
passed_all f n e =
    let every : (j : ℕ) → j < n → f j ≡ 0 = λ j k. first-no_all f n 0 e j (omega arith) (omega arith) in
    (walk_ends f n n (walk_passed f n n (omega arith) every) (omega arith)).1

-- ---- records laid, where that is wanted

module _ (f : ℕ → List ℕ) (width : ℕ) (even : (i : ℕ) → length (f i) ≡ width) where
  pub laid_none : (t : Bool) (l : List ℕ) (at : ℕ) → l ≡ cond t (sets l at (rows f 0)) l
  unfolding rows
  laid_none true l at = refl
  laid_none false l at = refl

  pub laid_more : (t : Bool) (l l₁ l₂ : List ℕ) (at to n : ℕ) → l₁ ≡ cond t (sets l at (rows f n)) l → l₂ ≡ cond t (sets l₁ to (f n)) l₁
      → to ≡ at + width * n → l₂ ≡ cond t (sets l at (rows f (n + 1))) l
  laid_more true l l₁ l₂ at to n p q e = row-placed f width even l l₁ l₂ at n p (q ∙ ap (λ (k : ℕ). sets l₁ k (f n)) e)
  laid_more false l l₁ l₂ at to n p q e = q ∙ p

pub laid_length : (t : Bool) (l l' xs : List ℕ) (at : ℕ) → l' ≡ cond t (sets l at xs) l → length l' ≡ length l
laid_length true l l' xs at e = ap length e ∙ length-sets l at xs
laid_length false l l' xs at e = ap length e

-- a buffer that is as it has to be where something is wanted
pub as_lent : (t : Bool) (l new : List ℕ) → (t ≡ true → l ≡ new) → l ≡ cond t new l
as_lent true l new e = e refl
as_lent false l new e = refl

-- one layer after the other
pub laid_then : (t : Bool) (f : List ℕ → List ℕ) (l l₁ l₂ new : List ℕ) → l₁ ≡ cond t new l → l₂ ≡ cond t (f l₁) l₁ → l₂ ≡ cond t (f new) l
laid_then true f l l₁ l₂ new p q = q ∙ ap f p
laid_then false f l l₁ l₂ new p q = q ∙ p
