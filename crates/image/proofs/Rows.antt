-- Records laid into a buffer one after the other.
use mathlib.Core.Path.{◌≡◌, refl, sym, ap, ap₂, ◌∙◌}
use mathlib.Core.Bool.{Bool, true, false}
use mathlib.Core.List.{List, ◌++◌}
use Prim.Native.Nat.{ℕ, zero, suc, ◌+◌, ◌*◌, ◌<◌, ◌≤◌}
use native.Mathlib.Omega.{arith}
use native.Mathlib.Nat.{mul-suc, mul-le-mul_left}
use native.Mathlib.Numerals.{add-one}
use lib.Dec.{eqb}
use lib.ListN.{length, get_or, length-append, get_or-append}
use lib.Seq.{sets, get_or-append-add}
use borrow.Author.Tests.{eqb-true, eqb-false}
use Rattle.int64.proofs.Stores.{sets-append}
use Rattle.image.specs.Layout.{rows}

-- what is stored right after what was stored
pub placed : (l l₁ l₂ : List ℕ) (at n : ℕ) (xs ys : List ℕ) → l₁ ≡ sets l at xs → l₂ ≡ sets l₁ n ys → n ≡ at + length xs
    → l₂ ≡ sets l at (xs ++ ys)
placed l l₁ l₂ at n xs ys p q e = q ∙ ap (λ (k : ℕ). sets l₁ k ys) e ∙ ap (λ (m : List ℕ). sets m (at + length xs) ys) p ∙ sets-append l at xs ys

module _ (f : ℕ → List ℕ) (width : ℕ) (even : (i : ℕ) → length (f i) ≡ width) where
  pub length-rows : (n : ℕ) → length (rows f n) ≡ width * n
  unfolding rows
  length-rows zero = omega arith
  length-rows (suc n) = length-append (rows f n) (f n) ∙ rw (length-rows n, even n, mul-suc width n)

  -- one row more
  pub row-placed : (l l₁ l₂ : List ℕ) (at n : ℕ) → l₁ ≡ sets l at (rows f n) → l₂ ≡ sets l₁ (at + width * n) (f n) → l₂ ≡ sets l at (rows f (n + 1))
  unfolding rows
  row-placed l l₁ l₂ at n p q = rw (add-one n) (placed l l₁ l₂ at (at + width * n) (rows f n) (f n) p q (ap (λ (k : ℕ). at + k) (sym (length-rows n))))

  -- what stands in a row
  pub get_d_rows : (n b j : ℕ) → b < n → j < width → get_or (rows f n) (width * b + j) 0 ≡ get_or (f b) j 0
  unfolding rows
  get_d_rows zero b j h k = absurd (omega arith)
  get_d_rows (suc n) b j h k = go (λ q. get_d_rows n b j q k) (eqb b n) refl
    where
      inside : b < n → width * b + j < length (rows f n)
      inside q =
          let le : width * suc b ≤ width * n = mul-le-mul_left width q in
          rw (length-rows n) (omega (arith, mul-suc width b))

      go : (b < n → get_or (rows f n) (width * b + j) 0 ≡ get_or (f b) j 0) → (t : Bool) → eqb b n ≡ t
          → get_or (rows f n ++ f n) (width * b + j) 0 ≡ get_or (f b) j 0
      go earlier true e =
          let q : b ≡ n = eqb-true b n e in
          rw (q, ← length-rows n) (get_or-append-add (rows f n) (f n) j 0)
      go earlier false e =
          let q : b < n = omega (arith, eqb-false b n e) in
          get_or-append (rows f n) (f n) 0 (width * b + j) (inside q) ∙ earlier q

-- rows of equal records are equal
pub rows_same : (f g : ℕ → List ℕ) (n : ℕ) → ((i : ℕ) → i < n → f i ≡ g i) → rows f n ≡ rows g n
unfolding rows
rows_same f g zero h = refl
rows_same f g (suc n) h = ap₂ ◌++◌ (rows_same f g n (λ i q. h i (omega arith))) (h n (omega arith))
