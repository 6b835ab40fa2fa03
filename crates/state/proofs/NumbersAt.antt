-- Numbers of 64 bits that stand in bytes from an offset on, one after the other: parts, rows, and that this is what writing them does.
use mathlib.Core.Path.{◌≡◌, refl, sym, ap, ap₂, ◌∙◌, subst}
use mathlib.Core.Logic.{⊎_elim}
use mathlib.Core.List.{List, [], ◌∷◌, ◌++◌, append_assoc}
use Prim.Native.Nat.{ℕ, zero, suc, ◌+◌, ◌*◌, ◌-◌, ◌^◌, ◌<◌, ◌≤◌}
use native.Mathlib.Omega.{arith}
use native.Mathlib.Nat.{add-zero, mul-suc, mul_assoc, mul-le-mul_left}
use lib.ListN.{length, get_or, drop, length-append, take-append-drop, drop_of_length-le, get_or-append}
use lib.Seq.{get_or-append-add, drop-drop}
use Rattle.facts.proofs.Tests.{below_or_not}
use Rattle.int64.specs.Little.{bytes_of}
use Rattle.int64.proofs.Little.{length_bytes_of, little-below, little-written, bytes_of_little}
use Rattle.image.specs.Layout.{rows}
use Rattle.image.specs.RoundTrip.{Bytes, Cells}
use Rattle.image.proofs.Rows.{length-rows, get_d_rows}
use Rattle.state.specs.Numbers.{in_bytes}
use Rattle.state.specs.Reading.{table, number_at}
use Rattle.state.proofs.Tables.{length-table, get_d_table}

-- from this offset on, the bytes' numbers are xs
abbrev pub NumbersAt : List ℕ → ℕ → List ℕ → Type 0
NumbersAt bytes at xs = (j : ℕ) → j < length xs → number_at bytes (at + 8 * j) ≡ get_or xs j 0

-- a number in bytes has 64 bits
pub number-below : (bytes : List ℕ) → Bytes bytes → (at : ℕ) → number_at bytes at < 2 ^ 64
number-below bytes small at = little-below 8 bytes at small

-- ---- what stands there

module _ (bytes : List ℕ) (at : ℕ) where
  -- the next n numbers
  abbrev pub numbers_from : ℕ → List ℕ
  numbers_from n = table (λ j. number_at bytes (at + 8 * j)) n

  pub numbers-there : (n : ℕ) → NumbersAt bytes at (numbers_from n)
  numbers-there n j q = sym (get_d_table (λ i. number_at bytes (at + 8 * i)) n j 0 (omega (arith, length-table (λ i. number_at bytes (at + 8 * i)) n)))

  pub three_from : numbers_from 3 ≡ number_at bytes at ∷ number_at bytes (at + 8) ∷ number_at bytes (at + 16) ∷ []
  unfolding table
  three_from = ap (λ (n : ℕ). number_at bytes n ∷ number_at bytes (at + 8) ∷ number_at bytes (at + 16) ∷ []) (add-zero at)

-- a single number
pub one-there : (bytes : List ℕ) (at x : ℕ) → number_at bytes at ≡ x → NumbersAt bytes at (x ∷ [])
one-there bytes at x e zero q = ap (number_at bytes) (add-zero at) ∙ e
one-there bytes at x e (suc j) q = absurd (omega arith)

-- ---- parts

module _ (bytes : List ℕ) (at : ℕ) where
  pub number-first : (xs : List ℕ) → 0 < length xs → NumbersAt bytes at xs → number_at bytes at ≡ get_or xs 0 0
  number-first xs q h = ap (number_at bytes) (sym (add-zero at)) ∙ h 0 q

  pub numbers-before : (xs ys : List ℕ) → NumbersAt bytes at (xs ++ ys) → NumbersAt bytes at xs
  numbers-before xs ys h j q = h j (omega (arith, length-append xs ys)) ∙ get_or-append xs ys 0 j q

  pub numbers_after : (xs ys : List ℕ) (b : ℕ) → b ≡ at + 8 * length xs → NumbersAt bytes at (xs ++ ys) → NumbersAt bytes b ys
  numbers_after xs ys b e h j q =
      let place : b + 8 * j ≡ at + 8 * (length xs + j) = omega arith in
      ap (number_at bytes) place ∙ h (length xs + j) (omega (arith, length-append xs ys)) ∙ get_or-append-add xs ys j 0

  pub numbers-joined : (xs ys : List ℕ) (b : ℕ) → b ≡ at + 8 * length xs → NumbersAt bytes at xs → NumbersAt bytes b ys → NumbersAt bytes at (xs ++ ys)
  numbers-joined xs ys b e p q j h = ⊎_elim inside (λ k. further (j - length xs) (omega arith)) (below_or_not j (length xs))
    where
      inside : j < length xs → number_at bytes (at + 8 * j) ≡ get_or (xs ++ ys) j 0
      inside k = p j k ∙ sym (get_or-append xs ys 0 j k)

      further : (i : ℕ) → j ≡ length xs + i → number_at bytes (at + 8 * j) ≡ get_or (xs ++ ys) j 0
      further i k =
          let place : at + 8 * j ≡ b + 8 * i = omega arith in
          ap (number_at bytes) place
          ∙ q i (omega (arith, length-append xs ys))
          ∙ sym (get_or-append-add xs ys i 0)
          ∙ ap (λ (n : ℕ). get_or (xs ++ ys) n 0) (sym k)

-- ---- rows of w numbers

module _ (bytes : List ℕ) (at : ℕ) (f : ℕ → List ℕ) (w : ℕ) (even : (k : ℕ) → length (f k) ≡ w) where
  pub numbers-row : (n : ℕ) → NumbersAt bytes at (rows f n) → (k : ℕ) → k < n → NumbersAt bytes (at + 8 * w * k) (f k)
  numbers-row n h k q j r =
      let place : at + 8 * w * k + 8 * j ≡ at + 8 * (w * k + j) = omega (arith, mul_assoc 8 w k) in
      let le : w * suc k ≤ w * n = mul-le-mul_left w q in
      ap (number_at bytes) place
      ∙ h (w * k + j) (omega (arith, length-rows f w even n, mul-suc w k, even k))
      ∙ get_d_rows f w even n k j q (omega (arith, even k))

  pub numbers-rows : (n : ℕ) → ((k : ℕ) → k < n → NumbersAt bytes (at + 8 * w * k) (f k)) → NumbersAt bytes at (rows f n)
  unfolding rows
  numbers-rows zero h = λ j q. absurd (omega arith)
  numbers-rows (suc n) h =
      numbers-joined bytes at (rows f n) (f n) (at + 8 * w * n)
      (omega (arith, length-rows f w even n, mul_assoc 8 w n))
      (numbers-rows n (λ k q. h k (omega arith)))
      (h n (omega arith))

-- ---- numbers written

-- numbers that take all bytes from an offset on, written, are those bytes
pub written_from : (bytes : List ℕ) → Bytes bytes → (xs : List ℕ) (at : ℕ) → length bytes ≡ at + 8 * length xs → NumbersAt bytes at xs
    → in_bytes xs ≡ drop at bytes
unfolding in_bytes
written_from bytes small [] at e h = sym (drop_of_length-le bytes {i = at} (omega arith))
written_from bytes small (x ∷ xs) at e h =
    ap₂ ◌++◌
    (ap (bytes_of 8) (sym (number-first bytes at (x ∷ xs) (omega arith) h)) ∙ bytes_of_little 8 bytes at small (omega arith))
    (written_from bytes small xs (at + 8) (omega arith) (numbers_after bytes at (x ∷ []) xs (at + 8) refl h) ∙ sym (drop-drop 8 at bytes))
    ∙ take-append-drop 8 (drop at bytes)

-- numbers of 64 bits, written after other bytes, stand there
pub numbers-written : (before xs : List ℕ) → Cells xs → NumbersAt (before ++ in_bytes xs) (length before) xs
unfolding in_bytes
numbers-written before [] small = λ j q. absurd (omega arith)
numbers-written before (x ∷ xs) small =
    numbers-joined (before ++ (bytes_of 8 x ++ in_bytes xs)) (length before) (x ∷ []) xs
    (length (before ++ bytes_of 8 x))
    (length-append before (bytes_of 8 x) ∙ ap (λ (n : ℕ). length before + n) (length_bytes_of 8 x))
    first
    (subst (λ (l : List ℕ). NumbersAt l (length (before ++ bytes_of 8 x)) xs)
    (append_assoc before (bytes_of 8 x) (in_bytes xs))
    (numbers-written (before ++ bytes_of 8 x) xs (λ i. small (suc i))))
  where
    first : NumbersAt (before ++ (bytes_of 8 x ++ in_bytes xs)) (length before) (x ∷ [])
    first = one-there (before ++ (bytes_of 8 x ++ in_bytes xs)) (length before) x (little-written 8 x before (in_bytes xs) (small 0))

-- ---- lists of numbers of 64 bits

-- each of a written list is below 2 ^ 64
abbrev pub EachBelow : List ℕ → Type 0
EachBelow [] = Unit
EachBelow (x ∷ xs) = (x < 2 ^ 64) × EachBelow xs

pub cells-each : (xs : List ℕ) → EachBelow xs → Cells xs
cells-each [] h i = omega arith
cells-each (x ∷ xs) h zero = h.0
cells-each (x ∷ xs) h (suc i) = cells-each xs h.1 i

pub cells-append : (xs ys : List ℕ) → Cells xs → Cells ys → Cells (xs ++ ys)
cells-append [] ys p q i = q i
cells-append (x ∷ xs) ys p q zero = p 0
cells-append (x ∷ xs) ys p q (suc i) = cells-append xs ys (λ j. p (suc j)) q i

pub cells-rows : (f : ℕ → List ℕ) (n : ℕ) → ((k : ℕ) → k < n → Cells (f k)) → Cells (rows f n)
unfolding rows
cells-rows f zero h = cells-each [] tt
cells-rows f (suc n) h = cells-append (rows f n) (f n) (cells-rows f n (λ k q. h k (omega arith))) (h n (omega arith))
