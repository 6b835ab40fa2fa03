-- Numbers of 64 bits laid one after the other, the three of a value, a list that is overwritten whole, and rows that are laid one by one.
use mathlib.Core.Path.{◌≡◌, refl, sym, ap, ◌∙◌}
use mathlib.Core.List.{List, [], ◌∷◌, ◌++◌, append-nil, append_assoc}
use Prim.Native.Nat.{ℕ, zero, suc, ◌+◌, ◌*◌, ◌<◌, ◌≤◌}
use native.Mathlib.Omega.{arith}
use lib.ListN.{length, get_or, take, length-append, drop_of_length-le}
use Rattle.std.proofs.lemmas.List.{length-take-le, take_more}
use lib.Seq.{sets, sets-eq, length-sets}
use Rattle.int64.specs.Little.{bytes_of}
use Rattle.int64.proofs.Little.{length_bytes_of}
use Rattle.image.specs.Layout.{rows}
use Rattle.image.proofs.Rows.{placed, row-placed}
use Rattle.task.specs.declared.Value.{Value}
use Rattle.task.specs.declared.Value.TheVariants.{Int, Label, Record}
use Rattle.state.specs.Numbers.{value_numbers, in_bytes}

pub length-in_bytes : (xs : List ℕ) → length (in_bytes xs) ≡ 8 * length xs
unfolding in_bytes
length-in_bytes [] = refl
length-in_bytes (x ∷ xs) =
    length-append (bytes_of 8 x) (in_bytes xs) ∙ omega (arith, length_bytes_of 8 x, length-in_bytes xs)

pub in_bytes-append : (xs ys : List ℕ) → in_bytes (xs ++ ys) ≡ in_bytes xs ++ in_bytes ys
unfolding in_bytes
in_bytes-append [] ys = refl
in_bytes-append (x ∷ xs) ys =
    ap (λ (t : List ℕ). bytes_of 8 x ++ t) (in_bytes-append xs ys) ∙ sym (append_assoc (bytes_of 8 x) (in_bytes xs) (in_bytes ys))

pub in_bytes-rows : (f : ℕ → List ℕ) (n : ℕ) → in_bytes (rows f n) ≡ rows (λ i. in_bytes (f i)) n
unfolding in_bytes rows
in_bytes-rows f zero = refl
in_bytes-rows f (suc n) = in_bytes-append (rows f n) (f n) ∙ ap (λ (t : List ℕ). t ++ in_bytes (f n)) (in_bytes-rows f n)

-- numbers stored right after numbers
pub numbers-placed : (l l₁ l₂ : List ℕ) (at n : ℕ) (xs ys : List ℕ) → l₁ ≡ sets l at (in_bytes xs) → l₂ ≡ sets l₁ n (in_bytes ys)
    → n ≡ at + 8 * length xs → l₂ ≡ sets l at (in_bytes (xs ++ ys))
numbers-placed l l₁ l₂ at n xs ys p q e =
    placed l l₁ l₂ at n (in_bytes xs) (in_bytes ys) p q (e ∙ ap (λ (k : ℕ). at + k) (sym (length-in_bytes xs)))
    ∙ ap (sets l at) (sym (in_bytes-append xs ys))

pub one_number : (x : ℕ) → bytes_of 8 x ≡ in_bytes (x ∷ [])
unfolding in_bytes bytes_of
one_number x = refl

-- numbers written one by one: none so far, and one more
pub none_written : (l : List ℕ) (at : ℕ) → l ≡ sets l at (in_bytes [])
unfolding in_bytes
none_written l at = refl

pub number_more : (l l₁ l₂ : List ℕ) (at i : ℕ) (xs : List ℕ) → i < length xs → l₁ ≡ sets l at (in_bytes (take i xs))
    → l₂ ≡ sets l₁ (at + 8 * i) (bytes_of 8 (get_or xs i 0)) → l₂ ≡ sets l at (in_bytes (take (i + 1) xs))
number_more l l₁ l₂ at i xs h p q =
    let n : length (take i xs) ≡ i = length-take-le i xs (omega arith) in
    numbers-placed l l₁ l₂ at (at + 8 * i) (take i xs) (get_or xs i 0 ∷ []) p
    (q ∙ ap (sets l₁ (at + 8 * i)) (one_number (get_or xs i 0)))
    (omega arith)
    ∙ ap (λ (t : List ℕ). sets l at (in_bytes t)) (sym (take_more xs i 0 h))

-- a list that is overwritten whole
pub sets-whole : {A : Type 0} (l xs : List A) → length xs ≡ length l → sets l 0 xs ≡ xs
sets-whole {A} l xs e =
    sets-eq xs l 0 (omega arith)
    ∙ ap (λ (r : List A). xs ++ r) (drop_of_length-le l {i = 0 + length xs} (omega arith))
    ∙ append-nil xs

-- ---- a value

pub length-value : (v : Value) → length (value_numbers v) ≡ 3
length-value (Int z) = refl
length-value (Label b) = refl
length-value (Record c d) = refl

pub value-width : (v : Value) → length (in_bytes (value_numbers v)) ≡ 24
value-width v = length-in_bytes (value_numbers v) ∙ ap (λ (n : ℕ). 8 * n) (length-value v)

-- ---- rows laid one by one

-- so far: the first i of n rows, from `at` on
pub record Laid (f : ℕ → List ℕ) (n : ℕ) (l : List ℕ) (at i : ℕ) (l' : List ℕ) : Type 0 where
  pub at_most : i ≤ n
  pub rows_there : l' ≡ sets l at (rows f i)

module _ (f : ℕ → List ℕ) (n : ℕ) (l : List ℕ) (at : ℕ) where
  pub laid_none : Laid f n l at 0 l
  unfolding rows
  laid_none = record { at_most = omega arith; rows_there = refl }

  pub laid_more : (width : ℕ) → ((i : ℕ) → length (f i) ≡ width) → (i : ℕ) (l₁ l₂ : List ℕ) → Laid f n l at i l₁ → i < n
      → l₂ ≡ sets l₁ (at + width * i) (f i) → Laid f n l at (i + 1) l₂
  laid_more width even i l₁ l₂ x h e = record { at_most = omega arith; rows_there = row-placed f width even l l₁ l₂ at i x.rows_there e }

  pub laid_all : (i : ℕ) (l' : List ℕ) → Laid f n l at i l' → n ≤ i → l' ≡ sets l at (rows f n)
  laid_all i l' x h = let e : i ≡ n = omega (arith, x.at_most) in x.rows_there ∙ ap (λ (k : ℕ). sets l at (rows f k)) e

  -- the buffer keeps its length
  pub laid_length : (i : ℕ) (l' : List ℕ) → Laid f n l at i l' → length l' ≡ length l
  laid_length i l' x = ap length x.rows_there ∙ length-sets l at (rows f i)
