-- Laws of tables: their length and entries, when they are equal, lists that are tables, and tables put together.
use mathlib.Core.Path.{◌≡◌, refl, sym, ap, ap₂, ◌∙◌}
use mathlib.Core.Logic.{⊎_elim}
use mathlib.Core.List.{List, [], ◌∷◌, ◌++◌, append-nil, append_assoc}
use Prim.Native.Nat.{ℕ, zero, suc, ◌+◌, ◌*◌, ◌<◌, ◌≤◌}
use native.Mathlib.Omega.{arith}
use native.Mathlib.Nat.{add-zero, add-suc, mul-zero, mul-suc, eq-or-lt_of_le}
use native.Mathlib.Numerals.{add-one}
use lib.ListN.{length, get_or, length-append, get_or-append, get_or-eq_default}
use lib.Seq.{ext_get_or, get_or_at}
use Rattle.facts.proofs.Tests.{below_or_not}
use Rattle.image.specs.Layout.{rows}
use Rattle.state.specs.Reading.{table}

module _ {A : Type 0} where
  pub length-table : (f : ℕ → A) (n : ℕ) → length (table f n) ≡ n
  unfolding table
  length-table f zero = refl
  length-table f (suc n) = length-append (table f n) (f n ∷ []) ∙ omega (arith, length-table f n)

  -- one entry more
  pub table_more : (f : ℕ → A) (n : ℕ) → table f (n + 1) ≡ table f n ++ (f n ∷ [])
  unfolding table
  table_more f n = rw (add-one n)

  pub get_d_table : (f : ℕ → A) (n i : ℕ) (d : A) → i < n → get_or (table f n) i d ≡ f i
  unfolding table
  get_d_table f zero i d h = absurd (omega arith)
  get_d_table f (suc n) i d h =
      ⊎_elim
      (λ (z : suc i ≡ suc n). let e : i ≡ n = omega arith in rw e (get_or_at (table f n) (f n) [] d n (length-table f n)))
      (λ (z : suc i < suc n).
      get_or-append (table f n) (f n ∷ []) d i (omega (arith, length-table f n)) ∙ get_d_table f n i d (omega arith))
      (eq-or-lt_of_le h)

  -- what holds of the entries, and of the default, holds of whatever is read
  pub table-keeps : (P : A → Type 0) (f : ℕ → A) (n : ℕ) (d : A) → ((i : ℕ) → i < n → P (f i)) → P d → (i : ℕ) → P (get_or (table f n) i d)
  table-keeps P f n d h k i =
      ⊎_elim
      (λ (q : i < n). rw (get_d_table f n i d q) (h i q))
      (λ (q : n ≤ i). rw (get_or-eq_default (table f n) d {n = i} (omega (arith, length-table f n))) k)
      (below_or_not i n)

  -- tables of equal entries are equal
  pub table_same : (f g : ℕ → A) (n : ℕ) → ((i : ℕ) → i < n → f i ≡ g i) → table f n ≡ table g n
  unfolding table
  table_same f g zero h = refl
  table_same f g (suc n) h =
      ap₂ (λ (t : List A) (a : A). t ++ (a ∷ [])) (table_same f g n (λ i q. h i (omega arith))) (h n (omega arith))

  -- a list of n entries that are the table's is the table
  pub list_table : (xs : List A) (f : ℕ → A) (n : ℕ) (d : A) → length xs ≡ n → ((i : ℕ) → i < n → get_or xs i d ≡ f i) → xs ≡ table f n
  list_table xs f n d e h =
      ext_get_or d xs (table f n) (e ∙ sym (length-table f n)) (λ i q. h i (omega arith) ∙ sym (get_d_table f n i d (omega arith)))

  -- the table of a list's entries is the list
  pub table_list : (xs : List A) (n : ℕ) (d : A) → length xs ≡ n → table (λ i. get_or xs i d) n ≡ xs
  table_list xs n d e = sym (list_table xs (λ i. get_or xs i d) n d e (λ i q. refl))

  -- the first a entries, then the next b
  pub table_add : (f : ℕ → A) (a b : ℕ) → table f (a + b) ≡ table f a ++ table (λ j. f (a + j)) b
  unfolding table
  table_add f a zero = rw (add-zero a) (sym (append-nil (table f a)))
  table_add f a (suc b) =
      rw (add-suc a b)
      (ap (λ (t : List A). t ++ (f (a + b) ∷ [])) (table_add f a b) ∙ append_assoc (table f a) (table (λ j. f (a + j)) b) (f (a + b) ∷ []))

-- n rows of w entries each
pub rows-table : (f : ℕ → ℕ) (w n : ℕ) → rows (λ k. table (λ j. f (w * k + j)) w) n ≡ table f (w * n)
unfolding rows table
rows-table f w zero = rw (mul-zero w)
rows-table f w (suc n) =
    rw (mul-suc w n)
    (ap (λ (t : List ℕ). t ++ table (λ j. f (w * n + j)) w) (rows-table f w n) ∙ sym (table_add f (w * n) w))
