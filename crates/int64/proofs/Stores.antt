-- Runs of stores (`sets` of `lib.Seq`): two in a row are one, and what stands at each index afterwards.
use Rattle.std.proofs.Common.{◌≡◌, ℕ, zero, suc, ◌+◌, ◌<◌, ◌≤◌, List, [], ◌∷◌, ◌++◌, length, get_or, set, refl, ap, ◌∙◌, add-zero, arith, length-set, get_or-set_other, get_or-set_same}
use lib.Seq.{sets}

-- one place further: the tail of a run that starts at i
pub one_further : (i n : ℕ) → i + suc n ≡ suc i + n
one_further i n = omega arith

module _ {ℓ} {A : Type ℓ} where
  pub sets-append : (l : List A) (i : ℕ) (xs ys : List A) → sets (sets l i xs) (i + length xs) ys ≡ sets l i (xs ++ ys)
  sets-append l i [] ys = ap (λ (k : ℕ). sets l k ys) (add-zero i)
  sets-append l i (x ∷ xs) ys =
      ap (λ (k : ℕ). sets (sets (set l i x) (suc i) xs) k ys) (one_further i (length xs)) ∙ sets-append (set l i x) (suc i) xs ys

  pub get_d_sets_before : (l : List A) (i : ℕ) (xs : List A) (j : ℕ) (d : A) → j < i → get_or (sets l i xs) j d ≡ get_or l j d
  get_d_sets_before l i [] j d h = refl
  get_d_sets_before l i (x ∷ xs) j d h =
      get_d_sets_before (set l i x) (suc i) xs j d (omega arith) ∙ get_or-set_other l i j x d (λ e. omega arith)

  pub get_d_sets-after : (l : List A) (i : ℕ) (xs : List A) (j : ℕ) (d : A) → i + length xs ≤ j → get_or (sets l i xs) j d ≡ get_or l j d
  get_d_sets-after l i [] j d h = refl
  get_d_sets-after l i (x ∷ xs) j d h =
      get_d_sets-after (set l i x) (suc i) xs j d (omega arith) ∙ get_or-set_other l i j x d (λ e. omega arith)

  pub get_d_sets-inside : (l : List A) (i : ℕ) (xs : List A) (k : ℕ) (d : A) → k < length xs → i + k < length l → get_or (sets l i xs) (i + k) d ≡ get_or xs k d
  get_d_sets-inside l i [] k d h b = absurd (omega arith)
  get_d_sets-inside l i (x ∷ xs) zero d h b =
      let e : i + 0 ≡ i = add-zero i in
      rw e (get_d_sets_before (set l i x) (suc i) xs i d (omega arith) ∙ get_or-set_same l i x d (omega arith))
  get_d_sets-inside l i (x ∷ xs) (suc k) d h b =
      let b' : suc i + k < length (set l i x) = omega (arith, length-set l i x) in
      ap (λ (n : ℕ). get_or (sets (set l i x) (suc i) xs) n d) (one_further i k) ∙ get_d_sets-inside (set l i x) (suc i) xs k d (omega arith) b'
