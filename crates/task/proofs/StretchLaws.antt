-- A stretch of a list: its length and elements, stores inside and outside of it, one element more.
use Prim.Native.Nat.{ℕ, zero, suc, ◌+◌, ◌≤◌, ◌<◌}
use mathlib.Core.Path.{◌≡◌, refl, ap, ◌∙◌}
use mathlib.Core.Logic.{◌⊎◌, inl, inr}
use mathlib.Core.List.{List, [], ◌∷◌, ◌++◌}
use native.Mathlib.Omega.{arith}
use native.Mathlib.Nat.{add-zero}
use lib.ListN.{length, get_or, set, length-set}
use lib.Seq.{sets, get_or-set_same, get_or-set_other, ext_get_or}
use Rattle.task.specs.Stretches.{reads}

module _ {A : Type 0} (d : A) where
  pub length-reads : (l : List A) (b n : ℕ) → length (reads d l b n) ≡ n
  unfolding reads
  length-reads l b zero = refl
  length-reads l b (suc n) = ap suc (length-reads l (suc b) n)

  pub get_d_reads : (l : List A) (b n i : ℕ) → i < n → get_or (reads d l b n) i d ≡ get_or l (b + i) d
  unfolding reads
  get_d_reads l b zero i h = absurd (omega arith)
  get_d_reads l b (suc n) zero h = rw add-zero
  get_d_reads l b (suc n) (suc i) h = get_d_reads l (suc b) n i (omega arith) ∙ ap (λ x. get_or l x d) (omega arith)

  -- a store outside it changes nothing
  pub reads_set : (l : List A) (b n j : ℕ) (v : A) → (j < b) ⊎ (b + n ≤ j) → reads d (set l j v) b n ≡ reads d l b n
  unfolding reads
  reads_set l b zero j v h = refl
  reads_set l b (suc n) j v (inl h) = rw (get_or-set_other l j b v d (omega arith), reads_set l (suc b) n j v (inl (omega arith)))
  reads_set l b (suc n) j v (inr h) = rw (get_or-set_other l j b v d (omega arith), reads_set l (suc b) n j v (inr (omega arith)))

  pub reads-sets : (vs l : List A) (a n b : ℕ) → (b + length vs ≤ a) ⊎ (a + n ≤ b) → reads d (sets l b vs) a n ≡ reads d l a n
  reads-sets [] l a n b h = refl
  reads-sets (v ∷ vs) l a n b (inl h) = reads-sets vs (set l b v) a n (suc b) (inl (omega arith)) ∙ reads_set l a n b v (inl (omega arith))
  reads-sets (v ∷ vs) l a n b (inr h) = reads-sets vs (set l b v) a n (suc b) (inr (omega arith)) ∙ reads_set l a n b v (inr h)

  get_d_sets : (vs l : List A) (b i : ℕ) → i < b → get_or (sets l b vs) i d ≡ get_or l i d
  get_d_sets [] l b i h = refl
  get_d_sets (v ∷ vs) l b i h = get_d_sets vs (set l b v) (suc b) i (omega arith) ∙ get_or-set_other l b i v d (omega arith)

  -- what was stored is read
  pub reads_same : (vs l : List A) (b : ℕ) → b + length vs ≤ length l → reads d (sets l b vs) b (length vs) ≡ vs
  unfolding reads
  reads_same [] l b h = refl
  reads_same (v ∷ vs) l b h =
      let e : length (set l b v) ≡ length l = length-set l b v in
      let p : get_or (sets (set l b v) (suc b) vs) b d ≡ v =
      get_d_sets vs (set l b v) (suc b) b (omega arith) ∙ get_or-set_same l b v d (omega arith) in
      rw (p, reads_same vs (set l b v) (suc b) (omega arith))

  pub reads_all : (l : List A) → reads d l 0 (length l) ≡ l
  reads_all l =
      ext_get_or d (reads d l 0 (length l)) l (length-reads l 0 (length l))
      (λ i h. get_d_reads l 0 (length l) i (omega (arith, length-reads l 0 (length l))) ∙ ap (λ x. get_or l x d) (omega arith))

  -- one element more
  pub reads_snoc : (l : List A) (b n : ℕ) → reads d l b (suc n) ≡ reads d l b n ++ (get_or l (b + n) d ∷ [])
  unfolding reads
  reads_snoc l b zero = rw add-zero
  reads_snoc l b (suc n) =
      let e : b + suc n ≡ suc b + n = omega arith in
      rw e (ap (λ x. get_or l b d ∷ x) (reads_snoc l (suc b) n))
