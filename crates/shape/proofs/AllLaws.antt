-- A test of each element of a list, as a test of each place.
use Rattle.std.proofs.Common.{◌≡◌, ℕ, zero, suc, ◌+◌, ◌≤◌, Bool, true, false, ◌&&◌, List, length, get_or, take, drop, refl, sym, ap, ◌∙◌, arith, add-one, drop-cons}
use Rattle.std.proofs.lemmas.List.{take_all}
use Rattle.std.specs.List.{list_all}
use Rattle.task.specs.Formed.{every}

-- of n elements from i on
pub every_of : {A : Type 0} (p : A → Bool) (d : A) (xs : List A) (n i : ℕ) → i + n ≤ length xs
    → list_all p (take n (drop i xs)) ≡ every (λ j. p (get_or xs j d)) n i
unfolding every
every_of p d xs zero i h = refl
every_of {A} p d xs (suc n) i h =
    rw (drop-cons xs i d (omega arith), every) (go (p (get_or xs i d)) (rw (add-one i) (every_of p d xs n (suc i) (omega arith))))
  where
    go : (z : Bool) → list_all p (take n (drop (suc i) xs)) ≡ every (λ j. p (get_or xs j d)) n (i + 1)
        → (z && list_all p (take n (drop (suc i) xs))) ≡ elim z [ true ↦ every (λ j. p (get_or xs j d)) n (i + 1) | false ↦ false ]
    go true e = e
    go false e = refl

-- of all
pub every_of_all : {A : Type 0} (p : A → Bool) (d : A) (xs : List A) (n : ℕ) → length xs ≡ n → list_all p xs ≡ every (λ j. p (get_or xs j d)) n 0
every_of_all p d xs n full = ap (list_all p) (sym (take_all n xs (omega arith))) ∙ every_of p d xs n 0 (omega arith)
