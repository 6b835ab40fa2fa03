-- Small facts about an element of a list.
use mathlib.Core.Path.{◌≡◌, refl}
use mathlib.Core.List.{List, [], ◌∷◌}
use Prim.Native.Nat.{ℕ, zero, suc}
use lib.ListN.{get_or, set, replicate}

-- what holds of an element, and of the one stored, holds after the store
pub set_keeps : {A : Type 0} (P : A → Type 0) (l : List A) (k i : ℕ) (a d : A) → P a → P (get_or l i d) → P (get_or (set l k a) i d)
set_keeps P [] k i a d x y = y
set_keeps P (b ∷ l) zero zero a d x y = x
set_keeps P (b ∷ l) zero (suc i) a d x y = y
set_keeps P (b ∷ l) (suc k) zero a d x y = y
set_keeps P (b ∷ l) (suc k) (suc i) a d x y = set_keeps P l k i a d x y

pub constant_at : {A : Type 0} (n i : ℕ) (a : A) → get_or (replicate n a) i a ≡ a
constant_at zero i a = refl
constant_at (suc n) zero a = refl
constant_at (suc n) (suc i) a = constant_at n i a
