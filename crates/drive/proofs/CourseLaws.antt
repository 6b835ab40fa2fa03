-- Where its chooser says that it is over, a run stays; where it is a slot's turn, that slot is picked.
use mathlib.Core.Path.{◌≡◌, refl}
use mathlib.Core.List.{List}
use Prim.Native.Nat.{ℕ, zero, suc}
use lib.IntN.{ℤ}
use Rattle.drive.specs.Courses.{over, turn, Chooser, Run, picked_at, follows}

module _ (cells : List ℕ) (words : List ℤ) {C : Type 0} (next : Chooser C) where
  -- with any budget
  pub stays : (n : ℕ) (r : Run C) → next r.state r.kept ≡ over → follows cells words next n r ≡ r
  unfolding follows
  stays zero r e = refl
  stays (suc n) r e = rw (follows, e)

  pub picks_turn : (n : ℕ) (r : Run C) (k : ℕ) (c : C) → next r.state r.kept ≡ turn k c
      → follows cells words next (suc n) r ≡ follows cells words next n (picked_at cells words k c r)
  unfolding follows
  picks_turn n r k c e = rw (follows, e)
