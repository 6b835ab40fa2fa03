-- What the test `x < 0` says of an i64's bits.
use Rattle.std.proofs.Common.{◌≡◌, ℕ, false, ℤ, pos, negsuc, ◌∙◌, refl, arith, w64, SFits, to_z, of_z}
use lib.Signed.{lt_z}
use mir.ValLaws.{to_z-of_z}

-- of a z that is not negative: its bits are itself
pub natural : (z : ℤ) → SFits w64 z → lt_z (to_z w64 (of_z w64 z)) (pos 0) ≡ false → to_z w64 (of_z w64 z) ≡ pos (of_z w64 z)
natural z f t = to_z-of_z w64 z f ∙ go z (rw (to_z-of_z w64 z f) at t)
  where
    go : (y : ℤ) → lt_z y (pos 0) ≡ false → y ≡ pos (of_z w64 y)
    go (pos n) e = refl
    go (negsuc n) e = absurd (let q : ◌≡◌ {A = ℕ} 0 1 = cc in omega arith)
