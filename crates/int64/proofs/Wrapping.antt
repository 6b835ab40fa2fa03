-- `residue z` is below 2 ^ 64 and differs from z by a multiple of 2 ^ 64; `wrapped z` fits 64 bits, has z's residue, and is z where z fits.
use Rattle.std.proofs.Common.{◌≡◌, ℕ, zero, suc, ◌+◌, ◌-◌, ◌*◌, ◌/◌, ◌%◌, ◌^◌, ◌<◌, ℤ, pos, negsuc, ◌+ℤ◌, ◌*ℤ◌, neg_ℤ, refl, ap, ◌∙◌, arith, w64, SFits, to_z, of_z, lt-ltb}
use mir.ValLaws.{to_z-of_z, to_z-Fits, of_z-to_z}
use Rattle.std.specs.Int.{int_wrap, int_rem_euclid}
use Rattle.std.specs.Int.RustNames.{unsigned_abs}
use Rattle.int64.specs.Wrapped.{residue, wrapped}

pub residue-below : (z : ℤ) → residue z < 2 ^ 64
residue-below (pos n) = omega arith
residue-below (negsuc n) = omega arith

-- how often 2 ^ 64 goes into z, rounded down
abbrev pub turns : ℤ → ℤ
turns (pos n) = pos (n / 2 ^ 64)
turns (negsuc n) = negsuc (n / 2 ^ 64)

-- -(n + 1) = -k + r
sum_below : (n k r : ℕ) → suc n + r ≡ k → negsuc n ≡ neg_ℤ (pos k) +ℤ pos r
sum_below n zero r e = absurd (omega arith)
sum_below n (suc k) r e = rw (lt-ltb r (suc k) (omega arith)) (ap negsuc (let h : n ≡ suc k - suc r = omega arith in h))

pub residue_differs : (z : ℤ) → z ≡ turns z *ℤ pos (2 ^ 64) +ℤ pos (residue z)
residue_differs (pos n) = ap pos (let h : n ≡ n / 2 ^ 64 * 2 ^ 64 + n % 2 ^ 64 = omega arith in h)
residue_differs (negsuc n) = sum_below n (suc (n / 2 ^ 64) * 2 ^ 64) (2 ^ 64 - 1 - n % 2 ^ 64) (omega arith)

-- the residue of a number that fits is its bits
pub residue_bits : (z : ℤ) → SFits w64 z → residue z ≡ of_z w64 z
residue_bits (pos n) f = let h : n < 2 ^ 63 = f.sfits in omega arith
residue_bits (negsuc n) f = let h : n < 2 ^ 63 = f.sfits in omega arith

pub wrapped_same : (z : ℤ) → SFits w64 z → wrapped z ≡ z
wrapped_same z f = ap (to_z w64) (residue_bits z f) ∙ to_z-of_z w64 z f

pub wrapped-fits : (z : ℤ) → SFits w64 (wrapped z)
wrapped-fits z = to_z-Fits w64 (residue z) (record { fits = residue-below z })

pub wrapped-residue : (z : ℤ) → residue (wrapped z) ≡ residue z
wrapped-residue z = residue_bits (wrapped z) (wrapped-fits z) ∙ of_z-to_z w64 (residue z) (record { fits = residue-below z })

-- the library's word for the same
wrapped_cases : (z : ℤ) → unsigned_abs (int_rem_euclid z (pos (2 ^ 64))) ≡ residue z
wrapped_cases (pos n) = refl
wrapped_cases (negsuc n) = refl

pub wrapped_is : (z : ℤ) → int_wrap w64 z ≡ wrapped z
unfolding int_wrap
wrapped_is z = ap (to_z w64) (wrapped_cases z)
