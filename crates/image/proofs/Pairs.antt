-- The test of pair bytes, one pair at a time.
use mathlib.Core.Path.{◌≡◌, refl}
use mathlib.Core.Bool.{true, false}
use Prim.Native.Nat.{ℕ, zero, suc, ◌*◌, ◌-◌, ◌/◌, ◌%◌, ◌^◌, ◌<◌, ◌≤◌}
use native.Mathlib.Omega.{arith}
use lib.Dec.{eqb, ltb}
use native.Mathlib.Nat.{pow-suc, pow-le-pow_right, lt_of_lt_of_le}
use borrow.Author.Tests.{lt-ltb, le-ltb, eqb-true, ltb-true}
use Rattle.facts.proofs.Tests.{both_true}
use Rattle.image.specs.Questions.{rising}

less_one : (n : ℕ) → suc (suc n) - 1 ≡ suc n
less_one n = omega arith

pub rising_falls : (n x : ℕ) → 1 < n → x / 256 % 16 ≤ x % 16 → rising n x ≡ false
unfolding rising
rising_falls zero x h k = absurd (omega arith)
rising_falls (suc zero) x h k = absurd (omega arith)
rising_falls (suc (suc n)) x h k = rw (le-ltb (x % 16) (x / 256 % 16) k)

pub rising-goes-on : (n x : ℕ) → 1 < n → x % 16 < x / 256 % 16 → rising n x ≡ rising (n - 1) (x / 256)
unfolding rising
rising-goes-on zero x h k = absurd (omega arith)
rising-goes-on (suc zero) x h k = absurd (omega arith)
rising-goes-on (suc (suc n)) x h k = rw (lt-ltb (x % 16) (x / 256 % 16) k, less_one n)

pub rising_none : (n x : ℕ) → n ≡ 0 → rising n x ≡ eqb x 0
unfolding rising
rising_none zero x h = refl
rising_none (suc n) x h = absurd (omega arith)

pub rising-one : (n x : ℕ) → n ≤ 1 → (n ≡ 0 → ⊥) → rising n x ≡ ltb x 256
unfolding rising
rising-one zero x h k = absurd (k refl)
rising-one (suc zero) x h k = refl
rising-one (suc (suc n)) x h k = absurd (omega arith)

-- what is packed has no more bytes than pairs
rising-below : (n x : ℕ) → rising n x ≡ true → x < 256 ^ n
unfolding rising
rising-below zero x h = omega (arith, eqb-true x 0 h)
rising-below (suc zero) x h = omega (arith, ltb-true x 256 h)
rising-below (suc (suc n)) x h =
    let ih : x / 256 < 256 ^ suc n = rising-below (suc n) (x / 256) (both_true (ltb (x % 16) (x / 256 % 16)) (rising (suc n) (x / 256)) h).1 in
    let e : 256 ^ suc (suc n) ≡ 256 ^ suc n * 256 = pow-suc 256 (suc n) in
    omega arith

pub rising-fits : (most n x : ℕ) → n ≤ most → rising n x ≡ true → x < 256 ^ most
rising-fits most n x h k = lt_of_lt_of_le (rising-below n x k) (pow-le-pow_right {n = 256} (omega arith) h)
