-- The digits of a number, as the code comes by them.
use mathlib.Core.Path.{◌≡◌, refl, ap}
use mathlib.Core.Bool.{Bool, true, false}
use mathlib.Core.List.{[], ◌∷◌, ◌++◌}
use Prim.Native.Nat.{ℕ, zero, suc, ◌-◌, ◌/◌, ◌<◌, ◌≤◌}
use native.Mathlib.Omega.{arith}
use lib.Dec.{ltb}
use lib.ListN.{length, length-append}
use borrow.Author.Tests.{ltb-true, ltb-false, lt-ltb, le-ltb}
use Rattle.report.specs.Words.{digit, digits, decimal}

pub no_fuel : (fuel n : ℕ) → fuel ≡ 0 → digit n ∷ [] ≡ digits fuel n
unfolding digits
no_fuel fuel n e = rw e

pub one-digit : (fuel n : ℕ) → n < 10 → digit n ∷ [] ≡ digits fuel n
unfolding digits
one-digit zero n h = refl
one-digit (suc fuel) n h = rw (digits, lt-ltb n 10 h)

pub digits-before : (fuel n : ℕ) → (fuel ≡ 0 → ⊥) → 10 ≤ n → digits (fuel - 1) (n / 10) ++ (digit n ∷ []) ≡ digits fuel n
unfolding digits
digits-before zero n f h = absurd (f refl)
digits-before (suc fuel) n f h = let e : suc fuel - 1 ≡ fuel = omega arith in rw (digits, e, le-ltb n 10 h)

-- a register's number has one digit or two
pub index_short : (i : ℕ) → i < 16 → length (decimal i) ≤ 2
index_short i h = go (ltb i 10) refl
  where
    go : (t : Bool) → ltb i 10 ≡ t → length (decimal i) ≤ 2
    go true e = omega (arith, ap length (one-digit 19 i (ltb-true i 10 e)))
    go false e =
        let two : digits 18 (i / 10) ++ (digit i ∷ []) ≡ decimal i = digits-before 19 i (λ z. omega arith) (ltb-false i 10 e) in
        omega (arith, ap length two, length-append (digits 18 (i / 10)) (digit i ∷ []), ap length (one-digit 18 (i / 10) (omega arith)))
