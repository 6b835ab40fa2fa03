-- A decimal read back is its number: the fuel of `decimal` is enough for 64 bits.
use mathlib.Core.Path.{◌≡◌, refl, ◌∙◌}
use mathlib.Core.Bool.{Bool, true, false}
use mathlib.Core.List.{List, [], ◌∷◌, ◌++◌}
use Prim.Native.Nat.{ℕ, zero, suc, ◌+◌, ◌*◌, ◌-◌, ◌/◌, ◌^◌, ◌<◌}
use native.Mathlib.Omega.{arith}
use native.Mathlib.Nat.{pow-suc}
use lib.Dec.{ltb}
use borrow.Author.Tests.{ltb-true}
use Rattle.report.specs.Words.{digit, digits, decimal}

-- n, with digits behind it
abbrev pub read_on : ℕ → List ℕ → ℕ
read_on n [] = n
read_on n (d ∷ ds) = read_on (10 * n + (d - 48)) ds

read_append : (n : ℕ) (xs ys : List ℕ) → read_on n (xs ++ ys) ≡ read_on (read_on n xs) ys
read_append n [] ys = refl
read_append n (x ∷ xs) ys = read_append (10 * n + (x - 48)) xs ys

read_digits : (fuel n : ℕ) → n < 10 * 10 ^ fuel → read_on 0 (digits fuel n) ≡ n
unfolding digits
read_digits zero n h = omega arith
read_digits (suc fuel) n h = go (read_digits fuel (n / 10)) (ltb n 10) refl
  where
    go : (n / 10 < 10 * 10 ^ fuel → read_on 0 (digits fuel (n / 10)) ≡ n / 10) → (t : Bool) → ltb n 10 ≡ t → read_on 0 (digits (suc fuel) n) ≡ n
    go earlier true e = rw (digits, e) (omega (arith, ltb-true n 10 e))
    go earlier false e =
        rw (digits, e) (read_append 0 (digits fuel (n / 10)) (digit n ∷ []) ∙ omega (arith, earlier (omega (arith, pow-suc 10 fuel))))

pub decimal_read : (n : ℕ) → n < 2 ^ 64 → read_on 0 (decimal n) ≡ n
decimal_read n h = read_digits 19 n (omega arith)
