-- Integers read one after the other.
use mathlib.Core.Path.{◌≡◌, refl, sym, ap, ◌∙◌}
use mathlib.Core.List.{List, [], ◌∷◌, ◌++◌}
use Prim.Native.Nat.{ℕ, zero, suc, ◌+◌, ◌*◌, ◌^◌, ◌<◌}
use native.Mathlib.Omega.{arith}
use native.Mathlib.Numerals.{add-one}
use mir.Syntax.{w64}
use mir.Val.{of_z, to_z}
use mir.ValLaws.{to_z-of_z}
use lib.IntN.{ℤ}
use lib.Signed.{mag}
use lib.ListN.{length, set}
use lib.Seq.{sets}
use Rattle.int64.specs.Little.{little}
use Rattle.int64.proofs.Stores.{sets-append}
use Rattle.state.specs.Numbers.{integers_in}

pub length-integers : (bytes : List ℕ) (at n : ℕ) → length (integers_in bytes at n) ≡ n
unfolding integers_in
length-integers bytes at zero = refl
length-integers bytes at (suc n) = ap suc (length-integers bytes (at + 8) n)

one_later : (at n : ℕ) → at + 8 + 8 * n ≡ at + 8 * suc n
one_later at n = omega arith

-- one integer more
pub integers_snoc : (bytes : List ℕ) (at n : ℕ) → integers_in bytes at (suc n) ≡ integers_in bytes at n ++ (to_z w64 (little 8 bytes (at + 8 * n)) ∷ [])
unfolding integers_in
integers_snoc bytes at zero = ap (λ (k : ℕ). to_z w64 (little 8 bytes k) ∷ []) (omega arith)
integers_snoc bytes at (suc n) =
    rw (← one_later at n) (ap (λ (t : List ℤ). to_z w64 (little 8 bytes at) ∷ t) (integers_snoc bytes (at + 8) n))

pub read_none : (bytes : List ℕ) (at : ℕ) (out : List ℤ) → out ≡ sets out 0 (integers_in bytes at 0)
unfolding integers_in
read_none bytes at out = refl

pub read_more : (bytes : List ℕ) (at : ℕ) (out now₁ : List ℤ) (i : ℕ) (z : ℤ) → now₁ ≡ sets out 0 (integers_in bytes at i)
    → z ≡ to_z w64 (little 8 bytes (at + 8 * i)) → set now₁ i z ≡ sets out 0 (integers_in bytes at (i + 1))
read_more bytes at out now₁ i z e q =
    let n : 0 + length (integers_in bytes at i) ≡ i = omega (arith, length-integers bytes at i) in
    ap (λ (l : List ℤ). set l i z) e
    ∙ ap (λ (k : ℕ). set (sets out 0 (integers_in bytes at i)) k z) (sym n)
    ∙ ap (λ (y : ℤ). set (sets out 0 (integers_in bytes at i)) (0 + length (integers_in bytes at i)) y) q
    ∙ sets-append out 0 (integers_in bytes at i) (to_z w64 (little 8 bytes (at + 8 * i)) ∷ [])
    ∙ ap (sets out 0) (sym (integers_snoc bytes at i))
    ∙ ap (λ (k : ℕ). sets out 0 (integers_in bytes at k)) (sym (add-one i))

-- a number that a call handed back is stored as the number of its bits
pub number-stored : (z : ℤ) (u n : ℕ) → mag z < 2 ^ 63 → z ≡ to_z w64 u → u ≡ n → to_z w64 (of_z w64 z) ≡ to_z w64 n
number-stored z u n f e q = to_z-of_z w64 z (record { sfits = f }) ∙ e ∙ ap (to_z w64) q
