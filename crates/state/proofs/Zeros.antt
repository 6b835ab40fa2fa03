-- Bytes that are all 0: one byte more of them, and that the values in them are the integer 0.
use mathlib.Core.Path.{◌≡◌, refl, sym, ap, ◌∙◌}
use mathlib.Core.Bool.{Bool, true, false, ◌&&◌}
use mathlib.Core.List.{List}
use Prim.Native.Nat.{ℕ, zero, suc, ◌+◌, ◌*◌, ◌-◌, ◌<◌, ◌≤◌}
use native.Mathlib.Omega.{arith}
use lib.Dec.{eqb}
use lib.ListN.{get_or, replicate, length-replicate, get_or-replicate}
use borrow.Author.Tests.{eqb-true}
use Rattle.int64.specs.Little.{little}
use Rattle.task.specs.Frames.{zero_register}
use Rattle.task.specs.Formed.{every}
use Rattle.task.proofs.EveryLaws.{every-at, every_from, every-goes-on, every-stops, every-ends}
use Rattle.state.specs.Reading.{table, number_at, is_clear, is_value, value_of, stands_value, stands_values, register_in}
use Rattle.state.proofs.Tables.{list_table}

-- ---- a test of all, one after the other, that goes on after a no

-- so far: `passed` of the first i of n
pub record Tested (test : ℕ → Bool) (n i : ℕ) (passed : Bool) : Type 0 where
  pub at_most : i ≤ n
  pub all : every test n 0 ≡ passed && every test (n - i) i

and-false : (b : Bool) → (b && false) ≡ false
and-false true = refl
and-false false = refl

and_true : (b : Bool) → (b && true) ≡ b
and_true true = refl
and_true false = refl

module _ (test : ℕ → Bool) (n : ℕ) where
  module _ (i : ℕ) (passed : Bool) (x : Tested test n i passed) where
    pub tested_yes : i < n → test i ≡ true → Tested test n (i + 1) passed
    tested_yes h e = record { at_most = omega arith; all = x.all ∙ ap (λ (b : Bool). passed && b) (every-goes-on test n i h e) }

    pub tested_no : i < n → test i ≡ false → Tested test n (i + 1) false
    tested_no h e = record { at_most = omega arith; all = x.all ∙ ap (λ (b : Bool). passed && b) (every-stops test n i h e) ∙ and-false passed }

    pub tested_all : n ≤ i → passed ≡ every test n 0
    tested_all h = sym (x.all ∙ ap (λ (b : Bool). passed && b) (every-ends test n i h) ∙ and_true passed)

-- ---- what is all 0

little_zero : (n : ℕ) (bytes : List ℕ) (at : ℕ) → ((i : ℕ) → at ≤ i → i < at + n → get_or bytes i 0 ≡ 0) → little n bytes at ≡ 0
unfolding little
little_zero zero bytes at h = refl
little_zero (suc n) bytes at h =
    omega (arith, h at (omega arith) (omega arith), little_zero n bytes (suc at) (λ i p q. h i (omega arith) (omega arith)))

module _ (bytes : List ℕ) (at n : ℕ) (h : is_clear bytes at n ≡ true) where
  byte_zero : (i : ℕ) → at ≤ i → i < at + n → get_or bytes i 0 ≡ 0
  byte_zero i p q =
      let place : i ≡ at + (i - at) = omega arith in
      ap (λ (k : ℕ). get_or bytes k 0) place
      ∙ eqb-true (get_or bytes (at + (i - at)) 0) 0 (every-at (λ k. eqb (get_or bytes (at + k) 0) 0) n 0 h (i - at) (omega arith) (omega arith))

  number_zero : (i : ℕ) → at ≤ i → i + 8 ≤ at + n → number_at bytes i ≡ 0
  number_zero i p q = little_zero 8 bytes i (λ k a b. byte_zero k (omega arith) (omega arith))

  pub value_zero : (i : ℕ) → at ≤ i → i + 24 ≤ at + n → (stands_value bytes i ≡ true) × (register_in bytes i ≡ zero_register)
  unfolding is_value value_of
  value_zero i p q =
      rw (
        number_zero i (omega arith) (omega arith),
        number_zero (i + 8) (omega arith) (omega arith),
        number_zero (i + 16) (omega arith) (omega arith),
      )
      (refl, refl)

-- so values that are all 0 stand
pub values_zero : (bytes : List ℕ) (at n : ℕ) → is_clear bytes at (24 * n) ≡ true → stands_values bytes at n ≡ true
values_zero bytes at n h =
    every_from (λ i. stands_value bytes (at + 24 * i)) n 0 (λ i p q. (value_zero bytes at (24 * n) h (at + 24 * i) (omega arith) (omega arith)).0)

-- and what is read is the integer 0, n times
pub zeros_table : (bytes : List ℕ) (at n : ℕ) → is_clear bytes at (24 * n) ≡ true → replicate n zero_register ≡ table (λ i. register_in bytes (at + 24 * i)) n
zeros_table bytes at n h =
    list_table (replicate n zero_register) (λ i. register_in bytes (at + 24 * i)) n zero_register
    (length-replicate n zero_register)
    (λ i q.
    get_or-replicate n i zero_register zero_register q
    ∙ sym (value_zero bytes at (24 * n) h (at + 24 * i) (omega arith) (omega arith)).1)
