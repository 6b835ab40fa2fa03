-- The registers of a joined task: the target of each pair has the child's register, every other register is the parent's.
use mathlib.Core.Path.{◌≡◌, refl, sym, ap, ◌∙◌}
use mathlib.Core.Bool.{true}
use mathlib.Core.List.{List}
use Prim.Native.Nat.{ℕ, zero, suc, ◌/◌, ◌%◌, ◌^◌, ◌<◌}
use native.Mathlib.Omega.{arith}
use native.Mathlib.Nat.{div-div-eq-div-mul, div-one, pow-succ'}
use lib.Dec.{ltb}
use lib.ListN.{length, get_or, set, length-set}
use lib.Seq.{get_or-set_same, get_or-set_other}
use borrow.Author.Tests.{ltb-true}
use Rattle.facts.proofs.Tests.{both_true}
use Rattle.image.specs.Questions.{rising}
use Rattle.task.specs.declared.Register.{Register}
use Rattle.task.specs.Frames.{zero_register}
use Rattle.task.specs.Step.{copied}

-- pair k of a block: its high four bits name the child's register, its low four bits the target
abbrev pub source_at : ℕ → ℕ → ℕ
source_at packed k = packed / 256 ^ k / 16 % 16

abbrev pub target_at : ℕ → ℕ → ℕ
target_at packed k = packed / 256 ^ k % 16

-- the pairs after the first are those of the rest
after_first : (packed k : ℕ) → packed / 256 / 256 ^ k ≡ packed / 256 ^ suc k
after_first packed k = div-div-eq-div-mul packed 256 (256 ^ k) ∙ ap (λ n. packed / n) (sym (pow-succ' 256 k))

first-target : (packed : ℕ) → target_at packed 0 ≡ packed % 16
first-target packed = ap (λ n. n % 16) (div-one packed)

first_source : (packed : ℕ) → source_at packed 0 ≡ packed / 16 % 16
first_source packed = ap (λ n. n / 16 % 16) (div-one packed)

later-target : (packed k : ℕ) → target_at (packed / 256) k ≡ target_at packed (suc k)
later-target packed k = ap (λ n. n % 16) (after_first packed k)

later_source : (packed k : ℕ) → source_at (packed / 256) k ≡ source_at packed (suc k)
later_source packed k = ap (λ n. n / 16 % 16) (after_first packed k)

-- in strictly rising order no later target is the first
rising-above : (n packed : ℕ) → rising (suc n) packed ≡ true → (k : ℕ) → k < n → packed % 16 < target_at packed (suc k)
unfolding rising
rising-above zero packed h k p = absurd (omega arith)
rising-above (suc n) packed h k p = go k p (λ j q. rising-above n (packed / 256) parts.1 j q)
  where
    parts : (ltb (packed % 16) (packed / 256 % 16) ≡ true) × (rising (suc n) (packed / 256) ≡ true)
    parts = both_true (ltb (packed % 16) (packed / 256 % 16)) (rising (suc n) (packed / 256)) h

    step : packed % 16 < packed / 256 % 16
    step = ltb-true (packed % 16) (packed / 256 % 16) parts.0

    go : (k : ℕ) → k < suc n → ((j : ℕ) → j < n → packed / 256 % 16 < target_at (packed / 256) (suc j)) → packed % 16 < target_at packed (suc k)
    go zero p after = rw (← later-target packed 0, first-target (packed / 256)) step
    go (suc j) p after = rw (← later-target packed (suc j)) (omega (arith, step, after j (omega arith)))

module _ (child : List Register) where
  -- the first pair copied
  abbrev once : ℕ → List Register → List Register
  once packed l = set l (packed % 16) (get_or child (packed / 16 % 16) zero_register)

  -- a register that is no pair's target
  pub copied-other : (n packed : ℕ) (l : List Register) (i : ℕ) → ((k : ℕ) → k < n → target_at packed k ≡ i → ⊥)
      → get_or (copied child n packed l) i zero_register ≡ get_or l i zero_register
  unfolding copied
  copied-other zero packed l i none = refl
  copied-other (suc n) packed l i none =
      copied-other n (packed / 256) _ i (λ k p e. none (suc k) (omega arith) (sym (later-target packed k) ∙ e))
      ∙ get_or-set_other l (packed % 16) i _ zero_register (λ e. none 0 (omega arith) (first-target packed ∙ sym e))

  -- the target of pair k
  pub copied-pair : (n packed : ℕ) (l : List Register) → length l ≡ 16 → rising n packed ≡ true → (k : ℕ) → k < n
      → get_or (copied child n packed l) (target_at packed k) zero_register ≡ get_or child (source_at packed k) zero_register
  unfolding copied rising
  copied-pair zero packed l full h k p = absurd (omega arith)
  copied-pair (suc n) packed l full h zero p =
      ap (λ i. get_or (copied child n (packed / 256) (once packed l)) i zero_register) (first-target packed)
      ∙ copied-other n (packed / 256) _ (packed % 16) (λ k q e. absurd (omega (arith, rising-above n packed h k q, later-target packed k)))
      ∙ get_or-set_same l (packed % 16) _ zero_register (omega arith) ∙ ap (λ i. get_or child i zero_register) (sym (first_source packed))
  copied-pair (suc zero) packed l full h (suc k) p = absurd (omega arith)
  copied-pair (suc (suc n)) packed l full h (suc k) p =
      rw (← later-target packed k, ← later_source packed k)
      (copied-pair (suc n) (packed / 256) (once packed l) (length-set l (packed % 16) _ ∙ full)
      (both_true (ltb (packed % 16) (packed / 256 % 16)) _ h).1 k (omega arith))
