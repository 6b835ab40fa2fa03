-- Each way through a function of opcodes 2 to 9, with plain variables for what the code has there. A signed value that goes to a call or
-- comes from one is the number of its bits, `to_z w64 (of_z w64 a)`.
use mathlib.Core.Path.{◌≡◌, refl, ap, ◌∙◌}
use mathlib.Core.Bool.{true, false, not}
use mathlib.Core.List.{List}
use Prim.Native.Nat.{ℕ, ◌<◌, ◌≤◌, ◌^◌}
use native.Mathlib.Omega.{arith}
use lib.IntN.{ℤ, pos, negsuc, nat_abs, ◌+ℤ◌, ◌-ℤ◌, ◌*ℤ◌}
use lib.ListN.{length, get_or}
use lib.Signed.{mag, lt_z, non_neg}
use mir.Syntax.{w64}
use mir.Val.{SFits, to_z, of_z}
use mir.ValLaws.{to_z-of_z}
use borrow.Author.Tests.{lt-ltb, le-ltb}
use Rattle.facts.proofs.Tests.{clash, by-test}
use Rattle.std.specs.Int.{FitsUnsignedBits}
use Rattle.int64.specs.Equal.{eq_z}
use Rattle.int64.specs.Wrapped.{wrapped}
use Rattle.int64.proofs.Equality.{eq_eq_z, eq_z_eq}
use Rattle.image.specs.Program.{Program}
use Rattle.task.specs.declared.Value.{Value}
use Rattle.task.specs.declared.Value.TheVariants.{Int, Label, Record}
use Rattle.task.specs.declared.Fork.{Fork}
use Rattle.task.specs.declared.Active.{Active}
use Rattle.task.specs.declared.Executed.{Executed}
use Rattle.task.specs.declared.Kind.TheVariants.{Faults}
use Rattle.task.specs.Values.{truth}
use Rattle.task.specs.Choices.{Choices}
use Rattle.task.specs.Effect.{Effect, stores, asked, integer, word}
use Rattle.task.specs.Execute.{storing, ending, handed, answered, OfIntegers}

-- ---- the operations on two integers

abbrev pub sum : ℤ → ℤ → Value
sum a b = Int (wrapped (a +ℤ b))

abbrev pub difference : ℤ → ℤ → Value
difference a b = Int (wrapped (a -ℤ b))

abbrev pub product : ℤ → ℤ → Value
product a b = Int (wrapped (a *ℤ b))

abbrev pub is_less : ℤ → ℤ → Value
is_less a b = truth (lt_z a b)

abbrev pub is_equal : ℤ → ℤ → Value
is_equal a b = truth (eq_z a b)

-- the value that a call gave
pub given : {r z : ℤ} → mag r < 2 ^ 63 → r ≡ z → Int (to_z w64 (of_z w64 r)) ≡ Int z
given {r} h e = ap Int (to_z-of_z w64 r (record { sfits = h }) ∙ e)

module _ (program : Program) (choices : Choices) (t : Active) where
  -- what is made of two integers, where it is what `after` makes of them
  pub of_integers : (post : ℤ → ℤ → Executed → Type 0) {e : Executed} (after : ℤ → ℤ → Effect) (s v : Value)
      → ((a b : ℤ) → s ≡ Int a → v ≡ Int b → post a b e → e ≡ handed program choices t (after a b))
      → OfIntegers post s v e → e ≡ handed program choices t (integer s 31 λ a. integer v 31 (after a))
  of_integers post after (Int a) (Int b) h k = h a b refl refl k
  of_integers post after (Int a) (Label b) h k = k
  of_integers post after (Int a) (Record c d) h k = k
  of_integers post after (Label b) v h k = k
  of_integers post after (Record c d) v h k = k

  -- the divisor is asked first
  pub by_divisor : {e : Executed} (op : ℤ → ℤ → ℤ) (a b : ℤ) → (b ≡ pos 0 → e ≡ ending Faults 32)
      → ((b ≡ pos 0 → ⊥) → e ≡ storing (Int (op a b)) t)
      → e ≡ handed program choices t (asked (not (eq_z b (pos 0))) 32 (stores (Int (op a b))))
  unfolding asked
  by_divisor op a b h k =
      by-test (eq_z b (pos 0)) (λ z. rw (z, asked) (h (eq_z_eq b (pos 0) z))) (λ z. rw (z, asked) (k (λ e. clash (eq_eq_z b (pos 0) e) z)))

-- ---- word v

negative : (a : ℤ) → SFits w64 a → (FitsUnsignedBits 64 a → ⊥) → non_neg a ≡ false
negative (pos n) f h = let k : n < 2 ^ 63 = f.sfits in absurd (h (omega arith))
negative (negsuc n) f h = refl

natural_number : (a : ℤ) → FitsUnsignedBits 64 a → non_neg a ≡ true
natural_number (pos n) h = refl
natural_number (negsuc n) h = absurd h

module _ (program : Program) (choices : Choices) (words : List ℤ) (s v : Value) (t : Active) (opened : List Fork) {a : ℤ} (p : v ≡ Int a)
    (f : SFits w64 a) where
  -- the index is no place
  pub index_negative : (FitsUnsignedBits 64 (to_z w64 (of_z w64 a)) → ⊥) → ending Faults 33 ≡ answered program words choices s v t opened word
  unfolding asked
  index_negative h = rw (p, asked, negative a f (rw (to_z-of_z w64 a f) at h))

  module _ {i : ℕ} (e : FitsUnsignedBits 64 (to_z w64 (of_z w64 a)) × (i ≡ nat_abs (to_z w64 (of_z w64 a)))) where
    at_place : i ≡ nat_abs a
    at_place = rw (to_z-of_z w64 a f) at e.1

    pub index_past : length words ≤ i → ending Faults 33 ≡ answered program words choices s v t opened word
    unfolding asked
    index_past h = rw (p, asked, natural_number a (rw (to_z-of_z w64 a f) at e.0), ← at_place, le-ltb i (length words) h)

    pub gives-word : i < length words → {w : Value} → w ≡ Int (get_or words i (pos 0)) → storing w t ≡ answered program words choices s v t opened word
    unfolding asked
    gives-word h w = rw (w, p, asked, natural_number a (rw (to_z-of_z w64 a f) at e.0), ← at_place, lt-ltb i (length words) h)
