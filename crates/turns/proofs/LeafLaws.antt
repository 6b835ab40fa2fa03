-- What small functions of the loop answer: a stack's question, and the next slot of an order.
use mathlib.Core.Path.{◌≡◌, sym, ◌∙◌}
use mathlib.Core.Bool.{Bool, true, false}
use mathlib.Core.List.{List, ◌∷◌}
use Prim.Native.Nat.{ℕ, ◌+◌, ◌<◌, ◌≤◌}
use native.Mathlib.Omega.{arith}
use native.Mathlib.Numerals.{add-one}
use borrow.Author.Tests.{lt-ltb, le-ltb}
use lib.ListN.{length, get_or, drop, drop_of_length-le}
use lib.Seq.{drop-cons}
use Rattle.facts.proofs.Tests.{by-below}
use Rattle.task.specs.Frames.{stack_length}
use Rattle.turns.specs.Stretches.{Stretch, stop_at, done, walk_from, next_listed}
use Rattle.turns.specs.Kinds.{stack_no}

-- ---- A stack's question, answered with yes

pub pop_some : (pops : Bool) (h : ℕ) → pops ≡ true → stack_no pops h ≡ 0 → 0 < h
pop_some pops h is asked = by-below 0 h (λ some. some) (λ none. let e : ◌≡◌ {A = ℕ} 43 0 = rw (is, le-ltb 0 h none) at asked in absurd (omega arith))

pub push-place : (pops : Bool) (h : ℕ) → pops ≡ false → stack_no pops h ≡ 0 → h < stack_length
push-place pops h is asked =
    by-below h stack_length (λ room. room) (λ full. let e : ◌≡◌ {A = ℕ} 42 0 = rw (is, le-ltb h stack_length full) at asked in absurd (omega arith))

-- ---- The next slot of an order

module _ (order : List ℕ) (at places work slot : ℕ) (inside : at < length order) (read : slot ≡ get_or order at 0) where
  -- the slots from the one at `at` on are this one and those behind it
  slot_first : next_listed (drop at order) at places work ≡ next_listed (slot ∷ drop (at + 1) order) at places work
  slot_first = rw (read, add-one at, drop-cons order at 0 inside)

  -- one that the state has not is passed over
  pub slot_past : {r : Stretch} → places ≤ slot → r ≡ next_listed (drop at order) at places work → r ≡ next_listed (drop (at + 1) order) (at + 1) places work
  unfolding next_listed
  slot_past h e = e ∙ slot_first ∙ rw (le-ltb slot places h, next_listed)

  -- one that it has is the stretch
  pub slot_found : {r : Stretch} {until : ℕ} → slot < places → until ≡ stop_at work 1 → r ≡ next_listed (drop at order) at places work
      → walk_from slot 1 until (at + 1) ≡ r
  unfolding next_listed
  slot_found h u e = sym (e ∙ slot_first ∙ rw (lt-ltb slot places h, next_listed, u))

-- behind the last there is none
pub slots_out : (order : List ℕ) (at places work : ℕ) {r : Stretch} → length order ≤ at → r ≡ next_listed (drop at order) at places work → done at ≡ r
unfolding next_listed
slots_out order at places work h e = sym (e ∙ rw (drop_of_length-le order {i = at} h))
