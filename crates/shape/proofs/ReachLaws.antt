-- The furthest reach of a stack's entries tells whether all 32 are 0, and whether they are the stack of a task with a height.
use Prim.Native.Nat.{ℕ, ◌+◌, ◌*◌, ◌/◌, ◌%◌, ◌≤◌, ◌<◌}
use mathlib.Core.Path.{◌≡◌, refl, sym, ap, ◌∙◌}
use mathlib.Core.Bool.{Bool, true, false, ◌&&◌}
use mathlib.Core.List.{List}
use native.Mathlib.Omega.{arith}
use lib.Dec.{eqb, ltb, leb}
use lib.ListN.{get_or}
use borrow.Author.Tests.{eqb-true, eq-eqb, leb-true, le-leb, lt-leb, lt-ltb, le-ltb}
use Rattle.facts.proofs.Tests.{clash, by-test, by-below, same}
use Rattle.image.specs.Program.{Program}
use Rattle.task.specs.declared.Value.{Value}
use Rattle.task.specs.declared.Value.TheVariants.{Int, Label, Record}
use Rattle.task.specs.declared.Register.{Register}
use Rattle.task.specs.declared.Task.{Task}
use Rattle.task.specs.Frames.{zero_register}
use Rattle.task.specs.Formed.{every, value_fits, is_zero, entry_fits, stack_fits, stack_empty}
use Rattle.task.specs.Stretches.{reads}
use Rattle.task.proofs.EveryLaws.{every-at, every_from, every-alike}
use Rattle.task.proofs.StretchLaws.{length-reads, get_d_reads}
use Rattle.shape.specs.Codes.{Largest, LargestSlots, reach, reach_of, Reached, ReachedSlots, framed}
use Rattle.shape.proofs.Largest.{largest_each, each_largest}

-- ---- one entry: it fits just where it reaches no further than the height

module _ (i h : ℕ) (most : h ≤ 32) where
  used : i < h → (z f : Bool) → (z ≡ true → f ≡ true) → f ≡ leb (reach z f i) h
  used l true f e = e refl ∙ sym (le-leb 0 h (omega arith))
  used l false true e = sym (le-leb (i + 1) h (omega arith))
  used l false false e = sym (lt-leb 33 h (omega arith))

  unused : h ≤ i → (z f : Bool) → z ≡ leb (reach z f i) h
  unused l true f = sym (le-leb 0 h (omega arith))
  unused l false true = sym (lt-leb (i + 1) h (omega arith))
  unused l false false = sym (lt-leb 33 h (omega arith))

leb_zero : (n : ℕ) → leb n 0 ≡ eqb n 0
leb_zero n =
    same (leb n 0) (eqb n 0)
    (λ t. let l = leb-true n 0 t in eq-eqb n 0 (omega arith))
    (λ t. le-leb n 0 (omega (arith, eqb-true n 0 t)))

-- the slot of a place of the stacks, and the entry of its stack
abbrev pub slot_of : ℕ → ℕ
slot_of j = j / 32

module _ (program : Program) where
  zero_fits : (v : Value) → is_zero v ≡ true → value_fits program v ≡ true
  zero_fits (Int z) e = refl
  zero_fits (Label b) e = clash e refl
  zero_fits (Record b d) e = clash e refl

  entry-fits : (v : Value) (i h : ℕ) → h ≤ 32 → entry_fits program (ltb i h) v ≡ leb (reach_of program v i) h
  entry-fits v i h most =
      by-below i h
      (λ l. rw (lt-ltb i h l) (used i h most l (is_zero v) (value_fits program v) (zero_fits v)))
      (λ l. rw (le-ltb i h l) (unused i h most l (is_zero v) (value_fits program v)))

  -- the reach at a place of the stacks
  abbrev pub reach_at : List Register → ℕ → ℕ
  reach_at stacks i = reach_of program (get_or stacks i zero_register).value (i % 32)

  -- ---- one stack

  module _ (stacks : List Register) (k c : ℕ) (l : Largest slot_of (reach_at stacks) 2048 k c) (b : k < 64) where
    abbrev stack : List Register
    stack = reads zero_register stacks (32 * k) 32

    abbrev value : ℕ → Value
    value j = (get_or stack j zero_register).value

    its : (j : ℕ) → j < 32 → ((32 * k + j) / 32 ≡ k) × (32 * k + j < 2048) × (reach_of program (value j) j ≡ reach_at stacks (32 * k + j))
    its j p =
        let e : (32 * k + j) % 32 ≡ j = omega arith in
        (omega arith, omega arith, rw e (ap (λ (x : Register). reach_of program x.value j) (get_d_reads zero_register stacks (32 * k) 32 j p)))

    -- the height h is enough
    enough : (h : ℕ) → h ≤ 32 → every (λ i. entry_fits program (ltb i h) (value i)) 32 0 ≡ leb c h
    enough h most =
        let fit_at : ℕ → Bool = λ i. entry_fits program (ltb i h) (value i) in
        same (every fit_at 32 0) (leb c h)
        (λ e. le-leb c h
        (each_largest l (32 * k) 32 (λ j. reach_of program (value j) j) its (λ j p q. (omega arith, omega arith)) h
        (λ j p. leb-true (reach_of program (value j) j) h
        (sym (entry-fits (value j) j h most) ∙ every-at fit_at 32 0 e j (omega arith) (omega arith)))))
        (λ e. every_from fit_at 32 0
        (λ j p q. entry-fits (value j) j h most
        ∙ le-leb (reach_of program (value j) j) h
        (largest_each l (32 * k) 32 (λ j. reach_of program (value j) j) its (λ j p q. (omega arith, omega arith)) h (leb-true c h e) j (omega arith))))

    largest_reached : Reached program (reads zero_register stacks (32 * k) 32) c
    largest_reached = record {
      thirty_two = length-reads zero_register stacks (32 * k) 32;
      all_zero =
          every-alike (λ i. is_zero (value i)) (λ i. entry_fits program (ltb i 0) (value i)) 32 0 (λ j p q. rw (le-ltb j 0 (omega arith)))
          ∙ enough 0 (omega arith)
          ∙ leb_zero c;
      all_fit = enough;
    }

  pub largest_is_reach : (stacks : List Register) (reaches : List ℕ) (i : ℕ) → i ≡ 2048 → LargestSlots slot_of (reach_at stacks) i reaches
      → ReachedSlots program stacks reaches
  largest_is_reach stacks reaches i e all k h = largest_reached stacks k (get_or reaches k 0) (rw e at (all.1 k h)) h

  -- ---- what a reach tells of a task's stack

  module _ (t : Task) (registers stack : List Register) (n : ℕ) (r : Reached program stack n) where
    pub reach-fits : stack_fits program (framed t registers stack) ≡ leb t.height 32 && leb n t.height
    reach-fits =
        by-test (leb t.height 32)
        (λ e. rw (e, r.all_fit t.height (leb-true t.height 32 e)))
        (λ e. rw e)

    pub reach-empty : stack_empty (framed t registers stack) ≡ eqb t.height 0 && eqb n 0
    reach-empty = ap (λ b. eqb t.height 0 && b) r.all_zero
