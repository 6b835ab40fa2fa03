-- The largest of each slot's numbers, by one pass over the numbers of all slots.
use Prim.Native.Nat.{ℕ, ◌+◌, ◌-◌, ◌≤◌, ◌<◌}
use mathlib.Core.Path.{◌≡◌, refl, sym, ◌∙◌}
use mathlib.Core.List.{List}
use native.Mathlib.Omega.{arith}
use lib.ListN.{get_or, set, replicate, length-set, get_or-replicate}
use lib.Seq.{get_or-set_same, get_or-set_other}
use Rattle.facts.proofs.Tests.{by_order}
use Rattle.shape.specs.Codes.{Largest, LargestSlots}

-- ---- the pass

pub largest_start : (slot g : ℕ → ℕ) → LargestSlots slot g 0 (replicate 64 0)
largest_start slot g = (
  refl,
  λ k h. record {
    above = λ j p r. absurd (omega arith);
    least = λ n all. omega (arith, get_or-replicate {A = ℕ} 64 k 0 0 h);
  },
)

module _ (slot g : ℕ → ℕ) (i : ℕ) (cs : List ℕ) (so_far : LargestSlots slot g i cs) where
  -- a slot that is not i's, or has one as large as i's already
  unmoved : (k : ℕ) → k < 64 → (slot i ≡ k → g i ≤ get_or cs k 0) → Largest slot g (i + 1) k (get_or cs k 0)
  unmoved k h no-larger =
      let w = so_far.1 k h in
      record {
        above = λ j p r.
            by_order j i
            (λ (l : j < i). w.above j p l)
            (λ (e : j ≡ i). rw e (no-larger (rw e at p)))
            (λ l. absurd (omega arith));
        least = λ n all. w.least n (λ j p r. all j p (omega arith));
      }

  pub largest_same : g i ≡ 0 → LargestSlots slot g (i + 1) cs
  largest_same z = (so_far.0, λ k h. unmoved k h (λ p. omega (arith, z)))

  module _ (inside : slot i < 64) (c : ℕ) (over : get_or cs (slot i) 0 ≤ c) (over-new : g i ≤ c)
      (no_more : (n : ℕ) → get_or cs (slot i) 0 ≤ n → g i ≤ n → c ≤ n) where
    its_slot : Largest slot g (i + 1) (slot i) c
    its_slot =
        let w = so_far.1 (slot i) inside in
        record {
          above = λ j p r.
              by_order j i
              (λ (l : j < i). let a = w.above j p l in omega arith)
              (λ (e : j ≡ i). rw e over-new)
              (λ l. absurd (omega arith));
          least = λ n all. no_more n (w.least n (λ j p r. all j p (omega arith))) (all i refl (omega arith));
        }

    pub largest_more : LargestSlots slot g (i + 1) (set cs (slot i) c)
    largest_more = (
      length-set cs (slot i) c ∙ so_far.0,
      λ k h.
          let elsewhere : (k ≡ slot i → ⊥) → Largest slot g (i + 1) k (get_or (set cs (slot i) c) k 0) =
          λ n. rw (get_or-set_other cs (slot i) k c 0 n) (unmoved k h (λ p. absurd (n (sym p))))
          in
          by_order k (slot i)
          (λ l. elsewhere (λ e. omega arith))
          (λ (e : k ≡ slot i). rw (e, get_or-set_same cs (slot i) c 0 (omega (arith, so_far.0))) its_slot)
          (λ l. elsewhere (λ e. omega arith)),
    )

-- ---- its end: slot k's numbers are the w from a on, f 0, f 1, ..

module _ {slot g : ℕ → ℕ} {i k c : ℕ} (l : Largest slot g i k c) (a w : ℕ) (f : ℕ → ℕ)
    (its : (j : ℕ) → j < w → (slot (a + j) ≡ k) × (a + j < i) × (f j ≡ g (a + j)))
    (only : (j : ℕ) → slot j ≡ k → j < i → (a ≤ j) × (j < a + w)) where
  -- c is at most n just where each of them is
  pub largest_each : (n : ℕ) → c ≤ n → (j : ℕ) → j < w → f j ≤ n
  largest_each n p j q = let b = l.above (a + j) (its j q).0 (its j q).1 in rw (its j q).2 (omega arith)

  pub each_largest : (n : ℕ) → ((j : ℕ) → j < w → f j ≤ n) → c ≤ n
  each_largest n all =
      l.least n
      (λ j p r.
      let o = only j p r in
      let e : a + (j - a) ≡ j = omega arith in
      let b : g (a + (j - a)) ≤ n = rw (its (j - a) (omega arith)).2 at (all (j - a) (omega arith)) in
      rw e at b)
