-- A running task at a slot: it sits in the first slot of its places, and nothing is due to be joined there.
use Prim.Native.Nat.{ℕ, zero, suc, ◌+◌, ◌*◌, ◌-◌, ◌/◌, ◌%◌, ◌^◌, ◌≤◌, ◌<◌}
use mathlib.Core.Path.{◌≡◌, refl, sym, ap, ◌∙◌, subst}
use mathlib.Core.Logic.{◌⊎◌, inl, inr}
use mathlib.Core.Bool.{Bool, true, false, ◌&&◌, and-false}
use native.Mathlib.Omega.{arith}
use native.Mathlib.Nat.{two-pow-succ}
use lib.Dec.{eqb, ltb}
use lib.Pow.{pow_pos}
use Rattle.facts.proofs.Tests.{by-below}
use Rattle.agreement.specs.Slots.{Slots, side_ended, due, settle}
use Rattle.agreement.proofs.SlotLaws.{settle-none, settle_stop}
use Rattle.agreement.specs.Picks.{Model}
use Rattle.agreement.proofs.Trees.{Tree, leaf, node}
use Rattle.agreement.proofs.Laws.{Forms, Laws}
use Rattle.agreement.proofs.Holds.{Holds, Shows}
use Rattle.agreement.proofs.HoldsLaws.{first_slot}
use Rattle.agreement.proofs.Halves.{Aligned, aligned_zero, aligned_lower, aligned_upper, fork_from_lower, fork_from_upper}

module _ {F S : Type 0} (slots : Slots F S) where
  open slots use {running, depth, places, at, size}

  -- no side that has a running task at its first slot has ended
  side_open : (m : S) (b d : ℕ) → running (at m b) ≡ true → side_ended slots m b d ≡ false
  side_open m b d r = rw r (and-false (eqb (depth (at m b)) d))

  module _ (m : S) (q w d : ℕ) where
    lower_open : side_ended slots m q d ≡ false → due slots m q w d ≡ false
    lower_open e = rw e (ap (λ (t : Bool). ltb 0 w && t) (and-false (ltb (q + w) size)) ∙ and-false (ltb 0 w))

    upper_open : side_ended slots m (q + w) d ≡ false → due slots m q w d ≡ false
    upper_open e =
        rw (e, and-false (side_ended slots m q d)) (ap (λ (t : Bool). ltb 0 w && t) (and-false (ltb (q + w) size)) ∙ and-false (ltb 0 w))

  even : {k h : ℕ} → (a : Aligned k h) → a.times % 2 ≡ 0 → Aligned k (suc h)
  even {k} {h} a e = record { times = a.times / 2; is = a.is ∙ doubled a.times e }
    where
      doubled : (n : ℕ) → n % 2 ≡ 0 → n * 2 ^ h ≡ n / 2 * 2 ^ suc h
      doubled n z = let d : n ≡ n / 2 * 2 = omega arith in ap (λ (x : ℕ). x * 2 ^ h) d ∙ rw (two-pow-succ h) (omega arith)

  -- the other side's first slot, where the task's is the child's
  odd : {k h : ℕ} → (a : Aligned k h) → a.times % 2 ≡ 1 → (b : ℕ) × Aligned b (suc h) × (b + 2 ^ h ≡ k)
  odd {k} {h} a e = (a.times / 2 * 2 ^ suc h, record { times = a.times / 2; is = refl }, sym (a.is ∙ doubled a.times e))
    where
      doubled : (n : ℕ) → n % 2 ≡ 1 → n * 2 ^ h ≡ n / 2 * 2 ^ suc h + 2 ^ h
      doubled n z = let d : n ≡ n / 2 * 2 + 1 = omega arith in ap (λ (x : ℕ). x * 2 ^ h) d ∙ rw (two-pow-succ h) (omega arith)

  parity : (n : ℕ) → (n % 2 ≡ 0) ⊎ (n % 2 ≡ 1)
  parity n = by-below (n % 2) 1 (λ h. inl (omega arith)) (λ h. inr (omega arith))

  -- nothing is due at a running task
  pub settle-running : (d : ℕ) (m : S) (k h : ℕ) → Aligned k h → places (at m k) ≡ 2 ^ h → running (at m k) ≡ true → settle slots d m k ≡ m
  settle-running zero m k h a p r = settle-none slots m k
  settle-running (suc d) m k h a p r = go (parity a.times)
    where
      go : (a.times % 2 ≡ 0) ⊎ (a.times % 2 ≡ 1) → settle slots (suc d) m k ≡ m
      go (inl e) =
          settle_stop slots d m k k (2 ^ h) p (fork_from_lower k h (even a e)) (lower_open m k (2 ^ h) (suc d) (side_open m k (suc d) r))
      go (inr e) =
          let o = odd a e in
          let b = o.0 in
          let q : k - k % (2 * 2 ^ h) ≡ b = subst (λ (n : ℕ). n - n % (2 * 2 ^ h) ≡ b) o.2 (fork_from_upper b h o.1) in
          let s : side_ended slots m (b + 2 ^ h) (suc d) ≡ false = side_open m (b + 2 ^ h) (suc d) (subst (λ (n : ℕ). running (at m n) ≡ true) (sym o.2) r) in
          settle_stop slots d m k b (2 ^ h) p q (upper_open m b (2 ^ h) (suc d) s)

module _ {F S : Type 0} (M : Model F S) (K : Forms F S) (laws : Laws M K) where
  open M use {slots}
  open slots use {running, at}
  open K use {D, Formed}

  -- where a running task stands
  pub record Stands (m : S) (k : ℕ) : Type 0 where
    pub height : ℕ
    pub aligned : Aligned k height
    pub formed : Formed height (at m k)
    pub room : height ≤ D
    -- its other slots have no task
    pub alone : (i : ℕ) → k < i → i < k + 2 ^ height → running (at m i) ≡ false
    pub inside : k + 2 ^ height ≤ 2 ^ D

  stands_in : (T : Tree F) (m : S) (b h : ℕ) → Aligned b h → h ≤ D → b + 2 ^ h ≤ 2 ^ D → Holds slots K m b h T → (k : ℕ) → b ≤ k → k < b + 2 ^ h
      → running (at m k) ≡ true → Stands m k
  stands_in (leaf f) m b h a top end l k p q r =
      let e : k ≡ b = first_slot M K laws l p q r in
      record {
        height = h;
        aligned = subst (λ (n : ℕ). Aligned n h) (sym e) a;
        formed = subst (λ (n : ℕ). Formed h (at m n)) (sym e) (subst (λ (g : F). Formed h g) (sym l.here) l.formed);
        room = top;
        alone = λ i x y. laws.empty_idle (at m i) (l.empty i (omega arith) (omega arith));
        inside = omega arith;
      }
  stands_in (node x y) m b zero a top end l k p q r = absurd l
  stands_in (node x y) m b (suc h) a top end l k p q r =
      by-below k (b + 2 ^ h)
      (λ z. stands_in x m b h (aligned_lower a) (omega arith) (omega (arith, pow_pos h)) l.0 k p z r)
      (λ z. stands_in y m (b + 2 ^ h) h (aligned_upper a) (omega arith) (omega arith) l.1 k z (omega arith) r)

  pub stands : (T : Tree F) (m : S) → Shows slots K m T → (k : ℕ) → k < 2 ^ D → running (at m k) ≡ true → Stands m k
  stands T m s k below r = stands_in T m 0 D (aligned_zero D) (omega arith) (omega arith) s.holds k (omega arith) (omega arith) r
