-- Each slot of a state of the shape has no task, or a well-formed one.
use Prim.Native.Nat.{ℕ, zero, suc, ◌+◌, ◌^◌, ◌≤◌, ◌<◌}
use mathlib.Core.Path.{◌≡◌}
use mathlib.Core.Logic.{◌⊎◌, inl, inr}
use native.Mathlib.Omega.{arith}
use Rattle.facts.proofs.Tests.{by-below, by_order}
use Rattle.agreement.proofs.Trees.{Tree, leaf, node}
use Rattle.agreement.specs.Picks.{Model}
use Rattle.agreement.proofs.Laws.{Forms, Laws}
use Rattle.agreement.proofs.Holds.{Holds, Shows}

module _ {F S : Type 0} (M : Model F S) (K : Forms F S) where
  open M use {slots}
  open slots use {at, put, size}
  open K use {D, Sound, Fine, Empty, Formed}

  -- of a frame
  abbrev pub Known : F → Type 0
  Known f = Empty f ⊎ ((h : ℕ) × Formed h f)

  -- of every frame of a state
  abbrev pub AllKnown : S → Type 0
  AllKnown m = (i : ℕ) → i < size → Known (at m i)

  holds-known : (T : Tree F) (m : S) (b h : ℕ) → Holds slots K m b h T → (i : ℕ) → b ≤ i → i < b + 2 ^ h → Known (at m i)
  holds-known (leaf f) m b h l i p q =
      by-below b i (λ x. inl (l.empty i x q)) λ x.
      let e : i ≡ b = omega arith in
      rw (e, l.here) (inr (h, l.formed))
  holds-known (node x y) m b zero l i p q = absurd l
  holds-known (node x y) m b (suc h) l i p q =
      by-below i (b + 2 ^ h) (λ z. holds-known x m b h l.0 i p z) (λ z. holds-known y m (b + 2 ^ h) h l.1 i z (omega arith))

  pub shows-known : (T : Tree F) (m : S) → Shows slots K m T → AllKnown m
  shows-known T m s i q =
      by-below i (2 ^ D) (λ x. holds-known T m 0 D s.holds i (omega arith) (omega arith)) (λ x. inl (s.beyond i x q))

  module _ (laws : Laws M K) where
    pub put-known : (m : S) (k : ℕ) (f : F) → Sound m → k < size → Fine f → Known f → AllKnown m → AllKnown (put m k f)
    put-known m k f s h fine kf all i q =
        by_order i k (λ x. rw (laws.put_other m k f i fine (omega arith)) (all i q))
        (λ x. rw (x, laws.put_same m k f s fine h) kf)
        (λ x. rw (laws.put_other m k f i fine (omega arith)) (all i q))
