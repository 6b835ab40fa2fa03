-- The places of all tasks add up to the job's, in every state that shows a tree.
use Prim.Native.Nat.{ℕ, zero, suc, ◌+◌, ◌-◌, ◌^◌, ◌≤◌, ◌<◌}
use mathlib.Core.Path.{◌≡◌, refl, sym, ap, ◌∙◌}
use native.Mathlib.Omega.{arith}
use native.Mathlib.Nat.{add-zero}
use lib.Pow.{pow_pos, suc_ones}
use Rattle.agreement.proofs.Trees.{Tree, leaf, node}
use Rattle.agreement.specs.Picks.{Model}
use Rattle.agreement.proofs.Laws.{Forms, Laws}
use Rattle.agreement.proofs.Holds.{Holds, Shows}
use Rattle.agreement.specs.Places.{held_from}

module _ {F S : Type 0} (at : S → ℕ → F) (held : F → ℕ) where
  pub held-split : (x y : ℕ) (m : S) (a : ℕ) → held_from at held (x + y) m a ≡ held_from at held x m a + held_from at held y m (a + x)
  unfolding held_from
  held-split zero y m a =
      let e : zero + y ≡ y = omega arith in
      rw (e, add-zero) (omega arith)
  held-split (suc x) y m a =
      let e : suc x + y ≡ suc (x + y) = omega arith in
      let g : a + suc x ≡ suc a + x = omega arith in
      rw (e, g) (omega (arith, held-split x y m (suc a)))

  pub held_none : (n : ℕ) (m : S) (a : ℕ) → ((i : ℕ) → a ≤ i → i < a + n → held (at m i) ≡ 0) → held_from at held n m a ≡ 0
  unfolding held_from
  held_none zero m a h = refl
  held_none (suc n) m a h =
      omega (arith, h a (omega arith) (omega arith), held_none n m (suc a) (λ i p q. h i (omega arith) (omega arith)))

  held_first : (n : ℕ) (m : S) (a : ℕ) → held_from at held (suc n) m a ≡ held (at m a) + held_from at held n m (suc a)
  unfolding held_from
  held_first n m a = refl

module _ {F S : Type 0} (M : Model F S) (K : Forms F S) (laws : Laws M K) (held : F → ℕ)
    (held-empty : (f : F) → K.Empty f → held f ≡ 0) (held-formed : (h : ℕ) (f : F) → K.Formed h f → held f ≡ 2 ^ h) where
  open M use {slots, job_places}
  open slots use {at, size}
  open K use {D}

  holds_places : (T : Tree F) (m : S) (b h : ℕ) → Holds slots K m b h T → held_from at held (2 ^ h) m b ≡ 2 ^ h
  holds_places (leaf f) m b h l =
      let first : held (at m b) ≡ 2 ^ h = ap held l.here ∙ held-formed h f l.formed in
      let rest : held_from at held (2 ^ h - 1) m (suc b) ≡ 0 =
      held_none at held (2 ^ h - 1) m (suc b) (λ i p q. held-empty (at m i) (l.empty i p (omega (arith, pow_pos h)))) in
      ap (λ n. held_from at held n m b) (sym (suc_ones h)) ∙ held_first at held (2 ^ h - 1) m b ∙ omega arith
  holds_places (node x y) m b zero l = absurd l
  holds_places (node x y) m b (suc h) l =
      let e : 2 ^ suc h ≡ 2 ^ h + 2 ^ h = omega arith in
      ap (λ n. held_from at held n m b) e
      ∙ held-split at held (2 ^ h) (2 ^ h) m b ∙ omega (arith, holds_places x m b h l.0, holds_places y m (b + 2 ^ h) h l.1)

  pub places_add_up : (m : S) (T : Tree F) → Shows slots K m T → held_from at held size m 0 ≡ job_places
  places_add_up m T s =
      let fits = laws.places_fit in
      let e : size ≡ 2 ^ D + (size - 2 ^ D) = omega arith in
      let rest : held_from at held (size - 2 ^ D) m (0 + 2 ^ D) ≡ 0 =
      held_none at held (size - 2 ^ D) m (0 + 2 ^ D) (λ i p q. held-empty (at m i) (s.beyond i (omega arith) (omega arith))) in
      ap (λ n. held_from at held n m 0) e
      ∙ held-split at held (2 ^ D) (size - 2 ^ D) m 0 ∙ omega (arith, holds_places T m 0 D s.holds, laws.places_power)
