-- What settling does to the slots: a running task stays as it is, and every other task that stands there afterwards has at least the span of
-- the task that settling began from.
use Prim.Native.Nat.{ℕ, zero, suc, ◌+◌, ◌^◌, ◌≤◌, ◌<◌}
use mathlib.Core.Path.{◌≡◌, refl, ◌∙◌, subst}
use mathlib.Core.Logic.{◌⊎◌, inl, inr, ◌≢◌}
use mathlib.Core.Bool.{true, false, not, ◌&&◌}
use native.Mathlib.Omega.{arith}
use lib.Dec.{eqb, ltb}
use lib.Pow.{pow_pos}
use borrow.Author.Tests.{ltb-true, eqb-true, not-true}
use Rattle.facts.proofs.Tests.{clash, both_true, by-test, by_order}
use Rattle.agreement.proofs.Halves.{Aligned}
use Rattle.agreement.specs.Slots.{side_ended, due, merged, settle}
use Rattle.agreement.proofs.SlotLaws.{settle-none, settle-go, settle_stop}
use Rattle.agreement.specs.Picks.{Model}
use Rattle.agreement.proofs.Laws.{Forms, Laws}
use Rattle.lanes.specs.Spans.{SpanLaws}
use Rattle.lanes.proofs.Known.{Known, AllKnown, put-known}
use Rattle.lanes.proofs.Forks.{fork_of_lem}

module _ {F S : Type 0} (M : Model F S) (span : F → ℕ) where
  open M use {slots}
  open slots use {running, vacant, at}

  -- what became of slot i between m and m', where the task of slot k was carried on and has come to the span n
  pub data Fate (m : S) (k n : ℕ) (m' : S) (i : ℕ) : Type 0 where
    stood : i ≢ k → at m' i ≡ at m i → Fate m k n m' i
    vacated : 0 < i → at m' i ≡ vacant → Fate m k n m' i
    raised : n ≤ span (at m' i) → Fate m k n m' i

  pub record Effect (m : S) (k n : ℕ) (m' : S) : Type 0 where
    -- a running task but the one at k stays as it is
    pub kept : (i : ℕ) → i ≢ k → running (at m i) ≡ true → at m' i ≡ at m i
    pub fate : (i : ℕ) → Fate m k n m' i

module _ {F S : Type 0} (M : Model F S) (K : Forms F S) (laws : Laws M K) (span : F → ℕ) (spans : SpanLaws M K.Empty span) where
  open M use {slots}
  open slots use {running, join, depth, vacant, at, put, size}
  open K use {D, Sound, Fine, Formed}

  -- a side that is due has a task, for a slot without one has depth 0; and by its depth it has the places of that side
  formed-at : (f : F) (d h : ℕ) → Known M K f → depth f ≡ suc d → suc d + h ≡ D → Formed h f
  formed-at f d h (inl e) x y = absurd (omega (arith, spans.empty_depth f e))
  formed-at f d h (inr g) x y =
      let e : g.0 ≡ h = omega (arith, laws.formed_depth g.0 f g.1) in
      subst (λ (n : ℕ). Formed n f) e g.1

  side-parts : (m : S) (b d : ℕ) → side_ended slots m b d ≡ true → (depth (at m b) ≡ d) × (running (at m b) ≡ false)
  side-parts m b d t =
      let p = both_true (eqb (depth (at m b)) d) (not (running (at m b))) t in
      (eqb-true (depth (at m b)) d p.0, not-true (running (at m b)) p.1)

  -- the fork at q, of w = 2 ^ h slots each side, is due
  module _ (m : S) (q h d : ℕ) (sound : Sound m) (all : AllKnown M K m) (deep : suc d + h ≡ D) (t : due slots m q (2 ^ h) (suc d) ≡ true) where
    abbrev w : ℕ
    w = 2 ^ h

    abbrev a : F
    a = at m q

    abbrev b : F
    b = at m (q + w)

    parts : (q + w < size) × ((depth a ≡ suc d) × (running a ≡ false)) × ((depth b ≡ suc d) × (running b ≡ false))
    parts =
        let p = both_true (ltb 0 w) (ltb (q + w) size && (side_ended slots m q (suc d) && side_ended slots m (q + w) (suc d))) t in
        let r = both_true (ltb (q + w) size) (side_ended slots m q (suc d) && side_ended slots m (q + w) (suc d)) p.1 in
        let s = both_true (side_ended slots m q (suc d)) (side_ended slots m (q + w) (suc d)) r.1 in
        (ltb-true (q + w) size r.0, side-parts m q (suc d) s.0, side-parts m (q + w) (suc d) s.1)

    inside : q + w < size
    inside = parts.0

    joined : Formed (suc h) (join a b)
    joined =
        laws.join_formed h a b (formed-at a d h (all q (omega (arith, inside))) parts.1.0 deep)
        (formed-at b d h (all (q + w) inside) parts.2.0 deep) parts.1.1 parts.2.1 (omega arith)

    fine : Fine (join a b)
    fine = laws.formed_fine (suc h) (join a b) joined

    abbrev after : S
    after = merged slots m q w

    child_sound : Sound (put m (q + w) vacant)
    child_sound = laws.put_sound m (q + w) vacant sound laws.vacant_fine

    after-sound : Sound after
    after-sound = laws.put_sound _ q _ child_sound fine

    after-known : AllKnown M K after
    after-known =
        put-known M K laws (put m (q + w) vacant) q (join a b) child_sound (omega (arith, inside)) fine (inr (suc h, joined))
        (put-known M K laws m (q + w) vacant sound inside laws.vacant_fine (inl laws.vacant_empty) all)

    at_first : at after q ≡ join a b
    at_first = laws.put_same _ q _ child_sound fine (omega (arith, inside))

    at_child : at after (q + w) ≡ vacant
    at_child =
        laws.put_other _ q _ (q + w) fine (omega (arith, pow_pos h)) ∙ laws.put_same m (q + w) vacant sound laws.vacant_fine inside

    at_other : (i : ℕ) → i ≢ q → i ≢ q + w → at after i ≡ at m i
    at_other i x y = laws.put_other _ q _ i fine x ∙ laws.put_other m (q + w) vacant i laws.vacant_fine y

    side-span : (k : ℕ) → (k ≡ q) ⊎ (k ≡ q + w) → span (at m k) ≤ span (at after q)
    side-span k (inl e) = rw (at_first, e) (omega (arith, spans.of_join a b))
    side-span k (inr e) = rw (at_first, e) (omega (arith, spans.of_join a b))

    not-side : (k i : ℕ) → (k ≡ q) ⊎ (k ≡ q + w) → i ≢ q → i ≢ q + w → i ≢ k
    not-side k i (inl e) x y = omega arith
    not-side k i (inr e) x y = omega arith

    -- slot k is one side's, and settling goes on at q
    module _ (k : ℕ) (side : (k ≡ q) ⊎ (k ≡ q + w)) (m' : S) (v : Effect M span after q (span (at after q)) m') where
      go-on-kept : (i : ℕ) → i ≢ k → running (at m i) ≡ true → at m' i ≡ at m i
      go-on-kept i x r =
          let nq : i ≢ q = λ e. clash (rw e at r) parts.1.1 in
          let nc : i ≢ q + w = λ e. clash (rw e at r) parts.2.1 in
          let o = at_other i nq nc in
          v.kept i nq (rw o r) ∙ o

      go-on_fate : (i : ℕ) → Fate M span after q (span (at after q)) m' i → Fate M span m k (span (at m k)) m' i
      go-on_fate i (stood x e) =
          by_order i (q + w) (λ z. stood (not-side k i side x (omega arith)) (e ∙ at_other i x (omega arith)))
          (λ z. vacated (omega (arith, pow_pos h)) (e ∙ rw z at_child))
          (λ z. stood (not-side k i side x (omega arith)) (e ∙ at_other i x (omega arith)))
      go-on_fate i (vacated x e) = vacated x e
      go-on_fate i (raised x) = raised (omega (arith, side-span k side))

      go_on : Effect M span m k (span (at m k)) m'
      go_on = record { kept = go-on-kept; fate = λ i. go-on_fate i (v.fate i) }

  -- nothing was done
  still : (m : S) (k : ℕ) → Effect M span m k (span (at m k)) m
  still m k = record {
    kept = λ i x r. refl;
    fate = λ i. by_order i k (λ x. stood (omega arith) refl) (λ x. raised (rw x (omega arith))) (λ x. stood (omega arith) refl);
  }

  -- settling at slot k, whose task has 2 ^ h places
  pub settles : (d : ℕ) (m : S) (k h : ℕ) → Sound m → AllKnown M K m → Aligned k h → Formed h (at m k) → d + h ≡ D
      → Effect M span m k (span (at m k)) (settle slots d m k)
  settles zero m k h sound all al f deep = rw (settle-none slots m k) (still m k)
  settles (suc d) m k h sound all al f deep =
      let o = fork_of_lem k h al in
      let q = o.first in
      let p = laws.formed_places h (at m k) f in
      by-test (due slots m q (2 ^ h) (suc d))
      (λ t. rw (settle-go slots d m k q (2 ^ h) p o.found t)
      (go_on m q h d sound all deep t k o.side _
      (settles d (after m q h d sound all deep t) q (suc h) (after-sound m q h d sound all deep t) (after-known m q h d sound all deep t) o.aligned
      (rw (at_first m q h d sound all deep t) (joined m q h d sound all deep t)) (omega arith))))
      (λ t. rw (settle_stop slots d m k q (2 ^ h) p o.found t) (still m k))
