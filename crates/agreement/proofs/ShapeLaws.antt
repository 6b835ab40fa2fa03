-- The shape test passes just where the slots are a tree's. A pick keeps the shape.
use Prim.Native.Nat.{ℕ, zero, suc, ◌+◌, ◌-◌, ◌^◌, ◌≤◌, ◌<◌}
use mathlib.Core.Path.{◌≡◌, refl, sym, ◌∙◌}
use mathlib.Core.Logic.{◌≢◌}
use mathlib.Core.Bool.{Bool, true, false, not, ◌&&◌}
use native.Mathlib.Omega.{arith}
use lib.Dec.{eqb}
use lib.Pow.{pow_pos}
use borrow.Author.Tests.{eq-eqb, ne_eqb, not-true}
use Rattle.facts.proofs.Tests.{both_true, true_both, false_not, by-test, by-below}
use Rattle.agreement.proofs.Trees.{Tree, leaf, node}
use Rattle.agreement.specs.Slots.{Slots, side_ended}
use Rattle.agreement.specs.Picks.{Model, once, pick}
use Rattle.agreement.proofs.Laws.{Forms, Laws}
use Rattle.agreement.proofs.Holds.{ended_tree, Settled, Holds, Shows}
use Rattle.agreement.proofs.HoldsLaws.{holds_deep, side-test}
use Rattle.agreement.proofs.OrderLaws.{pick-shows}
use Rattle.agreement.specs.Shape.{Tests, hollow, lone, tiles, shaped}

module _ {F S : Type 0} (slots : Slots F S) (tests : Tests F) where
  open slots use {depth, at}
  open tests use {is_vacant}

  pub hollow-each : (n : ℕ) (m : S) (a : ℕ) → hollow slots tests n m a ≡ true → (i : ℕ) → a ≤ i → i < a + n → is_vacant (at m i) ≡ true
  unfolding hollow
  hollow-each zero m a h i p q = absurd (omega arith)
  hollow-each (suc n) m a h i p q =
      let both = both_true (is_vacant (at m a)) (hollow slots tests n m (suc a)) h in
      by-below a i (λ x. hollow-each n m (suc a) both.1 i x (omega arith))
      (λ x. let e : i ≡ a = omega arith in rw e both.0)

  pub each-hollow : (n : ℕ) (m : S) (a : ℕ) → ((i : ℕ) → a ≤ i → i < a + n → is_vacant (at m i) ≡ true) → hollow slots tests n m a ≡ true
  unfolding hollow
  each-hollow zero m a h = refl
  each-hollow (suc n) m a h =
      true_both (h a (omega arith) (omega arith)) (each-hollow n m (suc a) (λ i p q. h i (omega arith) (omega arith)))

  module _ (D : ℕ) where
    pub tiles_slot : (m : S) (b : ℕ) → tiles slots tests D zero m b ≡ lone slots tests m b zero
    unfolding tiles
    tiles_slot m b = refl

    pub tiles-lone : (h : ℕ) (m : S) (b : ℕ) → eqb (depth (at m b)) (D - suc h) ≡ true
        → tiles slots tests D (suc h) m b ≡ lone slots tests m b (suc h)
    unfolding tiles
    tiles-lone h m b e = rw (e, tiles)

    pub tiles-split : (h : ℕ) (m : S) (b : ℕ) → eqb (depth (at m b)) (D - suc h) ≡ false
        → tiles slots tests D (suc h) m b
        ≡ tiles slots tests D h m b
        && (tiles slots tests D h m (b + 2 ^ h) && not (side_ended slots m b (D - h) && side_ended slots m (b + 2 ^ h) (D - h)))
    unfolding tiles
    tiles-split h m b e = rw (e, tiles)

-- the tests of one frame say what they should, of the frames of a sound state
pub record TestLaws {F S : Type 0} (slots : Slots F S) (K : Forms F S) (tests : Tests F) : Type 0 where
  pub test_empty : (m : S) (i : ℕ) → K.Sound m → i < slots.size → tests.is_vacant (slots.at m i) ≡ true → K.Empty (slots.at m i)
  pub empty_test : (f : F) → K.Empty f → tests.is_vacant f ≡ true
  pub test_formed : (m : S) (i h : ℕ) → K.Sound m → i < slots.size → tests.is_formed h (slots.at m i) ≡ true → K.Formed h (slots.at m i)
  pub formed_test : (h : ℕ) (f : F) → K.Formed h f → tests.is_formed h f ≡ true

module _ {F S : Type 0} (M : Model F S) (K : Forms F S) (laws : Laws M K) (tests : Tests F) (test-laws : TestLaws M.slots K tests) where
  open M use {slots}
  open slots use {running, depth, at, size}
  open tests use {is_formed}
  open K use {D, Sound}

  abbrev Held : S → ℕ → ℕ → Tree F → Type 0
  Held = Holds slots K

  abbrev TreeAt : S → ℕ → ℕ → Type 0
  TreeAt m b h = (T : Tree F) × Held m b h T × Settled running T

  abbrev ended_at : S → ℕ → ℕ → Bool
  ended_at = side_ended slots

  lone-holds : (h : ℕ) (m : S) (b : ℕ) → Sound m → b + 2 ^ h ≤ size → lone slots tests m b h ≡ true → Held m b h (leaf (at m b))
  lone-holds h m b sound fits t =
      let p = both_true (is_formed h (at m b)) (hollow slots tests (2 ^ h - 1) m (suc b)) t in
      record {
        here = refl;
        formed = test-laws.test_formed m b h sound (omega (arith, pow_pos h)) p.0;
        empty = λ i x y.
            test-laws.test_empty m i sound (omega arith)
            (hollow-each slots tests (2 ^ h - 1) m (suc b) p.1 i x (omega (arith, pow_pos h)));
      }

  holds-lone : (h : ℕ) (m : S) (b : ℕ) (f : F) → Held m b h (leaf f) → lone slots tests m b h ≡ true
  holds-lone h m b f l =
      let p : is_formed h (at m b) ≡ true = rw l.here (test-laws.formed_test h f l.formed) in
      true_both p
      (each-hollow slots tests (2 ^ h - 1) m (suc b) (λ i x y. test-laws.empty_test (at m i) (l.empty i x (omega (arith, pow_pos h)))))

  tiles-holds : (h : ℕ) (m : S) (b : ℕ) → Sound m → b + 2 ^ h ≤ size → h ≤ D → tiles slots tests D h m b ≡ true → TreeAt m b h
  tiles-holds zero m b sound fits top t = (leaf (at m b), lone-holds zero m b sound fits (sym (tiles_slot slots tests D m b) ∙ t), tt)
  tiles-holds (suc h) m b sound fits top t =
      by-test (eqb (depth (at m b)) (D - suc h))
      (λ e. (leaf (at m b), lone-holds (suc h) m b sound fits (sym (tiles-lone slots tests D h m b e) ∙ t), tt))
      (λ e.
      let both-ended = ended_at m b (D - h) && ended_at m (b + 2 ^ h) (D - h) in
      let p = both_true (tiles slots tests D h m b) (tiles slots tests D h m (b + 2 ^ h) && not both-ended)
      (sym (tiles-split slots tests D h m b e) ∙ t) in
      let q = both_true (tiles slots tests D h m (b + 2 ^ h)) (not both-ended) p.1 in
      let x = tiles-holds h m b sound (omega (arith, pow_pos h)) (omega arith) p.0 in
      let y = tiles-holds h m (b + 2 ^ h) sound (omega arith) (omega arith) q.0 in
      let sx : ended_at m b (D - h) ≡ ended_tree running x.0 = side-test M K laws x.0 m b h (D - h) (omega arith) x.1 in
      let sy : ended_at m (b + 2 ^ h) (D - h) ≡ ended_tree running y.0 =
      side-test M K laws y.0 m (b + 2 ^ h) h (D - h) (omega arith) y.1 in
      (node x.0 y.0, (x.1, y.1), (x.2, y.2, rw (← sx, ← sy) (not-true both-ended q.1))))

  holds-tiles : (T : Tree F) (h : ℕ) (m : S) (b : ℕ) → h ≤ D → Held m b h T → Settled running T → tiles slots tests D h m b ≡ true
  holds-tiles (leaf f) zero m b top l s = tiles_slot slots tests D m b ∙ holds-lone zero m b f l
  holds-tiles (leaf f) (suc h) m b top l s =
      let d : depth (at m b) ≡ D - suc h = rw l.here (omega (arith, laws.formed_depth (suc h) f l.formed)) in
      tiles-lone slots tests D h m b (eq-eqb _ _ d) ∙ holds-lone (suc h) m b f l
  holds-tiles (node x y) zero m b top l s = absurd l
  holds-tiles (node x y) (suc h) m b top l s =
      let d : depth (at m b) ≢ D - suc h = omega (arith, holds_deep M K laws x m b h l.0) in
      let sx : ended_at m b (D - h) ≡ ended_tree running x = side-test M K laws x m b h (D - h) (omega arith) l.0 in
      let sy : ended_at m (b + 2 ^ h) (D - h) ≡ ended_tree running y = side-test M K laws y m (b + 2 ^ h) h (D - h) (omega arith) l.1 in
      let open-fork : ended_at m b (D - h) && ended_at m (b + 2 ^ h) (D - h) ≡ false = rw (sx, sy) s.2 in
      tiles-split slots tests D h m b (ne_eqb _ _ d)
      ∙ true_both (holds-tiles x h m b (omega arith) l.0 s.0)
      (true_both (holds-tiles y h m (b + 2 ^ h) (omega arith) l.1 s.1) (false_not open-fork))

  pub shaped-shows : (m : S) → Sound m → shaped slots tests D m ≡ true → (T : Tree F) × Shows slots K m T
  shaped-shows m sound t =
      let fits = laws.places_fit in
      let p = both_true (tiles slots tests D D m 0) (hollow slots tests (size - 2 ^ D) m (2 ^ D)) t in
      let x = tiles-holds D m 0 sound (omega arith) (omega arith) p.0 in (
        x.0,
        record {
          holds = x.1;
          settled = x.2;
          sound = sound;
          beyond = λ i a b. test-laws.test_empty m i sound b (hollow-each slots tests (size - 2 ^ D) m (2 ^ D) p.1 i a (omega arith));
        },
      )

  pub shows-shaped : (m : S) (T : Tree F) → Shows slots K m T → shaped slots tests D m ≡ true
  shows-shaped m T s =
      let fits = laws.places_fit in
      true_both (holds-tiles T D m 0 (omega arith) s.holds s.settled)
      (each-hollow slots tests (size - 2 ^ D) m (2 ^ D) (λ i a b. test-laws.empty_test (at m i) (s.beyond i a (omega arith))))

  -- for every state of the shape, reached or not
  pub pick-shaped : (m : S) (k : ℕ) → Sound m → shaped slots tests D m ≡ true → (shaped slots tests D (pick M m k) ≡ true) × Sound (pick M m k)
  pick-shaped m k sound t =
      let s = shaped-shows m sound t in
      let l = pick-shows M K laws once m s.0 k s.1 in
      (shows-shaped (pick M m k) l.tree l.shows, l.shows.sound)
