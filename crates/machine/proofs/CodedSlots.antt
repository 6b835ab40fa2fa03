-- The test over codes says what `shaped` says of the state.
use Prim.Native.Nat.{ℕ, zero, suc, ◌+◌, ◌-◌, ◌^◌, ◌≤◌, ◌<◌}
use mathlib.Core.Path.{◌≡◌, refl, sym, ap, ap₂, ◌∙◌}
use mathlib.Core.Bool.{Bool, true, false, not, ◌&&◌}
use mathlib.Core.List.{List}
use native.Mathlib.Omega.{arith}
use native.Mathlib.Numerals.{add-one}
use lib.Dec.{eqb}
use lib.Pow.{pow_pos}
use lib.ListN.{get_or}
use borrow.Author.Tests.{eqb-true, eq-eqb}
use Rattle.facts.proofs.Tests.{both_true, by-test, never}
use Rattle.image.specs.Layout.{program_of}
use Rattle.agreement.specs.Slots.{side_ended}
use Rattle.agreement.specs.Shape.{hollow, tiles}
use Rattle.agreement.proofs.ShapeLaws.{tiles_slot, tiles-lone, tiles-split}
use Rattle.task.specs.Formed.{every, is_vacant, formed}
use Rattle.shape.specs.Codes.{code_of, stands, clear, tiled}
use Rattle.shape.proofs.TiledLaws.{tiled-whole, tiled-none, tiled-lower_fails, tiled-upper_fails, tiled-halves}
use Rattle.shape.proofs.CodeLaws.{formed-height, code-vacant, code-formed, code-ended}
use Rattle.drive.specs.declared.State.{State}
use Rattle.drive.specs.Slots.{at, slots_of}
use Rattle.drive.proofs.ShapeTests.{tests_of}

module _ (cells : List ℕ) (D : ℕ) (small : D ≤ 6) (m : State) (codes : List ℕ) (coded : (k : ℕ) → k < 64 → get_or codes k 0 ≡ code_of (program_of cells) D (at m k)) where
  abbrev tiles_of : ℕ → ℕ → Bool
  tiles_of h b = tiles (slots_of (program_of cells)) (tests_of (program_of cells) D) D h m b

  abbrev formed_at : ℕ → ℕ → Bool
  formed_at h b = formed (program_of cells) D h (at m b)

  abbrev hollow_from : ℕ → ℕ → Bool
  hollow_from n a = hollow (slots_of (program_of cells)) (tests_of (program_of cells) D) n m a

  pub codes_clear : (n a : ℕ) → a + n ≤ 64 → clear codes n a ≡ hollow (slots_of (program_of cells)) (tests_of (program_of cells) D) n m a
  unfolding hollow every
  codes_clear zero a h = refl
  codes_clear (suc n) a h =
      let here : eqb (get_or codes a 0) 0 ≡ is_vacant (at m a) = ap (λ c. eqb c 0) (coded a (omega arith)) ∙ code-vacant (program_of cells) D small (at m a) in
      let rest = codes_clear n (suc a) (omega arith) in
      by-test (is_vacant (at m a))
      (λ v. rw (every, here, v, add-one) rest)
      (λ v. rw (every, here, v))

  codes_stand : (h b : ℕ) → h ≤ 6 → b < 64 → stands (get_or codes b 0) h ≡ formed_at h b
  codes_stand h b p q = rw (coded b q) (code-formed (program_of cells) D small h (at m b) p)

  -- where the slots are tiled, the first has a task of at most as many places
  tiles-first : (h b : ℕ) → h ≤ D → tiles_of h b ≡ true → (g : ℕ) × (g ≤ h) × (formed_at g b ≡ true)
  tiles-first zero b p t =
      (0, omega arith, (both_true (formed_at 0 b) (hollow_from (2 ^ 0 - 1) (suc b)) (sym (tiles_slot (slots_of (program_of cells)) (tests_of (program_of cells) D) D m b) ∙ t)).0)
  tiles-first (suc h) b p t =
      by-test (eqb (at m b).task.depth (D - suc h))
      (λ e.
      let l = sym (tiles-lone (slots_of (program_of cells)) (tests_of (program_of cells) D) D h m b e) ∙ t in
      (suc h, omega arith, (both_true (formed_at (suc h) b) (hollow_from (2 ^ suc h - 1) (suc b)) l).0))
      (λ e.
      let r = tiles-first h b (omega arith) (both_true (tiles_of h b) _ (sym (tiles-split (slots_of (program_of cells)) (tests_of (program_of cells) D) D h m b e) ∙ t)).0 in
      (r.0, omega (arith, r.1), r.2))

  -- the rest of a task's slots
  whole-clear : (h b : ℕ) → b + 2 ^ h ≤ 64 → stands (get_or codes b 0) h ≡ true → tiled codes h b ≡ hollow_from (2 ^ h - 1) (suc b)
  whole-clear h b fits s =
      tiled-whole codes h b s ∙ codes_clear (2 ^ h - 1) (b + 1) (omega (arith, pow_pos h)) ∙ rw add-one

  side-ends : (h b : ℕ) → h ≤ D → b < 64 → tiles_of h b ≡ true → eqb (get_or codes b 0) (h + 9) ≡ side_ended (slots_of (program_of cells)) m b (D - h)
  side-ends h b p q t = let r = tiles-first h b p t in rw (coded b q) (code-ended (program_of cells) D small r.0 h (at m b) r.1 p r.2)

  -- a task at the depth of 2 ^ (h + 1) places is none of fewer
  too_shallow : (h b : ℕ) → suc h ≤ D → eqb (at m b).task.depth (D - suc h) ≡ true → tiles_of h b ≡ false
  too_shallow h b p e =
      never (tiles_of h b)
      (λ t. let r = tiles-first h b (omega arith) t in
      omega (arith, r.1, formed-height (program_of cells) D small r.0 (at m b) r.2, eqb-true (at m b).task.depth (D - suc h) e))

  pub codes_tiled : (h b : ℕ) → h ≤ D → b + 2 ^ h ≤ 64 → tiled codes h b ≡ tiles (slots_of (program_of cells)) (tests_of (program_of cells) D) D h m b
  codes_tiled zero b p fits =
      let s = codes_stand 0 b (omega arith) (omega arith) in
      by-test (formed_at 0 b)
      (λ f. whole-clear 0 b fits (s ∙ f) ∙ sym (tiles_slot (slots_of (program_of cells)) (tests_of (program_of cells) D) D m b ∙ rw f))
      (λ f. tiled-none codes b (s ∙ f) ∙ sym (tiles_slot (slots_of (program_of cells)) (tests_of (program_of cells) D) D m b ∙ rw f))
  codes_tiled (suc h) b p fits =
      let s = codes_stand (suc h) b (omega arith) (omega (arith, pow_pos (suc h))) in
      let lone = tiles-lone (slots_of (program_of cells)) (tests_of (program_of cells) D) D h m b in
      let split = tiles-split (slots_of (program_of cells)) (tests_of (program_of cells) D) D h m b in
      let lower = codes_tiled h b (omega arith) (omega (arith, pow_pos h)) in
      let upper = codes_tiled h (b + 2 ^ h) (omega arith) (omega arith) in
      by-test (formed_at (suc h) b)
      (λ f.
      let d = eq-eqb (at m b).task.depth (D - suc h) (omega (arith, formed-height (program_of cells) D small (suc h) (at m b) f)) in
      whole-clear (suc h) b fits (s ∙ f) ∙ sym (lone d ∙ rw f))
      (λ f.
      by-test (eqb (at m b).task.depth (D - suc h))
      (λ d. tiled-lower_fails codes b h (s ∙ f) (lower ∙ too_shallow h b p d) ∙ sym (lone d ∙ rw f))
      (λ d.
      by-test (tiles_of h b)
      (λ l.
      by-test (tiles_of h (b + 2 ^ h))
      (λ u.
      tiled-halves codes b h (s ∙ f) (lower ∙ l) (upper ∙ u)
      ∙ ap not
      (ap₂ ◌&&◌ (side-ends h b (omega arith) (omega (arith, pow_pos h)) l) (side-ends h (b + 2 ^ h) (omega arith) (omega (arith, pow_pos h)) u))
      ∙ sym (split d ∙ rw (l, u)))
      (λ u. tiled-upper_fails codes b h (s ∙ f) (lower ∙ l) (upper ∙ u) ∙ sym (split d ∙ rw (l, u))))
      (λ l. tiled-lower_fails codes b h (s ∙ f) (lower ∙ l) ∙ sym (split d ∙ rw l))))
