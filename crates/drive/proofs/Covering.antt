-- In a state of the shape a slot where nothing runs may be stepped over with all its places: an ended task's, or the slot alone.
use Prim.Native.Nat.{ℕ, zero, suc, ◌+◌, ◌^◌, ◌≤◌, ◌<◌}
use mathlib.Core.Path.{◌≡◌, ap, ◌∙◌}
use mathlib.Core.Bool.{false}
use mathlib.Core.List.{List, []}
use native.Mathlib.Omega.{arith}
use lib.Pow.{pow_pos}
use borrow.Author.Tests.{lt-ltb, le-ltb}
use Rattle.facts.proofs.Tests.{by-below}
use Rattle.image.specs.Layout.{program_of}
use Rattle.agreement.proofs.Trees.{Tree, leaf, node}
use Rattle.agreement.proofs.Holds.{Holds}
use Rattle.task.specs.declared.Frame.{Frame}
use Rattle.task.specs.Frames.{running}
use Rattle.task.proofs.Vacancy.{vacant-idle}
use Rattle.drive.specs.declared.State.{State}
use Rattle.drive.specs.Slots.{at, slots_of}
use Rattle.drive.specs.Settings.{rank}
use Rattle.turns.specs.Walk.{width}
use Rattle.drive.proofs.RankLaws.{rank_power}
use Rattle.drive.proofs.Models.{forms_of, Allowed}
use Rattle.drive.proofs.ShapeLaws.{Fits, fits-shows}
use Rattle.drive.proofs.Seeking.{Quiet}

-- the places of slot k lie before slot `end`, and nothing runs in those behind the first
record Covers (m : State) (k end : ℕ) : Type 0 where
  inside : k + width (at m k).task.places ≤ end
  quiet : Quiet m (k + 1) (k + width (at m k).task.places)

-- a width of 1 or more
wide : (w : ℕ) → 0 < w → width w ≡ w
wide w h = rw (le-ltb w 1 h)

pub width_some : (w : ℕ) → 0 < width w
width_some w = by-below w 1 (λ h. rw (lt-ltb w 1 h) (omega arith)) (λ h. rw (le-ltb w 1 h) h)

covered : (cells : List ℕ) (D : ℕ) (T : Tree Frame) (m : State) (b h : ℕ) → Holds (slots_of (program_of cells)) (forms_of cells D) m b h T
    → (k : ℕ) → b ≤ k → k < b + 2 ^ h → Covers m k (b + 2 ^ h)
covered cells D (leaf f) m b h l k p q = by-below b k vacant-there first
  where
    vacant-there : b < k → Covers m k (b + 2 ^ h)
    vacant-there above =
        let one : width (at m k).task.places ≡ 1 = ap (λ (g : Frame). width g.task.places) (l.empty k above q) in
        record { inside = omega arith; quiet = λ i x y. absurd (omega arith) }

    first : k ≤ b → Covers m k (b + 2 ^ h)
    first low =
        let e : k ≡ b = omega arith in
        let places : (at m k).task.places ≡ 2 ^ h = ap (λ (n : ℕ). (at m n).task.places) e ∙ ap (λ (g : Frame). g.task.places) l.here ∙ l.formed.has_places in
        let all : width (at m k).task.places ≡ 2 ^ h = ap width places ∙ wide (2 ^ h) (pow_pos h) in
        record { inside = omega arith; quiet = λ i x y. vacant-idle (at m i) (l.empty i (omega arith) (omega arith)) }
covered cells D (node x y) m b zero l k p q = absurd l
covered cells D (node x y) m b (suc h) l k p q =
    by-below k (b + 2 ^ h) (λ r. lower (covered cells D x m b h l.0 k p r))
    (λ r. upper (covered cells D y m (b + 2 ^ h) h l.1 k r (omega arith)))
  where
    lower : Covers m k (b + 2 ^ h) → Covers m k (b + 2 ^ suc h)
    lower c = record { inside = omega (arith, c.inside); quiet = c.quiet }

    upper : Covers m k (b + 2 ^ h + 2 ^ h) → Covers m k (b + 2 ^ suc h)
    upper c = record { inside = omega (arith, c.inside); quiet = c.quiet }

module _ {cells : List ℕ} {interval places : ℕ} (allowed : Allowed cells interval places) (m : State) (x : Fits cells interval places m) (k : ℕ) (below : k < m.places) where
  covers : Covers m k m.places
  covers =
      let D = rank places in
      let t = fits-shows allowed [] m x in
      let P : m.places ≡ 2 ^ D = x.its_places ∙ rank_power places allowed.its_places_allowed in
      let c = covered cells D t.0 m 0 D t.1.holds k (omega arith) (omega arith) in
      record { inside = omega (arith, c.inside); quiet = c.quiet }

  pub width-inside : k + width (at m k).task.places ≤ m.places
  width-inside = covers.inside

  pub width-others : Quiet m (k + 1) (k + width (at m k).task.places)
  width-others = covers.quiet

  -- where nothing runs at the slot, nothing runs in its places
  pub width_quiet : running (at m k) ≡ false → Quiet m k (k + width (at m k).task.places)
  width_quiet idle i p q =
      by-below k i (λ h. covers.quiet i (omega arith) q) (λ h. let e : i ≡ k = omega arith in rw e idle)
