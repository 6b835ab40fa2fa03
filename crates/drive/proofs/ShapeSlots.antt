-- In a state of the shape each slot is vacant or a live task's; and a running task's other slots are vacant.
use Prim.Native.Nat.{ℕ, zero, suc, ◌+◌, ◌^◌, ◌≤◌, ◌<◌}
use mathlib.Core.Path.{◌≡◌, ap, ◌∙◌}
use mathlib.Core.Logic.{◌⊎◌, inl, inr, ⊎_elim}
use mathlib.Core.Bool.{true}
use mathlib.Core.List.{List, []}
use native.Mathlib.Omega.{arith}
use Rattle.facts.proofs.Tests.{clash, by-below}
use Rattle.image.specs.Layout.{program_of}
use Rattle.agreement.proofs.Trees.{Tree, leaf, node}
use Rattle.agreement.proofs.Holds.{Holds}
use Rattle.task.specs.declared.Frame.{Frame}
use Rattle.task.specs.Frames.{vacant, running}
use Rattle.task.proofs.Formation.{Formed}
use Rattle.task.proofs.Vacancy.{vacant-idle}
use Rattle.drive.specs.declared.State.{State}
use Rattle.drive.specs.Slots.{at, slots_of}
use Rattle.drive.specs.Settings.{rank}
use Rattle.drive.proofs.RankLaws.{rank_power}
use Rattle.drive.proofs.Models.{forms_of, Allowed}
use Rattle.drive.proofs.ShapeLaws.{Fits, fits-shows}

holds-framed : (cells : List ℕ) (D : ℕ) (T : Tree Frame) (m : State) (b h : ℕ) → Holds (slots_of (program_of cells)) (forms_of cells D) m b h T
    → (i : ℕ) → b ≤ i → i < b + 2 ^ h → (at m i ≡ vacant) ⊎ ((j : ℕ) × Formed (program_of cells) D j (at m i))
holds-framed cells D (leaf f) m b h l i p q =
    by-below b i (λ r. inl (l.empty i r q)) (λ r. let e : i ≡ b = omega arith in inr (h, rw (e, l.here) l.formed))
holds-framed cells D (node x y) m b zero l i p q = absurd l
holds-framed cells D (node x y) m b (suc h) l i p q =
    by-below i (b + 2 ^ h)
    (λ r. holds-framed cells D x m b h l.0 i p r)
    (λ r. holds-framed cells D y m (b + 2 ^ h) h l.1 i r (omega arith))

-- a running task sits in the first of its slots
holds-vacant : (cells : List ℕ) (D : ℕ) (T : Tree Frame) (m : State) (b h : ℕ) → Holds (slots_of (program_of cells)) (forms_of cells D) m b h T
    → (k : ℕ) → b ≤ k → k < b + 2 ^ h → running (at m k) ≡ true → (i : ℕ) → k < i → i < k + (at m k).task.places → at m i ≡ vacant
holds-vacant cells D (leaf f) m b h l k p q runs i x y =
    by-below b k (λ r. clash runs (vacant-idle (at m k) (l.empty k r q)))
    (λ r. let e : k ≡ b = omega arith in
    let wide : (at m k).task.places ≡ 2 ^ h =
    ap (λ n. (at m n).task.places) e ∙ ap (λ (g : Frame). g.task.places) l.here ∙ l.formed.has_places in
    l.empty i (omega arith) (omega arith))
holds-vacant cells D (node x y) m b zero l k p q runs i r s = absurd l
holds-vacant cells D (node x y) m b (suc h) l k p q runs i r s =
    by-below k (b + 2 ^ h)
    (λ z. holds-vacant cells D x m b h l.0 k p z runs i r s)
    (λ z. holds-vacant cells D y m (b + 2 ^ h) h l.1 k z (omega arith) runs i r s)

module _ {cells : List ℕ} {interval places : ℕ} (allowed : Allowed cells interval places) (m : State) (x : Fits cells interval places m) where
  pub fits-framed : (i : ℕ) → i < 64 → (at m i ≡ vacant) ⊎ ((h : ℕ) × Formed (program_of cells) (rank places) h (at m i))
  fits-framed i below =
      let D = rank places in
      let t = fits-shows allowed [] m x in
      by-below i (2 ^ D)
      (λ p. holds-framed cells D t.0 m 0 D t.1.holds i (omega arith) (omega arith))
      (λ p. inl (t.1.beyond i p below))

  pub running-formed : (k : ℕ) → k < 64 → running (at m k) ≡ true → (h : ℕ) × Formed (program_of cells) (rank places) h (at m k)
  running-formed k below runs = ⊎_elim
      (λ (e : at m k ≡ vacant). clash runs (vacant-idle (at m k) e))
      (λ (f : (h : ℕ) × Formed (program_of cells) (rank places) h (at m k)). f)
      (fits-framed k below)

  pub running-vacant : (k : ℕ) → k < places → running (at m k) ≡ true → (i : ℕ) → k < i → i < k + (at m k).task.places → at m i ≡ vacant
  running-vacant k below runs =
      let t = fits-shows allowed [] m x in
      let power : places ≡ 2 ^ rank places = rank_power places allowed.its_places_allowed in
      holds-vacant cells (rank places) t.0 m 0 (rank places) t.1.holds k (omega arith) (omega arith) runs
