-- Each task that a round takes is still running when its turn comes: only the work's limit refuses a pick of it.
use Prim.Native.Nat.{ℕ, suc, ◌+◌, ◌-◌, ◌≤◌, ◌<◌, min}
use mathlib.Core.Path.{◌≡◌, ap, ◌∙◌}
use mathlib.Core.Bool.{true}
use mathlib.Core.List.{List, [], ◌∷◌}
use native.Mathlib.Omega.{arith}
use lib.ListN.{length}
use Rattle.facts.proofs.Tests.{clash, by-test, by-below}
use Rattle.agreement.proofs.Trees.{Tree}
use Rattle.agreement.specs.Slots.{carry}
use Rattle.agreement.specs.Picks.{Model, once, can_pick, pick, carried_out}
use Rattle.agreement.proofs.PickLaws.{can_parts, parts_can, pick-carried, pick-refused, carried_work}
use Rattle.agreement.proofs.Laws.{Forms, Laws}
use Rattle.agreement.proofs.Holds.{Shows}
use Rattle.agreement.proofs.OrderLaws.{pick-shows}
use Rattle.lanes.specs.Rounds.{round_of}
use Rattle.lanes.specs.Spans.{SpanLaws}
use Rattle.lanes.proofs.Carrying.{carried}
use Rattle.lanes.proofs.Taking.{Ready, none, next, ready-kept, taken-ready}

module _ {F S : Type 0} (M : Model F S) where
  open M use {slots, step, job_places, limit, work, tick}
  open slots use {running, at}

  -- at each pick of the order the slot has a running task
  abbrev pub InTurn : S → List ℕ → Type 0
  InTurn m [] = Unit {0}
  InTurn m (k ∷ ks) = (k < job_places) × (running (at m k) ≡ true) × InTurn (pick M m k) ks

  module _ (K : Forms F S) (laws : Laws M K) (span : F → ℕ) (spans : SpanLaws M K.Empty span) where
    ready-turns : (ks : List ℕ) (m : S) (T : Tree F) (i : ℕ) → Shows slots K m T → Ready M (λ f. running f ≡ true) m job_places i ks → InTurn m ks
    ready-turns [] m T i s none = tt
    ready-turns (k ∷ ks) m T i s (next x y r rest) =
        let l = pick-shows M K laws once m T k s in (
          y,
          r,
          ready-turns ks (pick M m k) l.tree (suc k) l.shows
              (by-test (can_pick M m k)
              (λ c.
              let v = carried M K laws span spans m T s k (omega (arith, laws.places_power)) r in
              rw (pick-carried M m k c) (ready-kept M (tick (carry slots step m k)) (λ f q. q) (λ j z. v.kept j (omega arith)) rest))
              (λ c. rw (pick-refused M m k c) rest)),
        )

    pub round-turns : (lanes : ℕ) (m : S) (T : Tree F) → Shows slots K m T → InTurn m (round_of M lanes m)
    round-turns lanes m T s =
        ready-turns (round_of M lanes m) m T 0 s (taken-ready M m (λ f. running f ≡ true) job_places (λ k h r. r) job_places lanes 0 (omega arith))

    -- so every pick is carried out that the limit leaves room for
    pub turns-carried : (ks : List ℕ) (m : S) → InTurn m ks → work m ≤ limit → carried_out M once m ks ≡ min (length ks) (limit - work m)
    unfolding carried_out
    turns-carried [] m t h = omega arith
    turns-carried (k ∷ ks) m t h =
        by-test (can_pick M m k)
        (λ c.
        let p = can_parts M m k c in
        let w : work (pick M m k) ≡ work m + 1 = ap work (pick-carried M m k c) ∙ carried_work M laws.put_work laws.tick_work m k in
        rw c (omega (arith, turns-carried ks (pick M m k) t.2 (omega (arith, p.2, w)), w, p.2)))
        (λ c.
        let e : pick M m k ≡ m = pick-refused M m k c in
        let u = turns-carried ks (pick M m k) t.2 (rw e h) in
        let full : limit ≤ work m = by-below (work m) limit (λ z. clash (parts_can M m k t.0 t.1 z) c) (λ z. z) in
        rw c (omega (arith, u, ap work e, full)))
