-- Every order, against the tree that its start shows: after it the state shows a tree that has exactly the picks carried out less to issue.
use Prim.Native.Nat.{ℕ}
use mathlib.Core.Path.{◌≡◌}
use mathlib.Core.Bool.{true}
use mathlib.Core.List.{List, [], ◌∷◌}
use native.Mathlib.Omega.{arith}
use native.Mathlib.Nat.{add-zero}
use Rattle.facts.proofs.Tests.{by-test}
use Rattle.agreement.proofs.Trees.{Tree, place, Evals, Ahead}
use Rattle.agreement.proofs.TreeLaws.{ahead_refl, ahead_trans}
use Rattle.agreement.specs.Picks.{Model, rules, if_picked, job_ended, can_pick, pick, play, carried_out}
use Rattle.agreement.proofs.PickLaws.{can_parts, pick-carried, pick-refused}
use Rattle.agreement.proofs.Laws.{Forms, Laws}
use Rattle.agreement.proofs.Holds.{Shows}
use Rattle.agreement.proofs.HoldsLaws.{holds_same, ended_evals}
use Rattle.agreement.proofs.Moves.{carry-shows}

module _ {F S : Type 0} (M : Model F S) (K : Forms F S) where
  open M use {slots, tick}
  open slots use {at}
  open K use {D}

  -- the state m shows what is left of T after instructions that weigh n
  pub record Left (count : ℕ → ℕ) (T : Tree F) (n : ℕ) (m : S) : Type 0 where
    pub tree : Tree F
    pub shows : Shows slots K m tree
    pub ahead : Ahead (rules M) count (place 0 D) n T tree

  module _ (laws : Laws M K) where
    tick_shows : (m : S) (T : Tree F) → Shows slots K m T → Shows slots K (tick m) T
    tick_shows m T s = record {
      holds = holds_same slots K T m (tick m) 0 D (λ i p q. laws.tick_at m i) s.holds;
      settled = s.settled;
      sound = laws.tick_sound m s.sound;
      beyond = λ i p q. rw (laws.tick_at m i) (s.beyond i p q);
    }

    module _ (count : ℕ → ℕ) where
      pub pick-shows : (m : S) (T : Tree F) (k : ℕ) → Shows slots K m T → Left count T (if_picked (can_pick M m k) (count k)) (pick M m k)
      pick-shows m T k s =
          by-test (can_pick M m k)
          (λ h.
          let p = can_parts M m k h in
          let v = carry-shows M K count laws T m s k (omega (arith, p.0, laws.places_power)) p.1 in
          record { tree = v.0; shows = rw (pick-carried M m k h) (tick_shows _ v.0 v.1); ahead = rw h v.2 })
          (λ h. record { tree = T; shows = rw (pick-refused M m k h) s; ahead = rw h (ahead_refl (rules M) count (place 0 D) T) })

      pub play-shows : (ks : List ℕ) (m : S) (T : Tree F) → Shows slots K m T → Left count T (carried_out M count m ks) (play M m ks)
      unfolding play carried_out
      play-shows [] m T s = record { tree = T; shows = s; ahead = ahead_refl (rules M) count (place 0 D) T }
      play-shows (k ∷ ks) m T s =
          let a = pick-shows m T k s in
          let b = play-shows ks (pick M m k) a.tree a.shows in
          record { tree = b.tree; shows = b.shows; ahead = ahead_trans (rules M) count a.ahead b.ahead }

      -- a complete order has evaluated the tree
      pub complete_evals : (ks : List ℕ) (m : S) (T : Tree F) → Shows slots K m T → job_ended M (play M m ks) ≡ true
          → Evals (rules M) count (place 0 D) T (at (play M m ks) 0) (carried_out M count m ks)
      complete_evals ks m T s o =
          let l = play-shows ks m T s in
          rw add-zero at (l.ahead.back _ 0 (ended_evals M K laws count l.tree (play M m ks) l.shows o))
