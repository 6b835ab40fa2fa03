-- Any two complete orders from one state: the same picks in every slot, and the same frame in every slot at the end.
use Prim.Native.Nat.{ℕ, zero, suc, ◌<◌}
use mathlib.Core.Path.{◌≡◌, sym, ◌∙◌}
use mathlib.Core.Bool.{true}
use mathlib.Core.List.{List}
use native.Mathlib.Omega.{arith}
use Rattle.agreement.proofs.Trees.{Tree}
use Rattle.agreement.proofs.TreeLaws.{evals_one_way}
use Rattle.agreement.specs.Picks.{Model, rules, once, only_at, job_ended, play, carried_out}
use Rattle.agreement.proofs.PickLaws.{play_work}
use Rattle.agreement.proofs.Laws.{Forms, Laws}
use Rattle.agreement.proofs.Holds.{Shows}
use Rattle.agreement.proofs.HoldsLaws.{ended-shows}
use Rattle.agreement.proofs.OrderLaws.{play-shows, complete_evals}

module _ {F S : Type 0} (M : Model F S) (K : Forms F S) (laws : Laws M K) where
  open M use {slots, work}
  open slots use {vacant, at, size}
  open K use {Empty}

  module _ (m₀ : S) (T : Tree F) (s : Shows slots K m₀ T) where
    -- after a complete order every slot but the first has no task
    pub complete_others : (ks : List ℕ) → job_ended M (play M m₀ ks) ≡ true → (i : ℕ) → 0 < i → i < size → Empty (at (play M m₀ ks) i)
    complete_others ks o = let l = play-shows M K laws once ks m₀ T s in (ended-shows M K laws l.tree (play M m₀ ks) l.shows o).others

    module _ (ks ls : List ℕ) (k-ends : job_ended M (play M m₀ ks) ≡ true) (l-ends : job_ended M (play M m₀ ls) ≡ true) where
      one_way : (count : ℕ → ℕ) → (at (play M m₀ ks) 0 ≡ at (play M m₀ ls) 0) × (carried_out M count m₀ ks ≡ carried_out M count m₀ ls)
      one_way count = evals_one_way (rules M) count (complete_evals M K laws count ks m₀ T s k-ends) (complete_evals M K laws count ls m₀ T s l-ends)

      -- the same number of picks, however they are weighed by slot
      pub same_count : (count : ℕ → ℕ) → carried_out M count m₀ ks ≡ carried_out M count m₀ ls
      same_count count = (one_way count).1

      -- so in every slot
      pub same_picks : (i : ℕ) → carried_out M (only_at i) m₀ ks ≡ carried_out M (only_at i) m₀ ls
      same_picks i = same_count (only_at i)

      pub same_work : work (play M m₀ ks) ≡ work (play M m₀ ls)
      same_work =
          let p = play_work M laws.put_work laws.tick_work ks m₀ in
          let q = play_work M laws.put_work laws.tick_work ls m₀ in
          omega (arith, p, q, same_count once)

      pub same_first : at (play M m₀ ks) 0 ≡ at (play M m₀ ls) 0
      same_first = (one_way once).0

      pub same_slots : ((f : F) → Empty f → f ≡ vacant) → (i : ℕ) → i < size → at (play M m₀ ks) i ≡ at (play M m₀ ls) i
      same_slots empty-is-vacant zero h = same_first
      same_slots empty-is-vacant (suc i) h =
          empty-is-vacant _ (complete_others ks k-ends (suc i) (omega arith) h)
          ∙ sym (empty-is-vacant _ (complete_others ls l-ends (suc i) (omega arith) h))
