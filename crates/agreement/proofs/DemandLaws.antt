-- Demand 3: every order of picks agrees with the plain evaluation.
use Prim.Native.Nat.{ℕ, ◌+◌, ◌≤◌, ◌<◌}
use mathlib.Core.Path.{◌≡◌, refl, ◌∙◌}
use mathlib.Core.Bool.{true, false}
use mathlib.Core.List.{List}
use native.Mathlib.Omega.{arith}
use Rattle.facts.proofs.Tests.{by-test}
use Rattle.agreement.specs.Plain.{ran, eval}
use Rattle.agreement.proofs.Trees.{Tree, leaf, place, Evals}
use Rattle.agreement.proofs.TreeLaws.{evals_one_way}
use Rattle.agreement.proofs.EvalLaws.{eval-sound, eval_complete}
use Rattle.agreement.specs.Picks.{Model, rules, once, job_ended, can_pick, play, carried_out}
use Rattle.agreement.proofs.PickLaws.{parts_can, play_work, play_limit}
use Rattle.agreement.specs.Demand.{Agrees, Ordered}
use Rattle.agreement.proofs.Laws.{Forms, Laws}
use Rattle.agreement.proofs.Holds.{Shows}
use Rattle.agreement.proofs.HoldsLaws.{open_runs, ended-shows, ended_evals}
use Rattle.agreement.proofs.Moves.{carry-shows}
use Rattle.agreement.proofs.OrderLaws.{Left, play-shows, complete_evals}

module _ {F S : Type 0} (M : Model F S) (K : Forms F S) (laws : Laws M K) where
  open M use {slots, limit, work}
  open slots use {at}
  open K use {D, Empty}

  abbrev At : Tree F → F → ℕ → Type 0
  At = Evals (rules M) once (place 0 D)

  pickable : (m : S) (T : Tree F) → Shows slots K m T → job_ended M m ≡ false → work m < limit → (k : ℕ) × (can_pick M m k ≡ true)
  pickable m T s o h =
      let t = open_runs M K laws T m s o in
      (t.0, parts_can M m t.0 (omega (arith, t.1, laws.places_power)) t.2 h)

  -- while the job has not ended, its tree has an instruction to issue
  open_issues : (m : S) (T : Tree F) → Shows slots K m T → job_ended M m ≡ false → (e : F) (r : ℕ) → At T e r → 0 < r
  open_issues m T s o e r d =
      let t = open_runs M K laws T m s o in
      let v = carry-shows M K once laws T m s t.0 t.1 t.2 in
      omega (arith, (v.2.fore e r d).1)

  -- a state that has done work m of an evaluation of work W
  module _ (m : S) (f₀ e : F) (W : ℕ) (l : Left M K once (leaf f₀) (work m) m) (d : At (leaf f₀) e W) (within : W ≤ limit) where
    left : (r : ℕ) × (W ≡ work m + r) × At l.tree e r
    left = l.ahead.fore e W d

    when_ended : job_ended M m ≡ true → (at m 0 ≡ e) × (work m ≡ W)
    when_ended o =
        let t = evals_one_way (rules M) once (ended_evals M K laws once l.tree m l.shows o) left.2 in
        (t.0, omega (arith, left.1, t.1))

    when_open : job_ended M m ≡ false → work m < W
    when_open o = omega (arith, left.1, open_issues m l.tree l.shows o e left.0 left.2)

    state_agrees : Agrees M Empty m e W
    state_agrees = record {
      work_never_above = omega (arith, left.1);
      ended_when_equal = λ h. by-test (job_ended M m) (λ o. o) (λ o. absurd (omega (arith, when_open o)));
      equal_when_ended = λ o. (when_ended o).1;
      first_slot = λ o. (when_ended o).0;
      other_slots = λ o. (ended-shows M K laws l.tree m l.shows o).others;
      before_that_pickable = λ h. by-test (job_ended M m) (λ o. absurd (omega (arith, (when_ended o).1)))
          (λ o. pickable m l.tree l.shows o (omega arith));
    }

  -- m₀ is the start's state and f₀ its one task
  pub ordered : (m₀ : S) (f₀ : F) → Shows slots K m₀ (leaf f₀) → work m₀ ≡ 0 → (ks : List ℕ) → Ordered M Empty m₀ f₀ ks
  ordered m₀ f₀ s₀ w₀ ks =
      let m = play M m₀ ks in
      let p = play-shows M K laws once ks m₀ (leaf f₀) s₀ in
      let w : work m ≡ carried_out M once m₀ ks = play_work M laws.put_work laws.tick_work ks m₀ ∙ rw w₀ (omega arith) in
      let most : work m ≤ limit = play_limit M laws.put_work laws.tick_work ks m₀ (rw w₀ (omega arith)) in
      let l : Left M K once (leaf f₀) (work m) m = record { tree = p.tree; shows = p.shows; ahead = rw w p.ahead } in
      let evaluated : job_ended M m ≡ true → (eval (rules M) limit f₀ ≡ ran (at m 0) (work m)) × (work m ≤ limit) = λ o.
      (eval_complete (rules M) once (λ k. refl) (rw (← w) at (complete_evals M K laws once ks m₀ (leaf f₀) s₀ o)) limit most, most) in
      record {
        work_counted = w;
        agrees = λ e W q h. state_agrees m f₀ e W l (eval-sound (rules M) once (λ k. refl) limit f₀ e W q (place 0 D)) h;
        ended_as_evaluated = evaluated;
        not_ended_elsewhere = λ never. by-test (job_ended M m) (λ o. let t = evaluated o in absurd (never (at m 0) (work m) t.0 t.1)) (λ o. o);
        below_limit_pickable = λ o h. pickable m p.tree p.shows o h;
      }
