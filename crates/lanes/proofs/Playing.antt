-- One round: each task that it took is still running when its turn comes; what it does to the spans.
use Prim.Native.Nat.{ℕ, suc, ◌+◌, ◌^◌, ◌≤◌, ◌<◌}
use mathlib.Core.Path.{◌≡◌, refl, ap, ◌∙◌}
use mathlib.Core.Logic.{◌⊎◌, inl, inr}
use mathlib.Core.Bool.{true, false}
use mathlib.Core.List.{List, [], ◌∷◌}
use native.Mathlib.Omega.{arith}
use lib.ListN.{length}
use Rattle.facts.proofs.Tests.{clash, by-test, by-below}
use Rattle.agreement.proofs.Trees.{Tree}
use Rattle.agreement.specs.Slots.{carry}
use Rattle.agreement.specs.Picks.{Model, once, job_ended, can_pick, pick, play}
use Rattle.agreement.proofs.PickLaws.{can_parts, parts_can, pick-carried, pick-refused, carried_work}
use Rattle.agreement.proofs.Laws.{Forms, Laws}
use Rattle.agreement.proofs.Holds.{Shows}
use Rattle.agreement.proofs.HoldsLaws.{ended_idle}
use Rattle.agreement.proofs.OrderLaws.{pick-shows}
use Rattle.lanes.specs.Spans.{SpanLaws}
use Rattle.lanes.proofs.Settling.{Fate, stood, vacated, raised, Effect}
use Rattle.lanes.proofs.Carrying.{carried, last-span, carried_high}
use Rattle.lanes.proofs.Taking.{Among, Ready, none, next, ready-kept}

module _ {F S : Type 0} (M : Model F S) where
  open M use {limit, work}

  -- the work stands at its limit and a task is running: no pick is carried out any more
  pub record Stuck (m : S) : Type 0 where
    pub at_limit : limit ≤ work m
    pub open_job : job_ended M m ≡ false

  -- at the limit every pick is refused
  refused : (m : S) (k : ℕ) → limit ≤ work m → can_pick M m k ≡ false
  refused m k h = by-test (can_pick M m k) (λ c. absurd (omega (arith, (can_parts M m k c).2))) (λ c. c)

  pub stays : (ks : List ℕ) (m : S) → limit ≤ work m → play M m ks ≡ m
  unfolding play
  stays [] m h = refl
  stays (k ∷ ks) m h = let e : pick M m k ≡ m = pick-refused M m k (refused m k h) in rw e (stays ks m h)

module _ {F S : Type 0} (M : Model F S) (K : Forms F S) (span : F → ℕ) where
  open M use {slots, step, job_places, limit, work, tick}
  open slots use {running, vacant, at, size}
  open K use {D}

  -- a task that a round takes, at its start: n rounds were not full and t were begun before it
  abbrev pub Waits : ℕ → ℕ → F → Type 0
  Waits n t f = (running f ≡ true) × (n ≤ span f) × (span f ≤ t)

  -- In a round, with the slots ks left to pick, from slot i on. At its end every running task will have the span `low` or more: n after a
  -- full round, n + 1 after one that took every running task
  pub record Mid (n t low i : ℕ) (ks : List ℕ) (m : S) : Type 0 where
    pub tree : Tree F
    pub shows : Shows slots K m tree
    pub ready : Ready M (Waits n t) m job_places i ks
    pub lows : (j : ℕ) → j < size → running (at m j) ≡ true → Among j ks ⊎ (low ≤ span (at m j))
    pub highs : (j : ℕ) → span (at m j) ≤ suc t
    pub last : job_ended M m ≡ true → suc n ≤ span (at m 0)

  module _ (laws : Laws M K) where
    -- while a task runs the job has not ended
    running_open : (m : S) (T : Tree F) → Shows slots K m T → (k : ℕ) → k < job_places → running (at m k) ≡ true → job_ended M m ≡ false
    running_open m T s k h r =
        by-test (job_ended M m)
        (λ o. clash r (ended_idle M K laws T m s o k (omega (arith, laws.places_power, laws.places_fit)))) (λ o. o)

    module _ (spans : SpanLaws M K.Empty span) (n t low : ℕ) (lowest : low ≤ suc n) where
      -- one pick of a round
      module _ (i k : ℕ) (ks : List ℕ) (m : S) (v : Mid n t low i (k ∷ ks) m) (from : i ≤ k) (below : k < job_places) (q : Waits n t (at m k))
          (rest : Ready M (Waits n t) m job_places (suc k) ks) (c : can_pick M m k ≡ true) where
        below' : k < 2 ^ D
        below' = omega (arith, laws.places_power)

        abbrev m' : S
        m' = tick (carry slots step m k)

        effect : Effect M span m k (suc (span (at m k))) m'
        effect = carried M K laws span spans m v.tree v.shows k below' q.0

        -- a running task has waited since the round's start, or was carried on from a span of n or more
        lows_after : (j : ℕ) → j < size → running (at m' j) ≡ true → Fate M span m k (suc (span (at m k))) m' j
            → Among j ks ⊎ (low ≤ span (at m' j))
        lows_after j h r (stood x e) = go (v.lows j h (rw (← e) r))
          where
            go : Among j (k ∷ ks) ⊎ (low ≤ span (at m j)) → Among j ks ⊎ (low ≤ span (at m' j))
            go (inl (inl y)) = absurd (x y)
            go (inl (inr y)) = inl y
            go (inr y) = inr (rw e y)
        lows_after j h r (vacated x e) = clash (rw e at r) (laws.empty_idle vacant laws.vacant_empty)
        lows_after j h r (raised x) = inr (omega (arith, q.1))

        picked : Mid n t low (suc k) ks (pick M m k)
        picked =
            let l = pick-shows M K laws once m v.tree k v.shows in
            let e : pick M m k ≡ m' = pick-carried M m k c in
            record {
              tree = l.tree;
              shows = l.shows;
              ready = rw e (ready-kept M m' (λ f x. x.0) (λ j x. effect.kept j (omega arith)) rest);
              lows = rw e (λ j h r. lows_after j h r (effect.fate j));
              highs = rw e (carried_high M K laws span spans m v.tree v.shows k below' q.0 t v.highs q.2);
              last = rw e
                  (λ o. let u = last-span M K laws span spans m v.tree v.shows k below' q.0 o in omega (arith, u, q.1));
            }

      -- a round is carried out to its end, and every pick of it, unless the limit stops it
      abbrev Carried : S → List ℕ → Type 0
      Carried m ks = (j : ℕ) × Mid n t low j [] (play M m ks) × (work (play M m ks) ≡ work m + length ks)

      plays : (ks : List ℕ) (m : S) (i : ℕ) → Ready M (Waits n t) m job_places i ks → Mid n t low i ks m → Carried m ks ⊎ Stuck M (play M m ks)
      unfolding play
      plays [] m i none v = inl (i, v, omega arith)
      plays (k ∷ ks) m i (next x y q r) v =
          by-below (work m) limit
          (λ h.
          let c = parts_can M m k y q.0 h in
          let p = picked i k ks m v x y q r c in
          let w : work (pick M m k) ≡ work m + 1 =
          ap work (pick-carried M m k c) ∙ carried_work M laws.put_work laws.tick_work m k in
          one_more_lem w (plays ks (pick M m k) (suc k) p.ready p))
          (λ h. inr (rw (stays M (k ∷ ks) m h) record { at_limit = h; open_job = running_open m v.tree v.shows k y q.0 }))
        where
          one_more_lem : work (pick M m k) ≡ work m + 1 → Carried (pick M m k) ks ⊎ Stuck M (play M (pick M m k) ks)
              → Carried m (k ∷ ks) ⊎ Stuck M (play M m (k ∷ ks))
          one_more_lem w (inl u) = inl (u.0, u.1, omega (arith, w, u.2))
          one_more_lem w (inr u) = inr u

      pub played : (ks : List ℕ) (i : ℕ) (m : S) → Mid n t low i ks m
          → ((j : ℕ) × Mid n t low j [] (play M m ks) × (work (play M m ks) ≡ work m + length ks)) ⊎ Stuck M (play M m ks)
      played ks i m v = plays ks m i v.ready v
