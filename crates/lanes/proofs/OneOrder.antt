-- A budget of rounds is one order of picks, none of which is refused.
use Prim.Native.Nat.{ℕ, zero, suc, ◌+◌, ◌-◌, ◌≤◌}
use mathlib.Core.Path.{◌≡◌, refl, sym, ap, ◌∙◌}
use mathlib.Core.Bool.{true, false}
use mathlib.Core.List.{List, [], ◌∷◌, ◌++◌}
use native.Mathlib.Omega.{arith}
use lib.ListN.{length, length-append, take}
use Rattle.facts.proofs.Tests.{by-test}
use Rattle.agreement.proofs.Trees.{Tree}
use Rattle.agreement.specs.Picks.{Model, once, pick, play, carried_out}
use Rattle.agreement.proofs.PickLaws.{parts_can, pick-carried, carried_work, play_limit}
use Rattle.agreement.proofs.Laws.{Forms, Laws}
use Rattle.agreement.proofs.Holds.{Shows}
use Rattle.agreement.proofs.OrderLaws.{play-shows}
use Rattle.lanes.specs.Rounds.{round_of, round, goes_on, dispatch}
use Rattle.lanes.specs.Spans.{SpanLaws}
use Rattle.lanes.proofs.Turns.{InTurn, round-turns}
use Rattle.lanes.proofs.Playing.{stays}
use Rattle.lanes.proofs.Budgets.{dispatch-none, dispatch-goes, dispatch-stops}

module _ {F S : Type 0} (M : Model F S) where
  open M use {slots, limit, work}

  -- the picks of a round that the limit leaves room for
  abbrev round_picks : ℕ → S → List ℕ
  round_picks lanes m = take (limit - work m) (round_of M lanes m)

  -- the picks of a budget of rounds, as one order
  unfoldable pub order_of : ℕ → ℕ → S → List ℕ
  order_of lanes zero m = []
  order_of lanes (suc budget) m = elim (goes_on M m) [
    | true ↦ round_picks lanes m ++ order_of lanes budget (round M lanes m)
    | false ↦ []
  ]

  order_none : (lanes budget : ℕ) (m : S) → goes_on M m ≡ false → order_of lanes budget m ≡ []
  unfolding order_of
  order_none lanes zero m h = refl
  order_none lanes (suc budget) m h = rw (h, order_of)

  order_goes : (lanes budget : ℕ) (m : S) → goes_on M m ≡ true
      → order_of lanes (suc budget) m ≡ round_picks lanes m ++ order_of lanes budget (round M lanes m)
  unfolding order_of
  order_goes lanes budget m h = rw (h, order_of)

  order_start : (lanes : ℕ) (m : S) → order_of lanes 0 m ≡ []
  unfolding order_of
  order_start lanes m = refl

  play-append : (ks ls : List ℕ) (m : S) → play M m (ks ++ ls) ≡ play M (play M m ks) ls
  unfolding play
  play-append [] ls m = refl
  play-append (k ∷ ks) ls m = play-append ks ls (pick M m k)

  carried-append : (count : ℕ → ℕ) (ks ls : List ℕ) (m : S)
      → carried_out M count m (ks ++ ls) ≡ carried_out M count m ks + carried_out M count (play M m ks) ls
  unfolding play carried_out
  carried-append count [] ls m = omega arith
  carried-append count (k ∷ ks) ls m = omega (arith, carried-append count ks ls (pick M m k))

  -- ks leads from m to m', and no pick of it is refused
  pub record Leads (m : S) (ks : List ℕ) (m' : S) : Type 0 where
    pub here : m' ≡ play M m ks
    pub all_carried_out : carried_out M once m ks ≡ length ks

  leads_none : (m : S) → Leads m [] m
  unfolding play carried_out
  leads_none m = record { here = refl; all_carried_out = refl }

  leads_on : {m m₁ m₂ : S} {ks ls : List ℕ} → Leads m ks m₁ → Leads m₁ ls m₂ → Leads m (ks ++ ls) m₂
  leads_on {m} {m₁} {m₂} {ks} {ls} a b = record {
    here = b.here ∙ ap (λ (x : S). play M x ls) a.here ∙ sym (play-append ks ls m);
    all_carried_out =
        carried-append once ks ls m
        ∙ (rw (← a.here, a.all_carried_out, b.all_carried_out) (sym (length-append ks ls)));
  }

  module _ (K : Forms F S) (laws : Laws M K) (span : F → ℕ) (spans : SpanLaws M K.Empty span) where
    -- the picks that the limit leaves room for lead where the whole round does
    trimmed : (ks : List ℕ) (m : S) → InTurn M m ks → (n : ℕ) → n ≡ limit - work m → work m ≤ limit → Leads m (take n ks) (play M m ks)
    unfolding play carried_out
    trimmed [] m t zero e h = leads_none m
    trimmed [] m t (suc n) e h = leads_none m
    trimmed (k ∷ ks) m t zero e h = rw (stays M (k ∷ ks) m (omega arith)) (leads_none m)
    trimmed (k ∷ ks) m t (suc n) e h =
        let c = parts_can M m k t.0 t.1 (omega arith) in
        let w : work (pick M m k) ≡ work m + 1 = ap work (pick-carried M m k c) ∙ carried_work M laws.put_work laws.tick_work m k in
        let l = trimmed ks (pick M m k) t.2 n (omega (arith, w)) (omega (arith, w)) in
        record { here = l.here; all_carried_out = rw c (omega (arith, l.all_carried_out)) }

    pub one_order : (lanes budget : ℕ) (m : S) (T : Tree F) → Shows slots K m T → work m ≤ limit
        → Leads m (order_of lanes budget m) (dispatch M lanes budget m).state
    one_order lanes zero m T s h = rw (dispatch-none M lanes m, order_start lanes m) (leads_none m)
    one_order lanes (suc budget) m T s h =
        by-test (goes_on M m)
        (λ g.
        let l = play-shows M K laws once (round_of M lanes m) m T s in
        let most = play_limit M laws.put_work laws.tick_work (round_of M lanes m) m h in
        rw (dispatch-goes M lanes budget m g, order_goes lanes budget m g)
        (leads_on (trimmed (round_of M lanes m) m (round-turns M K laws span spans lanes m T s) (limit - work m) refl h)
        (one_order lanes budget (round M lanes m) l.tree l.shows most)))
        (λ g. rw (dispatch-stops M lanes (suc budget) m g, order_none lanes (suc budget) m g) (leads_none m))
