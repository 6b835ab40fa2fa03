-- Any machine that meets demand 3: where the plain evaluation ends with the work W, an order leads to each work up to W.
use Prim.Native.Nat.{ℕ, zero, suc, ◌+◌, ◌<◌}
use mathlib.Core.Path.{◌≡◌, refl, sym, ap, ◌∙◌, subst⁻¹}
use mathlib.Core.List.{List, [], ◌∷◌, ◌++◌}
use native.Mathlib.Omega.{arith}
use Rattle.agreement.specs.Picks.{once}
use Rattle.task.specs.declared.Frame.{Frame}
use Rattle.drive.specs.declared.State.{State}
use Rattle.orders.specs.Demand.{Job, Engine, AcceptedOf, start_of, played_of, carried_out_of, Ends, AgreesOf, Demand3Of}

module _ (engine : Engine) (j : Job) where
  open j use {cells, words}

  -- one pick more
  played-more : (ks : List ℕ) (m : State) (k : ℕ)
      → played_of engine j m (ks ++ (k ∷ [])) ≡ engine.picked cells words (played_of engine j m ks) k
  unfolding played_of
  played-more [] m k = refl
  played-more (i ∷ ks) m k = played-more ks (engine.picked cells words m i) k

  carried-more : (ks : List ℕ) (m : State) (k : ℕ) → engine.pick_no cells words (played_of engine j m ks) k ≡ 0
      → carried_out_of engine j once m (ks ++ (k ∷ [])) ≡ carried_out_of engine j once m ks + 1
  unfolding played_of carried_out_of
  carried-more [] m k e = rw e
  carried-more (i ∷ ks) m k e =
      let rest = carried-more ks (engine.picked cells words m i) k e in
      omega (arith, rest)

-- n is the state after some order, and its work is w
pub record Reached (engine : Engine) (j : Job) (m₀ n : State) (w : ℕ) : Type 0 where
  pub order : List ℕ
  pub leads_here : n ≡ played_of engine j m₀ order
  pub its_work : n.work ≡ w

-- a state that some order leads to, with the work w, and a pick that is carried out there
pub record Next (engine : Engine) (j : Job) (m₀ : State) (w : ℕ) : Type 0 where
  pub state : State
  pub reached : Reached engine j m₀ state w
  pub slot : ℕ
  pub its_carried_out : engine.pick_no j.cells j.words state slot ≡ 0

module _ (engine : Engine) (demand : Demand3Of engine) (j : Job) (accepted : AcceptedOf engine j) (m : State) where
  open j use {cells, words}

  pub starts : Reached engine j (start_of engine j m) (start_of engine j m) 0
  unfolding played_of carried_out_of
  starts = record { order = []; leads_here = refl; its_work = (demand j accepted m []).work_counted }

  pub its_goes_on : {n : State} {w : ℕ} → Reached engine j (start_of engine j m) n w → (k : ℕ) → engine.pick_no cells words n k ≡ 0
      → Reached engine j (start_of engine j m) (engine.picked cells words n k) (w + 1)
  its_goes_on {n} {w} r k e =
      let m₀ = start_of engine j m in
      let here = r.leads_here in
      let more = played-more engine j r.order m₀ k in
      let leads : engine.picked cells words n k ≡ played_of engine j m₀ (r.order ++ (k ∷ [])) =
      ap (λ (x : State). engine.picked cells words x k) here ∙ sym more in
      let carried = carried-more engine j r.order m₀ k (ap (λ (x : State). engine.pick_no cells words x k) (sym here) ∙ e) in
      let before = ap (λ (x : State). x.work) here ∙ (demand j accepted m r.order).work_counted in
      let after = ap (λ (x : State). x.work) leads ∙ (demand j accepted m (r.order ++ (k ∷ []))).work_counted in
      record { order = r.order ++ (k ∷ []); leads_here = leads; its_work = omega (arith, before, after, carried, r.its_work) }

  module _ (e : Frame) (W : ℕ) (ends : Ends j e W) where
    pub agrees : {n : State} {w : ℕ} → Reached engine j (start_of engine j m) n w → AgreesOf engine j n e W
    agrees r = subst⁻¹ (λ n. AgreesOf engine j n e W) r.leads_here ((demand j accepted m r.order).where_it_ends e W ends)

    next : {n : State} {w : ℕ} → Reached engine j (start_of engine j m) n w → w < W → Next engine j (start_of engine j m) w
    next {n} r h =
        let p = (agrees r).before_that_pickable (omega (arith, r.its_work)) in
        record { state = n; reached = r; slot = p.0; its_carried_out = p.1 }

    -- below W
    pub reaches : (w : ℕ) → w < W → Next engine j (start_of engine j m) w
    reaches zero h = next starts h
    reaches (suc w) h =
        let n = reaches w (omega arith) in
        let r = its_goes_on n.reached n.slot n.its_carried_out in
        next (record { order = r.order; leads_here = r.leads_here; its_work = r.its_work ∙ omega arith }) h
