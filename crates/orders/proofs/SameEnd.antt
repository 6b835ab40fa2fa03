-- From a fresh start a run of budget a + b and two runs of budgets a and b carry out as many picks, and end the job in the same state, or
-- neither ends it.
use Prim.Native.Nat.{ℕ, ◌+◌, ◌<◌, ◌≤◌}
use mathlib.Core.Path.{◌≡◌, refl, sym, ap, ◌∙◌, subst⁻¹}
use mathlib.Core.Logic.{◌⊎◌, inl, inr}
use mathlib.Core.Bool.{true, false}
use mathlib.Core.List.{List, [], ◌++◌}
use native.Mathlib.Omega.{arith}
use Rattle.facts.proofs.Tests.{clash, by-test, by-below}
use Rattle.agreement.specs.Plain.{Ran, out, ran}
use Rattle.task.specs.declared.Frame.{Frame}
use Rattle.drive.specs.declared.State.{State}
use Rattle.drive.specs.Ending.{job_ended}
use Rattle.task.specs.Frames.{work_limit}
use Rattle.drive.specs.Courses.{Run}
use Rattle.orders.specs.Demand.{Job, Accepted, start_on, played_of, played, carried_out_of, evaluation, Ends, Agrees}
use Rattle.orders.specs.Runs.{IsRun, run, EndsAlike, SameEnd}
use Rattle.orders.proofs.Plays.{played-on}
use Rattle.orders.proofs.Demand.{demand_3}
use Rattle.orders.proofs.Complete.{complete_orders_agree}
use Rattle.orders.proofs.Shapes.{every_order_meets}
use Rattle.orders.proofs.Runs.{order_passes, run_is_order}

-- whether the evaluation ends within the limit
by-ends : {A : Type 0} (j : Job) → ((e : Frame) (W : ℕ) → Ends j e W → A) → (((e : Frame) (W : ℕ) → Ends j e W → ⊥) → A) → A
by-ends {A} j some none = by (evaluation j work_limit) refl
  where
    by : (x : Ran Frame) → evaluation j work_limit ≡ x → A
    by out t = none (λ e W h. let z : ◌≡◌ {A = Ran Frame} out (ran e W) = sym t ∙ h.evaluates in let n : ◌≡◌ {A = ℕ} 0 1 = cc in omega arith)
    by (ran e W) t =
        by-below work_limit W
        (λ over. none (λ f U h. let z : ran e W ≡ ran f U = sym t ∙ h.evaluates in let n : W ≡ U = cc in omega (arith, h.within_limit)))
        (λ within. some e W (record { evaluates = t; within_limit = within }))

module _ (j : Job) (accepted : Accepted j) (m : State) where
  -- the state n comes of c picks from the start, or of fewer if no more can be picked
  record Spends (c : ℕ) (n : State) : Type 0 where
    order : List ℕ
    leads_here : n ≡ played j (start_on j m) order
    its_within_budget : n.work ≤ c
    within_limit : n.work ≤ work_limit
    spent_when : job_ended n ≡ false → (n.work ≡ c) ⊎ (work_limit ≤ n.work)

  module _ {c : ℕ} where
    agrees : {n : State} → Spends c n → (e : Frame) (W : ℕ) → Ends j e W → Agrees j n e W
    agrees x e W t = subst⁻¹ (λ (n : State). Agrees j n e W) x.leads_here ((demand_3 j accepted m x.order).where_it_ends e W t)

    -- not enough for the whole evaluation
    too_few : {n : State} → Spends c n → (e : Frame) (W : ℕ) → Ends j e W → job_ended n ≡ false → (n.work ≡ c) × (c < W)
    too_few {n} x e W t o = by-below n.work W (λ h. by h (x.spent_when o)) (λ h. clash (a.ended_when_equal (omega (arith, a.work_never_above))) o)
      where
        a : Agrees j n e W
        a = agrees x e W t

        by : n.work < W → (n.work ≡ c) ⊎ (work_limit ≤ n.work) → (n.work ≡ c) × (c < W)
        by h (inl s) = (s, omega arith)
        by h (inr s) = absurd (omega (arith, t.within_limit))

    -- enough for it
    enough : {n : State} → Spends c n → (e : Frame) (W : ℕ) → Ends j e W → job_ended n ≡ true → (n.work ≡ W) × (W ≤ c)
    enough {n} x e W t o = let w = (agrees x e W t).equal_when_ended o in (w, omega (arith, x.its_within_budget))

    -- none is enough where the evaluation does not end
    never : {n : State} → Spends c n → ((e : Frame) (W : ℕ) → Ends j e W → ⊥) → job_ended n ≡ false
    never x none = ap job_ended x.leads_here ∙ ((demand_3 j accepted m x.order).where_it_does_not_end none).never_ended

    module _ {n o : State} (x : Spends c n) (y : Spends c o) where
      -- as much work, and both have ended or neither has
      same : (n.work ≡ o.work) × (job_ended n ≡ job_ended o)
      same = by-ends j where_it_ends where_it_does_not_end
        where
          where_it_ends : (e : Frame) (W : ℕ) → Ends j e W → (n.work ≡ o.work) × (job_ended n ≡ job_ended o)
          where_it_ends e W t = by-test (job_ended n)
              (λ p. by-test (job_ended o) (λ q. ((enough x e W t p).0 ∙ sym (enough y e W t q).0, p ∙ sym q))
              (λ q. absurd (omega (arith, (enough x e W t p).1, (too_few y e W t q).1))))
              (λ p. by-test (job_ended o) (λ q. absurd (omega (arith, (too_few x e W t p).1, (enough y e W t q).1)))
              (λ q. ((too_few x e W t p).0 ∙ sym (too_few y e W t q).0, p ∙ sym q)))

          both : (n.work ≡ c) ⊎ (work_limit ≤ n.work) → (o.work ≡ c) ⊎ (work_limit ≤ o.work) → n.work ≡ o.work
          both (inl p) (inl q) = omega arith
          both (inl p) (inr q) = omega (arith, x.within_limit, y.its_within_budget)
          both (inr p) (inl q) = omega (arith, x.its_within_budget, y.within_limit)
          both (inr p) (inr q) = omega (arith, x.within_limit, y.within_limit)

          where_it_does_not_end : ((e : Frame) (W : ℕ) → Ends j e W → ⊥) → (n.work ≡ o.work) × (job_ended n ≡ job_ended o)
          where_it_does_not_end none = (both (x.spent_when (never x none)) (y.spent_when (never y none)), never x none ∙ sym (never y none))

      -- then in the same state
      same_when_ended : job_ended n ≡ true → job_ended o ≡ true → n ≡ o
      same_when_ended p q =
          x.leads_here
          ∙ (complete_orders_agree j accepted m x.order y.order (sym (ap job_ended x.leads_here) ∙ p) (sym (ap job_ended y.leads_here) ∙ q)).same_state
          ∙ sym y.leads_here

  -- ---- both ways to spend a budget

  start_work : (start_on j m).work ≡ 0
  unfolding played_of carried_out_of
  start_work = (demand_3 j accepted m []).work_counted

  in_one : {c : ℕ} {r : Run ℕ} → IsRun j (start_on j m) c r → Spends c r.state
  in_one {c} {r} x =
      let o = x.is_order in
      record {
        order = o.order;
        leads_here = o.leads_here;
        its_within_budget = omega (arith, start_work, o.rise_in_work, o.its_within_budget);
        within_limit = o.within_limit (omega (arith, start_work));
        spent_when = λ open-still. by (x.spent_when open-still);
      }
    where
      by : (r.picks ≡ c) ⊎ (work_limit ≤ r.state.work) → (r.state.work ≡ c) ⊎ (work_limit ≤ r.state.work)
      by (inl p) = inl (omega (arith, start_work, x.is_order.rise_in_work))
      by (inr p) = inr p

  in_two : {a b : ℕ} {r s : Run ℕ} → IsRun j (start_on j m) a r → IsRun j r.state b s → Spends (a + b) s.state
  in_two {a} {b} {r} {s} x y =
      let o = x.is_order in
      let p = y.is_order in
      record {
        order = o.order ++ p.order;
        leads_here = p.leads_here ∙ ap (λ (n : State). played j n p.order) o.leads_here ∙ sym (played-on j o.order p.order (start_on j m));
        its_within_budget = omega (arith, start_work, o.rise_in_work, o.its_within_budget, p.rise_in_work, p.its_within_budget);
        within_limit = p.within_limit (o.within_limit (omega (arith, start_work)));
        spent_when = λ open-still. by (x.spent_when (open_before open-still)) (y.spent_when open-still);
      }
    where
      open_before : job_ended s.state ≡ false → job_ended r.state ≡ false
      open_before o = by-test (job_ended r.state) (λ e. clash (ap job_ended (y.is_order.ended_before e).same_state ∙ e) o) (λ e. e)

      by : (r.picks ≡ a) ⊎ (work_limit ≤ r.state.work) → (s.picks ≡ b) ⊎ (work_limit ≤ s.state.work)
          → (s.state.work ≡ a + b) ⊎ (work_limit ≤ s.state.work)
      by (inl p) (inl q) = inl (omega (arith, start_work, x.is_order.rise_in_work, y.is_order.rise_in_work))
      by (inl p) (inr q) = inr q
      by (inr p) q = inr (omega (arith, y.is_order.rise_in_work))

  alike : {a b : ℕ} {first second whole : Run ℕ} → IsRun j (start_on j m) a first → IsRun j first.state b second
      → IsRun j (start_on j m) (a + b) whole → EndsAlike first second whole
  alike x y w =
      let two = in_two x y in
      let one = in_one w in
      let both = same two one in
      record {
        picks_add = omega (arith, start_work, x.is_order.rise_in_work, y.is_order.rise_in_work, w.is_order.rise_in_work, both.0);
        both_end = both.1;
        its_same_end = λ e. same_when_ended two one (both.1 ∙ e) e;
      }

  after_order : (ks : List ℕ) (b : ℕ) → IsRun j (played j (start_on j m) ks) b (run j (played j (start_on j m) ks) b)
  after_order ks b = run_is_order j (played j (start_on j m) ks) (every_order_meets j accepted m ks).sized (order_passes j accepted m ks) 0 b

  from_start : (b : ℕ) → IsRun j (start_on j m) b (run j (start_on j m) b)
  unfolding played_of
  from_start b = after_order [] b

pub its_same_end : SameEnd
its_same_end j accepted m a b =
    let first = from_start j accepted m a in
    alike j accepted m first
    (subst⁻¹ (λ (n : State). IsRun j n b (run j n b)) first.is_order.leads_here (after_order j accepted m first.is_order.order b))
    (from_start j accepted m (a + b))
