-- Every budget of rounds from a start meets the statement.
use Prim.Native.Nat.{ℕ, ◌+◌, ◌≤◌, ◌<◌}
use mathlib.Core.Path.{◌≡◌, refl, ap, ◌∙◌}
use mathlib.Core.Logic.{◌⊎◌, inl, inr}
use mathlib.Core.Bool.{true}
use native.Mathlib.Omega.{arith}
use Rattle.facts.proofs.Tests.{clash, by-test}
use Rattle.agreement.proofs.Trees.{leaf}
use Rattle.agreement.specs.Picks.{Model, job_ended}
use Rattle.agreement.proofs.Laws.{Forms, Laws}
use Rattle.agreement.proofs.Holds.{Shows}
use Rattle.agreement.specs.Demand.{Agrees, Ordered}
use Rattle.agreement.proofs.DemandLaws.{ordered}
use Rattle.lanes.specs.Rounds.{Dispatched, dispatch}
use Rattle.lanes.specs.Spans.{SpanLaws}
use Rattle.lanes.proofs.Budgets.{spent_when, its_within_budget}
use Rattle.lanes.proofs.OneOrder.{order_of, Leads, one_order}
use Rattle.lanes.proofs.Bound.{Counted, Came, dispatched, rounds-few, bounded}
use Rattle.lanes.specs.OnLanes.{Bounded, OnLanes}

module _ {F S : Type 0} (M : Model F S) (K : Forms F S) (laws : Laws M K) (span : F → ℕ) (spans : SpanLaws M K.Empty span) where
  open M use {slots, limit, work}
  open slots use {at}

  -- the start's one task is f₀, and no span is above 0
  module _ (m₀ : S) (f₀ : F) (s : Shows slots K m₀ (leaf f₀)) (w : work m₀ ≡ 0) (fresh : (i : ℕ) → span (at m₀ i) ≡ 0)
      (lanes : ℕ) (some_lane : 0 < lanes) (budget : ℕ) where
    abbrev d : Dispatched S
    d = dispatch M lanes budget m₀

    begin : Counted M K span lanes 0 m₀
    begin = record {
      tree = leaf f₀;
      shows = s;
      full = 0;
      short = 0;
      rounds = refl;
      at_least = omega arith;
      at_most = omega (arith, w);
      lows = λ i h r. omega arith;
      highs = λ i. omega (arith, fresh i);
      last = λ o. omega arith;
    }

    -- its picks, and demand 3 of them
    l : Leads M m₀ (order_of M lanes budget m₀) d.state
    l = one_order M K laws span spans lanes budget m₀ (leaf f₀) s (omega (arith, w))

    o : Ordered M K.Empty m₀ f₀ (order_of M lanes budget m₀)
    o = ordered M K laws m₀ f₀ s w (order_of M lanes budget m₀)

    came : Came M K span lanes d.rounds d.state
    came =
        let e : 0 + d.rounds ≡ d.rounds = omega arith in
        rw e at (dispatched M K span laws spans lanes some_lane budget 0 m₀ begin)

    in_bounds : job_ended M d.state ≡ true → Came M K span lanes d.rounds d.state
        → Bounded M span lanes d.rounds (at d.state 0) (work d.state)
    in_bounds e (inl v) = bounded M K span laws spans lanes some_lane d.rounds d.state v e
    in_bounds e (inr v) = clash e v.open_job

    -- where the evaluation ends within limit and budget, a budget that is spent has done all the work, and so the job has ended
    ends : (e : F) (W : ℕ) → Agrees M K.Empty d.state e W → W ≤ limit → W ≤ budget → Came M K span lanes d.rounds d.state
        → (d.rounds ≡ budget) ⊎ (limit ≤ work d.state) → job_ended M d.state ≡ true
    ends e W a h b c (inr x) = a.ended_when_equal (omega (arith, a.work_never_above))
    ends e W a h b (inl v) (inl x) =
        a.ended_when_equal (omega (arith, a.work_never_above, rounds-few M K span laws spans lanes some_lane d.rounds d.state v))
    ends e W a h b (inr v) (inl x) = a.ended_when_equal (omega (arith, a.work_never_above, v.at_limit))

    pub its_on_lanes : OnLanes M span m₀ f₀ lanes budget d
    its_on_lanes = record {
      order = order_of M lanes budget m₀;
      leads_here = l.here;
      all_carried_out = l.all_carried_out;
      work_counted = ap work l.here ∙ o.work_counted ∙ l.all_carried_out;
      its_within_budget = its_within_budget M lanes budget m₀;
      spent_when = spent_when M lanes budget m₀;
      ended_as_evaluated = rw l.here o.ended_as_evaluated;
      ended_bounded = λ e. in_bounds e came;
      enough = λ e W q h b. by-test (job_ended M d.state) (λ x. x)
          (λ x. ends e W (rw l.here (o.agrees e W q h)) h b came (spent_when M lanes budget m₀ x));
    }
