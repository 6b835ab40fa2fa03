-- Whatever the order of picks: the work is the number of picks carried out. Where the plain evaluation ends within the limit, the work is
-- never above its work, the job has ended just where they are equal, then with the same end, fault number, registers, work and span, and
-- before that a task can be picked. Where it does not, no order ends the job, and a task can be picked while the work is below the limit.
use Prim.Native.Nat.{ℕ, ◌<◌}
use mathlib.Core.Path.{◌≡◌, sym, ap, ◌∙◌, subst⁻¹}
use mathlib.Core.Bool.{true, false}
use mathlib.Core.List.{List}
use Rattle.agreement.proofs.EvalLaws.{eval_any_fuel}
use Rattle.agreement.specs.Picks.{Model, rules, once, can_pick, play}
use Rattle.agreement.specs.Picks as model
use Rattle.agreement.specs.Demand.{Ordered}
use Rattle.agreement.specs.Demand as model-demand
use Rattle.agreement.proofs.DemandLaws.{ordered}
use Rattle.task.specs.declared.Frame.{Frame}
use Rattle.task.specs.Frames.{vacant, integers, start_frame, work_limit}
use Rattle.drive.specs.declared.State.{State}
use Rattle.drive.specs.Slots.{at}
use Rattle.drive.specs.Ending.{end_of, job_ended}
use Rattle.drive.specs.Settings.{rank}
use Rattle.drive.proofs.Models.{forms_of, laws_hold}
use Rattle.drive.proofs.Quiet.{fits-ended}
use Rattle.machine.proofs.PickLaws.{can_accepted}
use Rattle.machine.proofs.StartLaws.{fresh_work, fresh-shows, fresh-fits}
use Rattle.orders.specs.Demand.{Job, played, Pickable, SameResult, Agrees, Unending, WhateverTheOrder, Demand3, AnyFuel}
use Rattle.orders.proofs.Plays.{model_of_job, FitsJob, fresh_job, JobAccepted, job_accepted, started_job, play-fits, played_is, carried_out_is}

abbrev first_frame : Job → Frame
first_frame j = start_frame j.places (integers j.registers)

module _ {j : Job} (start : JobAccepted j) where
  abbrev M : Model Frame State
  M = model_of_job j

  -- a state of the job, and what the model says of it
  module _ (m : State) (x : FitsJob j m) where
    ended_here : job_ended m ≡ model.job_ended M m
    ended_here = fits-ended start.allowed j.words m x

    pickable-here : (k : ℕ) × (can_pick M m k ≡ true) → Pickable j m
    pickable-here t = (t.0, can_accepted start.allowed start.lent m t.0 x t.1)

    result-here : (e : Frame) (W : ℕ) → at m 0 ≡ e → m.work ≡ W → SameResult m e W
    result-here e W t w = record {
      its_same_end = ap end_of t;
      same_registers = ap (λ f. f.registers) t;
      same_span = ap (λ f. f.task.span) t;
      same_work = w;
      same_task = t;
    }

    agrees-here : (e : Frame) (W : ℕ) → model-demand.Agrees M (λ f. f ≡ vacant) m e W → Agrees j m e W
    agrees-here e W a = record {
      work_never_above = a.work_never_above;
      ended_when_equal = λ w. ended_here ∙ a.ended_when_equal w;
      equal_when_ended = λ o. a.equal_when_ended (sym ended_here ∙ o);
      then_same_result = λ o. result-here e W (a.first_slot (sym ended_here ∙ o)) (a.equal_when_ended (sym ended_here ∙ o));
      before_that_pickable = λ w. pickable-here (a.before_that_pickable w);
    }

    unending_here : model.job_ended M m ≡ false → (m.work < work_limit → (k : ℕ) × (can_pick M m k ≡ true)) → Unending j m
    unending_here o run = record { never_ended = ended_here ∙ o; below_limit_pickable = λ w. pickable-here (run w) }

  -- an order from the start
  from_fresh : (ks : List ℕ) → WhateverTheOrder j (fresh_job j) ks
  from_fresh ks =
      let m₀ = fresh_job j in
      let x₀ = fresh-fits start in
      let m = play M m₀ ks in
      let x = play-fits start ks m₀ x₀ in
      let after : played j m₀ ks ≡ m = played_is start ks m₀ x₀ in
      let order : Ordered M (λ f. f ≡ vacant) m₀ (first_frame j) ks =
      ordered M (forms_of j.cells (rank j.places)) (laws_hold start.allowed j.words) m₀ (first_frame j) (fresh-shows start)
      (fresh_work j.places j.interval j.registers) ks in
      record {
        work_counted = ap (λ n. n.work) after ∙ order.work_counted ∙ sym (carried_out_is start once ks m₀ x₀);
        where_it_ends = λ e W t.
            subst⁻¹ (λ n. Agrees j n e W) after (agrees-here m x e W (order.agrees e W t.evaluates t.within_limit));
        where_it_does_not_end = λ never.
            let o = order.not_ended_elsewhere (λ e W t l. never e W (record { evaluates = t; within_limit = l })) in
            subst⁻¹ (Unending j) after (unending_here m x o (order.below_limit_pickable o));
      }

pub any_fuel : AnyFuel
any_fuel j fuel e W t l =
    record { evaluates = eval_any_fuel (rules (model_of_job j)) fuel work_limit (first_frame j) e W t l; within_limit = l }

pub demand_3 : Demand3
demand_3 j a m ks = subst⁻¹ (λ n. WhateverTheOrder j n ks) (started_job j a m) (from_fresh (job_accepted j a) ks)
