-- Every job that start accepts, on every number of lanes but 0 and with every budget of rounds: the bound, against the plain evaluation.
use Prim.Native.Nat.{ℕ, ◌<◌}
use mathlib.Core.Path.{◌≡◌, sym, ◌∙◌, subst⁻¹}
use mathlib.Core.List.{List}
use native.Mathlib.Omega.{arith}
use Rattle.agreement.specs.Picks.{Model, once}
use Rattle.agreement.specs.Picks as model
use Rattle.lanes.specs.Rounds.{Dispatched, round_of, round}
use Rattle.lanes.specs.OnLanes.{OnLanes}
use Rattle.lanes.proofs.Budgets.{budgets_add}
use Rattle.lanes.proofs.OnLanesLaws.{its_on_lanes}
use Rattle.task.specs.declared.Frame.{Frame}
use Rattle.task.specs.Frames.{integers, start_frame}
use Rattle.drive.specs.declared.State.{State}
use Rattle.drive.specs.Slots.{at}
use Rattle.drive.specs.Settings.{rank}
use Rattle.drive.specs.Ending.{job_ended}
use Rattle.drive.proofs.Models.{forms_of, laws_hold}
use Rattle.drive.proofs.Quiet.{fits-ended}
use Rattle.machine.proofs.StartLaws.{fresh_work, fresh-shows, fresh-fits}
use Rattle.orders.specs.Demand.{Job, played}
use Rattle.orders.proofs.Plays.{FitsJob, fresh_job, JobAccepted, job_accepted, started_job, play-fits, played_is, carried_out_is}
use Rattle.rounds.specs.Jobs.{machine_of, span, dispatched, RoundsPlayed, JobOnLanes, EveryJobOnLanes, RoundsAdd}
use Rattle.rounds.proofs.Machine.{spans_hold}

module _ {j : Job} (start : JobAccepted j) where
  abbrev M : Model Frame State
  M = machine_of j

  abbrev m₀ : State
  m₀ = fresh_job j

  x₀ : FitsJob j m₀
  x₀ = fresh-fits start

  -- no span is above the work, which is 0 at the start
  fresh-span : (i : ℕ) → span (at m₀ i) ≡ 0
  fresh-span i = omega (arith, (x₀.counts i).span_most, fresh_work j.places j.interval j.registers)

  module _ (lanes : ℕ) (some_lane : 0 < lanes) (budget : ℕ) where
    -- of the model, as `lanes` has it
    pub job_on_lanes : OnLanes (machine_of j) span (fresh_job j) (start_frame j.places (integers j.registers)) lanes budget
        (dispatched j lanes budget (fresh_job j))
    job_on_lanes =
        its_on_lanes M (forms_of j.cells (rank j.places)) (laws_hold start.allowed j.words) span
        (spans_hold j.cells j.words j.interval j.places) m₀ (start_frame j.places (integers j.registers))
        (fresh-shows start) (fresh_work j.places j.interval j.registers) fresh-span lanes some_lane budget

    abbrev d : Dispatched State
    d = dispatched j lanes budget m₀

    fits : FitsJob j d.state
    fits = subst⁻¹ (FitsJob j) job_on_lanes.leads_here (play-fits start job_on_lanes.order m₀ x₀)

    -- whether the job has ended is as the model has it
    ended : job_ended d.state ≡ model.job_ended M d.state
    ended = fits-ended start.allowed j.words d.state fits

    from_fresh : JobOnLanes j m₀ lanes budget d
    from_fresh =
        let l = job_on_lanes in
        record {
          order = l.order;
          leads_here = l.leads_here ∙ sym (played_is start l.order m₀ x₀);
          all_carried_out = carried_out_is start once l.order m₀ x₀ ∙ l.all_carried_out;
          work_counted = l.work_counted;
          its_within_budget = l.its_within_budget;
          spent_when = λ o. l.spent_when (sym ended ∙ o);
          ended_as_evaluated = λ o. let t = l.ended_as_evaluated (sym ended ∙ o) in record { evaluates = t.0; within_limit = t.1 };
          ended_bounded = λ o. l.ended_bounded (sym ended ∙ o);
          enough = λ e W t h. ended ∙ l.enough e W t.evaluates t.within_limit h;
        }

  -- after every order the state is one of the job, and so a list is played as the model plays it
  round-played : (ks : List ℕ) (lanes : ℕ) → round M lanes (played j m₀ ks) ≡ played j (played j m₀ ks) (round_of M lanes (played j m₀ ks))
  round-played ks lanes =
      sym (played_is start (round_of M lanes (played j m₀ ks)) (played j m₀ ks)
      (subst⁻¹ (FitsJob j) (played_is start ks m₀ x₀) (play-fits start ks m₀ x₀)))

pub rounds-played : RoundsPlayed
rounds-played j a m ks lanes =
    subst⁻¹ (λ n. round (machine_of j) lanes (played j n ks) ≡ played j (played j n ks) (round_of (machine_of j) lanes (played j n ks)))
    (started_job j a m) (round-played (job_accepted j a) ks lanes)

pub every_job_on_lanes : EveryJobOnLanes
every_job_on_lanes j a m lanes some_lane budget =
    subst⁻¹ (λ n. JobOnLanes j n lanes budget (dispatched j lanes budget n)) (started_job j a m)
    (from_fresh (job_accepted j a) lanes some_lane budget)

pub rounds_add : RoundsAdd
rounds_add j lanes a b m = budgets_add (machine_of j) lanes a b m
