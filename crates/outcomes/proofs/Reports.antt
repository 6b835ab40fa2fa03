-- The report of an accepted job's run is that of its plain evaluation within what the budget allows. Where the evaluation's work is within
-- that, the run cannot stop before it, and demand 3 gives the rest; where it is not, the run has not ended, and used up what was allowed.
use Prim.Native.Nat.{ℕ, ◌-◌, ◌≤◌, ◌<◌}
use mathlib.Core.Path.{◌≡◌, refl, sym, ap, ◌∙◌, subst⁻¹}
use mathlib.Core.Logic.{◌⊎◌, inl, inr}
use mathlib.Core.Bool.{true, false}
use mathlib.Core.List.{[]}
use native.Mathlib.Omega.{arith}
use lib.Dec.{leb}
use borrow.Author.Tests.{leb-true, leb-false}
use Rattle.facts.proofs.Tests.{clash, never, by-test, by-below}
use Rattle.agreement.specs.Plain.{Ran, out, ran}
use Rattle.agreement.proofs.PlainLaws.{out_not_ran}
use Rattle.serial.specs.Serial.{spent, done, within_budget}
use Rattle.task.specs.declared.Frame.{Frame}
use Rattle.task.specs.Frames.{zeros, work_limit}
use Rattle.drive.specs.declared.State.{State}
use Rattle.drive.specs.declared.End.{End}
use Rattle.drive.specs.declared.End.TheVariants.{NotEnded, Halt, Fault}
use Rattle.drive.specs.Ending.{is_end, ending, job_ended}
use Rattle.drive.specs.Courses.{Run}
use Rattle.orders.specs.Demand.{Job, Accepted, start_on, played_of, carried_out_of, evaluation, Ends, SameResult, Agrees}
use Rattle.orders.specs.Runs.{IsRun, run}
use Rattle.orders.proofs.Demand.{demand_3}
use Rattle.orders.proofs.Shapes.{every_order_meets}
use Rattle.orders.proofs.Runs.{order_passes, run_is_order}
use Rattle.report.specs.Report.{report_of}
use Rattle.report.proofs.ReportLaws.{spent_report, ended_report}
use Rattle.outcomes.specs.Outcomes.{allowance, report_from, RunIsPlain}

-- ---- The report of a state, by whether the job has ended there

not_ended : (end : End) → is_end end ≡ false → NotEnded ≡ end
not_ended NotEnded o = refl
not_ended Halt o = clash refl o
not_ended (Fault n) o = clash refl o

module _ (s : State) (picks n : ℕ) (counted : picks ≡ s.work) where
  -- all of n was used up
  report_spent : job_ended s ≡ false → s.work ≡ n → report_of s picks ≡ report_from n spent
  report_spent o all =
      sym (spent_report s picks NotEnded (not_ended (ending s) o) refl)
      ∙ (λ i. record { end = NotEnded; picks = (counted ∙ all) i; work = all i; span = 0; registers = zeros })

  -- the job has ended as an evaluation of the work W did
  report_done : (e : Frame) (W : ℕ) → job_ended s ≡ true → SameResult s e W → W ≤ n
      → report_of s picks ≡ report_from n (done e (n - W))
  report_done e W o same fits =
      let rest : W ≡ n - (n - W) = omega (arith, fits) in
      let work = same.same_work ∙ rest in
      sym (ended_report s picks (ending s) refl _ refl o)
      ∙ (λ i. record {
        end = same.its_same_end i;
        picks = (counted ∙ work) i;
        work = work i;
        span = same.same_span i;
        registers = same.same_registers i;
      })

-- ---- The run

module _ (j : Job) (accepted : Accepted j) (m : State) (budget : ℕ) where
  abbrev r : Run ℕ
  r = run j (start_on j m) budget

  abbrev s : State
  s = r.state

  abbrev n : ℕ
  n = allowance budget

  is_run : IsRun j (start_on j m) budget r
  unfolding played_of
  is_run = run_is_order j (start_on j m) (every_order_meets j accepted m []).sized (order_passes j accepted m []) 0 budget

  start_work : (start_on j m).work ≡ 0
  unfolding played_of carried_out_of
  start_work = (demand_3 j accepted m []).work_counted

  counted : r.picks ≡ s.work
  counted = omega (arith, start_work, is_run.is_order.rise_in_work)

  within-allowance : s.work ≤ n
  within-allowance =
      let o = is_run.is_order in
      omega (arith, counted, o.its_within_budget, o.within_limit (omega (arith, start_work)))

  -- it stops before the job's end only where no more is allowed
  all_used : job_ended s ≡ false → s.work ≡ n
  all_used o = by (is_run.spent_when o)
    where
      by : (r.picks ≡ budget) ⊎ (work_limit ≤ s.work) → s.work ≡ n
      by (inl p) = omega (arith, counted, within-allowance)
      by (inr p) = omega (arith, within-allowance)

  -- demand 3
  agrees : (e : Frame) (W : ℕ) → Ends j e W → Agrees j s e W
  agrees e W t =
      let o = is_run.is_order in
      subst⁻¹ (λ (x : State). Agrees j x e W) o.leads_here ((demand_3 j accepted m o.order).where_it_ends e W t)

  never_ended : ((e : Frame) (W : ℕ) → Ends j e W → ⊥) → job_ended s ≡ false
  never_ended none =
      let o = is_run.is_order in
      ap job_ended o.leads_here ∙ ((demand_3 j accepted m o.order).where_it_does_not_end none).never_ended

  -- ---- Whether the evaluation's work is within what is allowed

  -- work that is allowed is done
  ended-within : (e : Frame) (W : ℕ) → Ends j e W → W ≤ n → job_ended s ≡ true
  ended-within e W t fits = by-test (job_ended s) (λ o. o)
      (λ o. let a = agrees e W t in a.ended_when_equal (omega (arith, all_used o, a.work_never_above)))

  -- more than is allowed is not: where it is above the limit too, no order ends the job
  open_above : (e : Frame) (W : ℕ) → evaluation j work_limit ≡ ran e W → n < W → job_ended s ≡ false
  open_above e W t above = by-below work_limit W
      (λ over. never_ended (λ f U h.
      let q : ran e W ≡ ran f U = sym t ∙ h.evaluates in
      let same : W ≡ U = cc in
      omega (arith, same, h.within_limit, over)))
      (λ within. never (job_ended s) (λ o.
      let w = (agrees e W (record { evaluates = t; within_limit = within })).equal_when_ended o in
      omega (arith, above, within-allowance, w)))

  by-evaluation : (x : Ran Frame) → evaluation j work_limit ≡ x → report_of s r.picks ≡ report_from n (within_budget n x)
  by-evaluation out t =
      let o = never_ended (λ e W h. out_not_ran (sym t ∙ h.evaluates)) in
      report_spent s r.picks n counted o (all_used o)
  by-evaluation (ran e W) t = by-test (leb W n)
      (λ l.
      let fits = leb-true W n l in
      let ends : Ends j e W = record { evaluates = t; within_limit = omega (arith, fits) } in
      let o = ended-within e W ends fits in
      rw (l, within_budget) (report_done s r.picks n counted e W o ((agrees e W ends).then_same_result o) fits))
      (λ l.
      let o = open_above e W t (leb-false W n l) in
      rw (l, within_budget) (report_spent s r.picks n counted o (all_used o)))

pub run_is_plain : RunIsPlain
run_is_plain j accepted m budget = by-evaluation j accepted m budget (evaluation j work_limit) refl
