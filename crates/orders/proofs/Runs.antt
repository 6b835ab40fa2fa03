-- The budgeted run's chooser is sound, so a run is an order of picks that are all carried out, and demand 3 speaks of every run.
use Prim.Native.Nat.{ℕ, ◌+◌, ◌≤◌}
use mathlib.Core.Path.{◌≡◌, sym, ap, ◌∙◌}
use mathlib.Core.Logic.{◌⊎◌, inl, inr}
use mathlib.Core.Bool.{true, false}
use mathlib.Core.List.{List, ◌++◌}
use lib.Dec.{ltb}
use borrow.Author.Tests.{ltb-false}
use Rattle.facts.proofs.Tests.{clash, by-test}
use Rattle.task.specs.Frames.{work_limit}
use Rattle.drive.specs.declared.State.{State}
use Rattle.machine.specs.Outcome.{Outcome}
use Rattle.drive.specs.Ending.{job_ended}
use Rattle.machine.specs.Picking.{state_no}
use Rattle.drive.specs.Courses.{over, turn, Run}
use Rattle.drive.specs.Passes.{next_pick, stops, passes, run_from}
use Rattle.machine.specs.Running.{outcome}
use Rattle.drive.proofs.Searching.{next-runs}
use Rattle.orders.specs.Demand.{Job, Accepted, start_on, played}
use Rattle.orders.specs.Runs.{PassesSound, RunIsOrder, EveryRun}
use Rattle.orders.proofs.Plays.{job_accepted, played-on}
use Rattle.orders.proofs.Demand.{demand_3}
use Rattle.orders.proofs.Shapes.{every_order_meets}
use Rattle.machine.proofs.PickLaws.{Passed}
use Rattle.orders.proofs.Courses.{meets-passes, no-turn, its_goes_on, slot_pickable, some_runs, course_is_order, spent_or_over}

-- ---- a run is an order

passes-turn : (m : State) (slot k c : ℕ) → passes m slot ≡ turn k c → (stops m ≡ false) × (k ≡ next_pick m slot)
unfolding passes
passes-turn m slot k c e = by-test (stops m)
    (λ t. no-turn (rw (passes, t) at e))
    (λ t. let z : turn (next_pick m slot) (next_pick m slot + 1) ≡ turn k c = rw (passes, t) at e in (t, cc))

passes_over_lem : (m : State) (slot : ℕ) → passes m slot ≡ over → stops m ≡ true
unfolding passes
passes_over_lem m slot e = by-test (stops m) (λ t. t)
    (λ t. no-turn (sym (rw (passes, t) at e)))

pub passes-sound : PassesSound
passes-sound cells = record {
  turn_pickable = λ program m x slot k c e.
      let t = passes-turn m slot k c e in
      let goes = its_goes_on m t.0 in
      let some = some_runs program m x goes in
      let n = next-runs m slot some.0 some.1 some.2 in
      rw t.1 (slot_pickable m goes (next_pick m slot) n.0 n.1);
}

-- a run that is over with the job open
at_limit : (m : State) → stops m ≡ true → job_ended m ≡ false → work_limit ≤ m.work
at_limit m t o = by-test (ltb m.work work_limit) (λ l. clash t (rw (o, l))) (λ l. ltb-false m.work work_limit l)

pub run_is_order : RunIsOrder
run_is_order j m sized e k b = record {
  is_order = course_is_order ℕ j passes (passes-sound j.cells) m sized e k b;
  spent_when = by (spent_or_over ℕ j passes m k b);
}
  where
    r : Run ℕ
    r = run_from j.cells j.words m k b

    by : (r.picks ≡ b) ⊎ (passes r.state r.kept ≡ over) → job_ended r.state ≡ false → (r.picks ≡ b) ⊎ (work_limit ≤ r.state.work)
    by (inl h) o = inl h
    by (inr h) o = inr (at_limit r.state (passes_over_lem r.state r.kept h) o)

-- ---- a run after an order

-- questions 1 to 20 let every state of an order pass
pub order_passes : (j : Job) → Accepted j → (m : State) (ks : List ℕ) → state_no j.cells j.words (played j (start_on j m) ks) ≡ 0
order_passes j a m ks =
    let start = job_accepted j a in
    let passed : Passed j.cells j.words = record { program = start.allowed.program; lent = start.lent } in
    meets-passes passed (played j (start_on j m) ks) (every_order_meets j a m ks)

-- what run answers in a state that they let pass
pub answers : (j : Job) (m : State) (b : ℕ) → state_no j.cells j.words m ≡ 0
    → outcome j.cells j.words m b ≡ (let r = run_from j.cells j.words m 0 b in record { no = 0; ended = job_ended r.state; picks = r.picks; machine = record { state = r.state } })
unfolding outcome
answers j m b e = rw e

pub every-run : EveryRun
every-run j a m ks b =
    let here = played j (start_on j m) ks in
    let passed = order_passes j a m ks in
    let said = answers j here b passed in
    let o = (run_is_order j here (every_order_meets j a m ks).sized passed 0 b).is_order in
    record {
      not_refused = ap (λ (x : Outcome). x.no) said;
      order = o.order;
      leads_here = ap (λ (x : Outcome). x.machine.state) said ∙ o.leads_here ∙ sym (played-on j ks o.order (start_on j m));
      all_carried_out = o.all_carried_out;
      picks_counted = ap (λ (x : Outcome). x.picks) said ∙ o.picks_counted;
      ended_said = ap (λ (x : Outcome). x.ended) said ∙ sym (ap (λ (x : Outcome). job_ended x.machine.state) said);
      whatever_the_order = demand_3 j a m (ks ++ o.order);
    }
