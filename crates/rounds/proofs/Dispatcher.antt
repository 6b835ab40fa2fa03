-- The dispatcher of every accepted job.
use Prim.Native.Nat.{ℕ, ◌+◌, ◌<◌}
use mathlib.Core.Path.{◌≡◌, sym, ap, ◌∙◌, subst⁻¹}
use mathlib.Core.Bool.{true}
use mathlib.Core.List.{List, []}
use native.Mathlib.Omega.{arith}
use lib.Dec.{leb}
use borrow.Author.Tests.{leb-true}
use Rattle.facts.proofs.Tests.{both_true}
use Rattle.drive.specs.declared.State.{State}
use Rattle.drive.specs.Ending.{job_ended}
use Rattle.drive.specs.Courses.{Run}
use Rattle.drive.specs.Rounds.{Rounding, rounds_from}
use Rattle.drive.proofs.ShapeLaws.{fits-shape}
use Rattle.machine.specs.Dispatched.{Dispatched}
use Rattle.machine.specs.Dispatching.{lanes_allowed}
use Rattle.machine.proofs.PickLaws.{Passed}
use Rattle.machine.proofs.StartLaws.{fresh-fits}
use Rattle.machine.proofs.DispatchLaws.{passed-dispatch, dispatch-accepted}
use Rattle.orders.specs.Demand.{Job, Accepted, start_on, played_of, played}
use Rattle.orders.proofs.Plays.{FitsJob, JobAccepted, job_accepted, started_job, play-fits, played_is}
use Rattle.lanes.specs.Rounds as lane
use Rattle.rounds.specs.Jobs.{JobOnLanes, dispatched as budgeted}
use Rattle.rounds.specs.Dispatcher.{dispatch_of, EveryDispatch, DispatchesAdd}
use Rattle.rounds.proofs.Jobs.{every_job_on_lanes, rounds_add}
use Rattle.rounds.proofs.Course.{dispatch-fits, same_rounds}

some_of : (lanes : ℕ) → lanes_allowed lanes ≡ true → 0 < lanes
some_of lanes e = let a = leb-true 1 lanes (both_true (leb 1 lanes) (leb lanes 8) e).0 in omega (arith, a)

-- a state of the job: no question is answered with no, and the course is lanes' budget of rounds
module _ {j : Job} (start : JobAccepted j) (lanes : ℕ) (allows : lanes_allowed lanes ≡ true) (m : State) (x : FitsJob j m) (budget : ℕ) where
  open j use {cells, words}

  abbrev r : Run Rounding
  r = rounds_from cells words m lanes budget

  is_answered : dispatch_of j m lanes budget
      ≡ record { no = 0; ended = job_ended r.state; rounds = r.kept.done; picks = r.picks; machine = record { state = r.state } }
  is_answered =
      let passed : Passed cells words = record { program = start.allowed.program; lent = start.lent } in
      dispatch-accepted cells words lanes m budget (passed-dispatch cells words lanes m passed allows (fits-shape start.allowed m x))

  pub not_refused : (dispatch_of j m lanes budget).no ≡ 0
  not_refused = ap (λ (o : Dispatched). o.no) is_answered

  pub ended_said : (dispatch_of j m lanes budget).ended ≡ job_ended (dispatch_of j m lanes budget).machine.state
  ended_said = ap (λ (o : Dispatched). o.ended) is_answered ∙ sym (ap (λ (o : Dispatched). job_ended o.machine.state) is_answered)

  pub its_state : (dispatch_of j m lanes budget).machine.state ≡ (budgeted j lanes budget m).state
  its_state = ap (λ (o : Dispatched). o.machine.state) is_answered ∙ (same_rounds start lanes (some_of lanes allows) budget m x).same_state

  pub its-rounds : (dispatch_of j m lanes budget).rounds ≡ (budgeted j lanes budget m).rounds
  its-rounds = ap (λ (o : Dispatched). o.rounds) is_answered ∙ (same_rounds start lanes (some_of lanes allows) budget m x).same_rounds

  pub its_picks : m.work + (dispatch_of j m lanes budget).picks ≡ (budgeted j lanes budget m).state.work
  its_picks = ap (λ (o : Dispatched). m.work + o.picks) is_answered ∙ (same_rounds start lanes (some_of lanes allows) budget m x).picks_counted

  pub left-fits : FitsJob j (dispatch_of j m lanes budget).machine.state
  left-fits = subst⁻¹ (FitsJob j) its_state (dispatch-fits start lanes (some_of lanes allows) budget m x)

started-fits : {j : Job} → JobAccepted j → (m : State) → Accepted j → (ks : List ℕ) → FitsJob j (played j (start_on j m) ks)
started-fits {j} start m a ks =
    subst⁻¹ (λ n. FitsJob j (played j n ks)) (started_job j a m)
    (subst⁻¹ (FitsJob j) (played_is start ks _ (fresh-fits start)) (play-fits start ks _ (fresh-fits start)))

pub every-dispatch : EveryDispatch
unfolding played_of
every-dispatch j a m lanes allows budget =
    let start = job_accepted j a in
    let n = start_on j m in
    let x = started-fits start m a [] in
    let s = its_state start lanes allows n x budget in
    let p = its_picks start lanes allows n x budget in
    record {
      not_refused = not_refused start lanes allows n x budget;
      ended_said = ended_said start lanes allows n x budget;
      picks_counted = p ∙ ap (λ (o : State). o.work) (sym s);
      its_on_lanes = subst⁻¹ (λ (d : lane.Dispatched State). JobOnLanes j n lanes budget d)
          (λ i. record { state = s i; rounds = its-rounds start lanes allows n x budget i }) (every_job_on_lanes j a m lanes (some_of lanes allows) budget);
    }

pub dispatches_add : DispatchesAdd
dispatches_add j a m ks lanes allows b c =
    let start = job_accepted j a in
    let n = played j (start_on j m) ks in
    let x = started-fits start m a ks in
    let first = dispatch_of j n lanes b in
    let y = left-fits start lanes allows n x b in
    let s₁ = its_state start lanes allows n x b in
    let s₂ = its_state start lanes allows first.machine.state y c in
    let s = its_state start lanes allows n x (b + c) in
    let add = rounds_add j lanes b c n in
    let there : budgeted j lanes c first.machine.state ≡ budgeted j lanes c (budgeted j lanes b n).state = ap (λ (o : State). budgeted j lanes c o) s₁ in
    let state = s₂ ∙ ap (λ (d : lane.Dispatched State). d.state) there ∙ sym (ap (λ (d : lane.Dispatched State). d.state) add) ∙ sym s in
    let r₁ = its-rounds start lanes allows n x b in
    let r₂ = its-rounds start lanes allows first.machine.state y c in
    let r = its-rounds start lanes allows n x (b + c) in
    let rounds = ap (λ (d : lane.Dispatched State). d.rounds) there in
    let all = ap (λ (d : lane.Dispatched State). d.rounds) add in
    let p₁ = its_picks start lanes allows n x b in
    let p₂ = its_picks start lanes allows first.machine.state y c in
    let p = its_picks start lanes allows n x (b + c) in
    let w₁ = ap (λ (o : State). o.work) s₁ in
    let w₂ = ap (λ (o : State). o.work) (sym s₂ ∙ state ∙ s) in
    record {
      same_state = state;
      its_same_end = ended_said start lanes allows first.machine.state y c ∙ ap job_ended state ∙ sym (ended_said start lanes allows n x (b + c));
      rounds_add = omega (arith, r₁, r₂, r, rounds, all);
      picks_add = omega (arith, p₁, p₂, p, w₁, w₂);
    }
