-- The wrong picks break demand 3. F, with P 1 and with P 2, is the counterexample.
use Prim.Native.Nat.{ℕ, ◌+◌, ◌-◌, ◌<◌}
use mathlib.Core.Path.{◌≡◌, refl, sym, ap, ◌∙◌, subst}
use mathlib.Core.Bool.{Bool, true, false, cond}
use mathlib.Core.List.{List, [], ◌∷◌}
use native.Mathlib.Omega.{arith}
use lib.Dec.{eqb}
use lib.IntN.{ℤ}
use lib.ListN.{get_or}
use Rattle.facts.proofs.Tests.{clash, by-test}
use Rattle.image.specs.Doors.{unless_refused}
use Rattle.task.specs.declared.Status.{Status}
use Rattle.task.specs.declared.Status.TheVariants.{Vacant, Running, Waiting, Halted, Faulted}
use Rattle.task.specs.declared.Task.{Task}
use Rattle.task.specs.declared.Frame.{Frame}
use Rattle.task.specs.Frames.{no_task}
use Rattle.drive.specs.declared.State.{State}
use Rattle.drive.specs.declared.End.{End}
use Rattle.drive.specs.declared.End.TheVariants.{NotEnded, Halt, Fault}
use Rattle.drive.specs.Slots.{at, ticked}
use Rattle.drive.specs.Ending.{end_at, end_of, is_end, job_ended}
use Rattle.machine.specs.Picking.{pick_no}
use Rattle.drive.specs.Issue.{issued}
use Rattle.machine.proofs.PickLaws.{picked-issued, picked_work}
use Rattle.orders.specs.Demand.{Job, Engine, AcceptedOf, start_of, AgreesOf, SameResult, Demand3Of, ours, start_on}
use Rattle.orders.proofs.Demand.{demand_3}
use Rattle.teeth.specs.Demands.{EachPickIssues}
use Rattle.teeth.specs.Machines.{always_says, alters_nothing, alters_work_alone, changing, with_work, work_doubled, work_shown}
use Rattle.teeth.specs.Machines.{first_span, with_span, span_shown, first_status, with_status, with_ending, one_ending}
use Rattle.teeth.proofs.Reaching.{Reached, Next, its_goes_on, agrees, reaches}
use Rattle.teeth.proofs.Known.{Known, blank, F1, f-known, f1_known}

-- F with P 1: its evaluation ends with the work 2
module _ (engine : Engine) (demand : Demand3Of engine) (accepted : AcceptedOf engine F1) where
  -- a state reached with the work 0, or 1, and a pick that is carried out there
  first : Next engine F1 (start_of engine F1 blank) 0
  first = reaches engine demand F1 accepted blank f1_known.frame 2 f1_known.ends 0 (omega arith)

  second : Next engine F1 (start_of engine F1 blank) 1
  second = reaches engine demand F1 accepted blank f1_known.frame 2 f1_known.ends 1 (omega arith)

  -- the state after such a pick
  after : {w : ℕ} (x : Next engine F1 (start_of engine F1 blank) w)
      → Reached engine F1 (start_of engine F1 blank) (engine.picked F1.cells F1.words x.state x.slot) (w + 1)
  after x = its_goes_on engine demand F1 accepted blank x.reached x.slot x.its_carried_out

  agree : {n : State} {w : ℕ} → Reached engine F1 (start_of engine F1 blank) n w → AgreesOf engine F1 n f1_known.frame 2
  agree r = agrees engine demand F1 accepted blank f1_known.frame 2 f1_known.ends r

-- our pick, carried out, adds 1 to the work
issued_work : (cells : List ℕ) (words : List ℤ) (m : State) (k : ℕ) → pick_no cells words m k ≡ 0 → (issued cells words m k).work ≡ m.work + 1
issued_work cells words m k e = ap (λ (n : State). n.work) (sym (picked-issued cells words m k e)) ∙ picked_work cells words m k e

-- ---- A pick that always says n

pub always_says_lem : (n : ℕ) → (n ≡ 0 → ⊥) → Demand3Of (always_says n) → ⊥
always_says_lem n refused demand = refused (first (always_says n) demand f1_known.accepted).its_carried_out

-- ---- One that alters nothing

pub its_alters_nothing : Demand3Of alters_nothing → ⊥
its_alters_nothing demand =
    let x = first alters_nothing demand f1_known.accepted in
    omega (arith, x.reached.its_work, (after alters_nothing demand f1_known.accepted x).its_work)

pub nothing_issued : EachPickIssues alters_nothing → ⊥
nothing_issued each =
    let x = first ours demand_3 f1_known.accepted in
    let same = (each F1.cells F1.words x.state x.slot).one_instruction x.its_carried_out in
    omega (arith, ap (λ (n : State). n.work) same, issued_work F1.cells F1.words x.state x.slot x.its_carried_out)

-- or the work alone: the job never ends
work_alone-ends : (cells : List ℕ) (words : List ℤ) (m : State) (k : ℕ) → job_ended (alters_work_alone.picked cells words m k) ≡ job_ended m
unfolding unless_refused
work_alone-ends cells words m k = by-test (eqb (pick_no cells words m k) 0) (λ e. rw e) (λ e. rw e)

pub its_alters_work_alone : Demand3Of alters_work_alone → ⊥
its_alters_work_alone demand =
    let x = second alters_work_alone demand f1_known.accepted in
    let r = after alters_work_alone demand f1_known.accepted x in
    let ended = (agree alters_work_alone demand f1_known.accepted r).ended_when_equal (r.its_work ∙ omega arith) in
    let before = (agree alters_work_alone demand f1_known.accepted x.reached).equal_when_ended
    (sym (work_alone-ends F1.cells F1.words x.state x.slot) ∙ ended) in
    omega (arith, before, x.reached.its_work)

-- ---- Our pick, but for a change to its state

changed : (change : State → State) (cells : List ℕ) (words : List ℤ) (m : State) (k : ℕ) → pick_no cells words m k ≡ 0
    → (changing change).picked cells words m k ≡ change (issued cells words m k)
unfolding unless_refused
changed change cells words m k e = rw e

module _ (change : State → State) (demand : Demand3Of (changing change)) where
  -- the work that a carried-out pick shows, the first of F's and the second
  shown : {w : ℕ} (x : Next (changing change) F1 (start_on F1 blank) w) → (change (issued F1.cells F1.words x.state x.slot)).work ≡ w + 1
  shown x =
      ap (λ (n : State). n.work) (sym (changed change F1.cells F1.words x.state x.slot x.its_carried_out))
      ∙ (after (changing change) demand f1_known.accepted x).its_work

  -- the state that ends a job
  record Last (e : Frame) (W : ℕ) : Type 0 where
    state : State
    ended : job_ended (change state) ≡ true
    same : SameResult (change state) e W

  last : {j : Job} {end : End} {W span : ℕ} (x : Known j end W span) → 0 < W → Last x.frame W
  last {j} {end} {W} x h =
      let cells = j.cells in
      let words = j.words in
      let next = reaches (changing change) demand j x.accepted blank x.frame W x.ends (W - 1) (omega arith) in
      let n = next.state in
      let k = next.slot in
      let is = changed change cells words n k next.its_carried_out in
      let r = its_goes_on (changing change) demand j x.accepted blank next.reached k next.its_carried_out in
      let agrees-there = agrees (changing change) demand j x.accepted blank x.frame W x.ends r in
      let ended = agrees-there.ended_when_equal (omega (arith, r.its_work)) in
      record {
        state = issued cells words n k;
        ended = ap job_ended (sym is) ∙ ended;
        same = subst (λ (m : State). SameResult m x.frame W) is (agrees-there.then_same_result ended);
      }

-- a work made up
pub its_work_doubled : Demand3Of work_doubled → ⊥
its_work_doubled demand =
    let x = first work_doubled demand f1_known.accepted in
    omega (arith, x.reached.its_work, shown ticked demand x, issued_work F1.cells F1.words x.state x.slot x.its_carried_out)

pub its_work_shown : (w : ℕ) → Demand3Of (work_shown w) → ⊥
its_work_shown w demand =
    omega
    (arith, shown (with_work w) demand (first (work_shown w) demand f1_known.accepted), shown (with_work w) demand (second (work_shown w) demand f1_known.accepted))

-- a span made up: the evaluation of F has the span 7, with P 1 it has 2
first-span : (s : ℕ) (ts : List Task) → is_end (end_at (get_or (first_span s ts) 0 no_task).depth (get_or (first_span s ts) 0 no_task).status) ≡ true
    → (get_or (first_span s ts) 0 no_task).span ≡ s
first-span s [] ended = clash ended refl
first-span s (t ∷ ts) ended = refl

pub its_span_shown : (s : ℕ) → Demand3Of (span_shown s) → ⊥
its_span_shown s demand = omega (arith, spans f-known (omega arith), spans f1_known (omega arith))
  where
    spans : {j : Job} {end : End} {W span : ℕ} → Known j end W span → 0 < W → s ≡ span
    spans x h =
        let l = last (with_span s) demand x h in
        sym (first-span s l.state.tasks l.ended) ∙ l.same.same_span ∙ x.its_span

-- one ending: F halts, and with P 1 it faults
first_status_lem : (s : Status) (ts : List Task) → is_end (end_at (get_or (first_status s ts) 0 no_task).depth (get_or (first_status s ts) 0 no_task).status) ≡ true
    → (depth : ℕ) × (end_at (get_or (first_status s ts) 0 no_task).depth (get_or (first_status s ts) 0 no_task).status ≡ end_at depth s)
first_status_lem s [] ended = clash ended refl
first_status_lem s (t ∷ ts) ended = (t.depth, refl)

ends_with : (s : Status) (m : State) → job_ended (with_ending s m) ≡ true → (depth : ℕ) × (end_of (at (with_ending s m) 0) ≡ end_at depth s)
ends_with s m ended = go (job_ended m) refl ended
  where
    go : (t : Bool) → job_ended m ≡ t → job_ended (cond t (with_status s m) m) ≡ true → (depth : ℕ) × (end_of (at (cond t (with_status s m) m) 0) ≡ end_at depth s)
    go true e h = first_status_lem s m.tasks h
    go false e h = clash h e

two_ends : (s : Status) (d n : ℕ) → end_at d s ≡ Halt → (c : ℕ) → end_at c s ≡ Fault n → ⊥
two_ends Vacant d n p c q = let z : ◌≡◌ {A = ℕ} 0 1 = cc in omega arith
two_ends Running d n p c q = let z : ◌≡◌ {A = ℕ} 0 1 = cc in omega arith
two_ends Waiting d n p c q = let z : ◌≡◌ {A = ℕ} 0 1 = cc in omega arith
two_ends Halted d n p c q = let z : ◌≡◌ {A = ℕ} 0 1 = cc in omega arith
two_ends (Faulted k) d n p c q = go (eqb d 0) p
  where
    go : (t : Bool) → cond t (Fault k) NotEnded ≡ Halt → ⊥
    go true e = let z : ◌≡◌ {A = ℕ} 0 1 = cc in omega arith
    go false e = let z : ◌≡◌ {A = ℕ} 0 1 = cc in omega arith

pub its_one_ending : (s : Status) → Demand3Of (one_ending s) → ⊥
its_one_ending s demand =
    let halts = endings f-known (omega arith) in
    let faults = endings f1_known (omega arith) in
    two_ends s halts.0 37 halts.1 faults.0 faults.1
  where
    endings : {j : Job} {end : End} {W span : ℕ} → Known j end W span → 0 < W → (depth : ℕ) × (end_at depth s ≡ end)
    endings x h =
        let l = last (with_ending s) demand x h in
        let p = ends_with s l.state l.ended in
        (p.0, sym p.1 ∙ l.same.its_same_end ∙ x.its_end)
