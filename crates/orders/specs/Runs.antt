-- A run along a course is an order of picks, whoever chooses them, so demand 3 speaks of every run: of the budgeted one and of a list. And a
-- budget may be spent in two runs. `proofs/Courses.antt`, `Lists.antt`, `Runs.antt`, `Budgets.antt` and `SameEnd.antt` prove it.
-- What a course is, drive's Courses says; its Passes has the run with a budget, `run_from`, whose chooser `passes` keeps the slot that it
-- reaches next, and Listing the list. machine's Running has `outcome`, what `Machine::run` hands back.
use Rattle.std.specs.Prelude.{ℕ, ◌+◌, ◌<◌, ◌≤◌, ◌≡◌, ◌⊎◌, true, false, List, ◌++◌, length}
use Rattle.agreement.specs.Picks.{once}
use Rattle.image.specs.Questions.{program_no}
use Rattle.task.specs.Frames.{running, work_limit}
use Rattle.drive.specs.declared.State.{State}
use Rattle.machine.specs.Outcome.{Outcome}
use Rattle.drive.specs.Slots.{at, Sized}
use Rattle.drive.specs.Ending.{job_ended}
use Rattle.drive.specs.Issue.{slot_no}
use Rattle.machine.specs.Picking.{state_no}
use Rattle.drive.specs.Courses.{over, turn, Chooser, Run, begun, follows}
use Rattle.drive.specs.Passes.{stops, passes, runs, run_from}
use Rattle.machine.specs.Running.{outcome}
use Rattle.drive.specs.Listing.{listed, list_from}
use Rattle.orders.specs.Demand.{Job, Accepted, start_on, played, carried_out, WhateverTheOrder}
use Rattle.orders.specs.Shapes.{Meets}

-- ---- A course is an order. Of a job only its program and its call record count here, as in `played`

-- What is asked of a chooser: in a state that meets the shape, for a program that was accepted, it may be a slot's turn only where that slot
-- can be picked, that is, where questions 21 to 24 let it pass. Whatever the chooser keeps
pub record Sound {C : Type 0} (cells : List ℕ) (next : Chooser C) : Type 0 where
  pub turn_pickable : program_no cells ≡ 0 → (m : State) → Meets cells m → (c : C) (k : ℕ) (c' : C) → next m c ≡ turn k c' → slot_no m k ≡ 0

-- a run that leaves the state m as it was
pub record Untouched {C : Type 0} (m : State) (r : Run C) : Type 0 where
  pub no_picks : r.picks ≡ 0
  pub same_state : r.state ≡ m

-- r is what a run of budget b from the state m has come to
pub record IsOrder {C : Type 0} (j : Job) (m : State) (b : ℕ) (r : Run C) : Type 0 where
  -- the slots that it picks, one after the other: none of these picks is refused
  pub order : List ℕ
  pub leads_here : r.state ≡ played j m order
  pub all_carried_out : carried_out j once m order ≡ length order
  pub picks_counted : r.picks ≡ length order
  -- the picks reported are the rise in work
  pub rise_in_work : r.state.work ≡ m.work + r.picks
  pub its_within_budget : r.picks ≤ b
  pub within_limit : m.work ≤ work_limit → r.state.work ≤ work_limit
  pub ended_before : job_ended m ≡ true → Untouched m r
  pub no_budget : b ≡ 0 → Untouched m r
  -- so a later call does not refuse the state for its shape
  pub meets : Meets j.cells r.state

-- at most b picks more
abbrev pub course : {C : Type 0} → Job → Chooser C → ℕ → Run C → Run C
course j next b r = follows j.cells j.words next b r

-- for every sound chooser, whatever it keeps at first, and every state that the questions up to 20 let pass, reached or not
abbrev pub CourseIsOrder : Type 1
CourseIsOrder =
    (C : Type 0) (j : Job) (next : Chooser C) → Sound j.cells next → (m : State) → Sized m → state_no j.cells j.words m ≡ 0
    → (c : C) (b : ℕ) → IsOrder j m b (course j next b (begun m c))

-- a run has carried out its budget's picks, or its chooser says that it is over: for every chooser, sound or not, and every state
abbrev pub SpentOrOver : Type 1
SpentOrOver =
    (C : Type 0) (j : Job) (next : Chooser C) (m : State) (c : C) (b : ℕ)
    → let r = course j next b (begun m c) in (r.picks ≡ b) ⊎ (next r.state r.kept ≡ over)

-- ---- The budgeted run

abbrev pub PassesSound : Type 0
PassesSound = (cells : List ℕ) → Sound cells passes

-- r is what a budgeted run of budget b from the state m has come to
pub record IsRun (j : Job) (m : State) (b : ℕ) (r : Run ℕ) : Type 0 where
  pub is_order : IsOrder j m b r
  -- it answers spent only where it has carried out exactly the budget's picks, or the work stands at the limit
  pub spent_when : job_ended r.state ≡ false → (r.picks ≡ b) ⊎ (work_limit ≤ r.state.work)

-- for every state that the questions up to 20 let pass, reached or not, and every slot that the run may begin at
abbrev pub RunIsOrder : Type 0
RunIsOrder =
    (j : Job) (m : State) → Sized m → state_no j.cells j.words m ≡ 0
    → (k b : ℕ) → IsRun j m b (run_from j.cells j.words m k b)

-- what run answers after the order ks from the state m₀ that start handed back
pub record RunAfter (j : Job) (m₀ : State) (ks : List ℕ) (o : Outcome) : Type 0 where
  pub not_refused : o.no ≡ 0
  -- its picks go on where ks stopped, and demand 3 holds of ks and them as of any order
  pub order : List ℕ
  pub leads_here : o.machine.state ≡ played j m₀ (ks ++ order)
  pub all_carried_out : carried_out j once (played j m₀ ks) order ≡ length order
  pub picks_counted : o.picks ≡ length order
  pub ended_said : o.ended ≡ job_ended o.machine.state
  pub whatever_the_order : WhateverTheOrder j m₀ (ks ++ order)

-- for every job that start does not refuse, whatever was picked before, and every budget
abbrev pub EveryRun : Type 0
EveryRun =
    (j : Job) → Accepted j → (m : State) (ks : List ℕ) (b : ℕ)
    → RunAfter j (start_on j m) ks (outcome j.cells j.words (played j (start_on j m) ks) b)

-- ---- The list

abbrev pub ListedSound : Type 0
ListedSound = (cells : List ℕ) → Sound cells listed

-- As a course a list asks of each slot questions 21 to 24 only, `played` all of them. They come to the same state, from every state that the
-- questions up to 20 let pass, reached or not
abbrev pub ListIsPlayed : Type 0
ListIsPlayed =
    (j : Job) (m : State) → Sized m → state_no j.cells j.words m ≡ 0
    → (ks : List ℕ) → (list_from j.cells j.words m ks).state ≡ played j m ks

-- ---- A run of budget a + b, against one of budget a and then one of budget b

-- where the second goes on with what the first kept, they are one run: for every chooser, sound or not, and every state
abbrev pub CoursesAdd : Type 1
CoursesAdd =
    (C : Type 0) (j : Job) (next : Chooser C) (a b : ℕ) (r : Run C) → course j next (a + b) r ≡ course j next b (course j next a r)

-- so where a budgeted run goes on from the slot that the first reached
abbrev pub RunsAdd : Type 0
RunsAdd =
    (j : Job) (a b : ℕ) (r : Run ℕ) → runs j.cells j.words (a + b) r ≡ runs j.cells j.words b (runs j.cells j.words a r)

-- the public run begins at slot 0
abbrev pub run : Job → State → ℕ → Run ℕ
run j m b = run_from j.cells j.words m 0 b

-- no running task is left in the pass, from the slot reached on: so always where that slot is P
abbrev pub PassOver : Run ℕ → Type 0
PassOver r = (i : ℕ) → r.kept ≤ i → i < r.state.places → running (at r.state i) ≡ false

-- the two runs come to the one
pub record AddsUp (first second whole : Run ℕ) : Type 0 where
  pub same_state : second.state ≡ whole.state
  pub picks_add : first.picks + second.picks ≡ whole.picks

-- Of public runs this holds where the first stopped at the end of a pass, or can pick no more: the job has ended, or the work stands at the
-- limit. Stopped elsewhere, the one run would go on with its pass, and the second begins a new one at slot 0: with tasks that run on in slots
-- 0 and 1, two runs of budget 1 pick slot 0 twice, one run of budget 2 picks each once
abbrev pub BudgetsAdd : Type 0
BudgetsAdd =
    (j : Job) (m : State) (a b : ℕ) → PassOver (run j m a) ⊎ (stops (run j m a).state ≡ true)
    → AddsUp (run j m a) (run j (run j m a).state b) (run j m (a + b))

-- the two runs may pick other slots than the one, and come to the same end
pub record EndsAlike (first second whole : Run ℕ) : Type 0 where
  pub picks_add : first.picks + second.picks ≡ whole.picks
  pub both_end : job_ended second.state ≡ job_ended whole.state
  -- then in the same state, whole
  pub its_same_end : job_ended whole.state ≡ true → second.state ≡ whole.state

-- From a fresh start this holds wherever the first stopped, since all complete orders agree (Complete.antt)
abbrev pub SameEnd : Type 0
SameEnd =
    (j : Job) → Accepted j → (m : State) (a b : ℕ)
    → EndsAlike (run j (start_on j m) a) (run j (run j (start_on j m) a).state b) (run j (start_on j m) (a + b))
