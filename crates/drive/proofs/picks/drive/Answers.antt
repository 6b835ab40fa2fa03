-- `drive` meets its contract: at the loop's head the course stands where the state is, whichever course it is. What each turn does is in
-- `proofs/Planning.antt`, a statement for each kind; here the code's places are tied to it.
use mathlib.Core.Path.{◌≡◌, refl, sym, ap, ◌∙◌, subst⁻¹}
use mathlib.Core.Bool.{Bool, true, false, cond, not, ◌&&◌}
use mathlib.Core.List.{List}
use Rattle.std.specs.Prelude.{Option, Some, None, is_some}
use Prim.Native.Nat.{ℕ, ◌+◌, ◌-◌, ◌*◌, ◌/◌, ◌%◌, ◌<◌, ◌≤◌}
use lib.Dec.{ltb}
use lib.ListN.{get_or, set}
use borrow.Author.Tests.{ltb-true, not-true}
use borrow.Author.Rules.{rules}
use native.Mathlib.Omega.{arith}
use Rattle.facts.proofs.Tests.{clash, both_true}
use Rattle.image.specs.declared.Instruction.{Instruction}
use Rattle.image.specs.Layout.{program_of, instruction_of}
use Rattle.agreement.specs.Slots.{due, side_ended}
use Rattle.task.specs.declared.Register.{Register}
use Rattle.task.specs.declared.Task.{Task}
use Rattle.task.specs.declared.Value.{Value}
use Rattle.task.specs.declared.Kind.{Kind}
use Rattle.task.specs.declared.Kind.TheVariants.{Faults, Forks}
use Rattle.task.specs.Frames.{running, is_running, zero_register, work_limit}
use Rattle.task.specs.Choices.{chosen}
use Rattle.task.specs.Execute.{executed, selected}
use Rattle.task.specs.Step.{active_of}
use Rattle.task.specs.declared.Executed.{Executed}
use Rattle.task.proofs.Executing.{after}
use Rattle.task.proofs.Sizes.{length-by}
use Rattle.turns.specs.declared.course.Position.{Position}
use Rattle.turns.specs.Stretches.{Stretch, first_of, next_stretch, lanes_of, rounds_of}
use Rattle.turns.specs.Rows.{packed}
use Rattle.turns.specs.Walk.{walks_on, picked_on, width}
use Rattle.turns.specs.Kinds.{stack_no}
use Rattle.turns.specs.Moving.{faults}
use Rattle.drive.specs.declared.State.{State}
use Rattle.drive.specs.Writes.{with_task_at}
use Rattle.drive.specs.Driven.{Driven}
use Rattle.drive.specs.Slots.{at, Sized, ticked, slots_of}
use Rattle.drive.specs.Issue.{issued}
use Rattle.drive.specs.Rounds.{round_of}
use Rattle.drive.specs.Ending.{is_end, job_ended}
use Rattle.drive.proofs.InPlace.{stored_at}
use Rattle.drive.proofs.Intervals.{interval_fits}
use Rattle.drive.proofs.Issuing.{Fetched, stores_issued, goes-issued, stacks-issued}
use Rattle.drive.proofs.Planning.{ahead, Planned, then_less, then_grows, planned_below, planned_as, join_planned, EndsBy}
use Rattle.drive.proofs.Planning.{ends_by, refused-by, end_planned, stacked_on, fork_room, fork_planned, next_goes, next_none}
use Rattle.drive.proofs.Positions.{Walks, Goes, goes, Kept, picked-kept, Comes}
use Rattle.drive.proofs.RowLaws.{Gathers, Looks, looks, unit_most, gather-begins, gather-passes, gather-takes, gather-ends}
use Rattle.drive.proofs.Readiness.{its-instruction, s_small, r_small, label_small, left_read, right_read, ready}
use Rattle.drive.proofs.SettleLaws.{sides_decide, without-room}
use Rattle.drive.proofs.SettleSafety.{due_joinable, fits_safe}
use Rattle.drive.proofs.ShapeLaws.{shape_allowed, shape-fits}
use Rattle.drive.proofs.Owning.{own_allowed, own_fits, places_most}
use Rattle.drive.proofs.Covering.{width-inside, width_some, width-others, width_quiet}
use Rattle.drive.proofs.SlotLaws.{task-runs}
use Rattle.drive.proofs.Stacking.{Stacked}
use Rattle.drive.proofs.Turning.{Turns, none-due, at_head, stops, Leads, leads_by, leads_on, Stopped}
use Rattle.drive.proofs.Walking.{Given, given, GivenAllowed, result, most_stretches, At, at_first, lanes_few, tile, comes-next}
use Rattle.drive.proofs.picks.drive.Goals as goal
use Rattle.drive.proofs.picks.drive.Goals.{At-loop-due, Else-not-has_room, In-loop-k}
use Rattle.drive.proofs.picks.drive.Goals.{After-instruction_of-x, Joined-does_store, After-picked_on-p}
use Rattle.drive.proofs.picks.drive.Goals.{In-loop-met, After-width_of-in-loop-met}
use Rattle.drive.proofs.picks.drive.Goals.{After-picked_on-p-in-Ok, Joined-does_stack, Joined-due-gt0}
use Rattle.drive.proofs.picks.drive.Goals.{then-does_store, else-does_store, then-is_running-2, else-is_running-2}
use Rattle.drive.proofs.picks.drive.Goals.{then-does_stack+in-Err, else-does_stack, then-due-gt0+else-not-has_room+else-not-both_ended}
use Rattle.drive.proofs.picks.drive.Goals.{else-due-gt0+else-loop-k-test+in-Some+in-Forks}
use Rattle.drive.proofs.picks.drive.Goals.{else-due-gt0+else-loop-k-test+in-Some+in_default-kind}

-- ---- the loop's head: a turn begins there

abbrev given-of : At-loop-due → Given
given-of c = given c.args.cells.now c.args.words.now c.args.lent.now c.args.order.now c.args.course

allowed_of : (c : At-loop-due) → GivenAllowed (given-of c)
allowed_of c = shape_allowed c.args.cells.now c.args.lent.now c.requires.0 c.requires.2

turns_at : (c : At-loop-due) → Turns (given-of c) c.loop-due.state c.loop-due.p c.loop-due.due c.loop-due.side
turns_at c = c.loop-due.invariant.0

-- ---- a look at a join

room_is : (q w : ℕ) {b : Bool} → b ≡ (ltb 0 w && ltb (q + w) 64) → b ≡ true → (0 < w) × (q + w < 64)
room_is q w e t =
    let h = both_true (ltb 0 w) (ltb (q + w) 64) (sym e ∙ t) in
    (ltb-true 0 w h.0, ltb-true (q + w) 64 h.1)

abbrev turn-j : Else-not-has_room → At-loop-due
turn-j c = (goal.at.overflow_add-c c).At-loop-due

abbrev w-of : Else-not-has_room → ℕ
w-of c = (at c.loop-due.state c.loop-due.side).task.places

inside : (c : Else-not-has_room) → (0 < w-of c) × (c.first_slot-q.result + w-of c < 64)
inside c = room_is c.first_slot-q.result (w-of c) c.has_room.ensures c.if-not-has_room.false

-- what the two sides say of it
abbrev Due : Else-not-has_room → Bool → Type 0
Due c b = due (slots_of (program_of c.args.cells.now)) c.loop-due.state c.first_slot-q.result (w-of c) c.loop-due.due ≡ b

sides : (c : Else-not-has_room) → let m = c.loop-due.state in
    let q = c.first_slot-q.result in
    let S = slots_of (program_of c.args.cells.now) in
    Due c (side_ended S m q c.loop-due.due && side_ended S m (q + w-of c) c.loop-due.due)
sides c = sides_decide c.args.cells.now c.loop-due.state c.first_slot-q.result (w-of c) c.loop-due.due (inside c).0 (inside c).1

-- ---- a walk

walk_at : {g : Given} → GivenAllowed g → {m₀ m : State} {p₀ p : Position} {o side : ℕ} → Turns g m₀ p₀ o side → o ≤ 0
    → Leads g.cells g.words g.order g.course m₀ p₀ m p → At g m p
walk_at {g} allowed t none l = l.leads g.state allowed (at_head g allowed t (omega arith))

-- a walk leaves no more ahead than there was
no_more : (g : Given) {m₀ m : State} {p₀ p : Position} {o : ℕ} → o ≤ 0 → Leads g.cells g.words g.order g.course m₀ p₀ m p
    → ahead g m p 0 ≤ ahead g m₀ p₀ o
no_more g none l = omega (arith, l.shorter, l.begun_least)

-- where a turn's walk stands
record Walk : Type 0 where
  turn : At-loop-due
  m : State
  p : Position
  none_due : turn.loop-due.due ≤ 0
  leads : Leads turn.args.cells.now turn.args.words.now turn.args.order.now turn.args.course turn.loop-due.state turn.loop-due.p m p

abbrev walk : (t : At-loop-due) {m : State} {p : Position} → t.loop-due.due ≤ 0
    → Leads t.args.cells.now t.args.words.now t.args.order.now t.args.course t.loop-due.state t.loop-due.p m p → Walk
walk t {m} {p} none leads = record { turn = t; m = m; p = p; none_due = none; leads = leads }

abbrev g-of : Walk → Given
g-of w = given-of w.turn

allowed-w : (w : Walk) → GivenAllowed (g-of w)
allowed-w w = allowed_of w.turn

at-w : (w : Walk) → At (g-of w) w.m w.p
at-w w = walk_at (allowed-w w) (turns_at w.turn) w.none_due w.leads

few_places : (w : Walk) → w.m.places ≤ 64
few_places w = omega (arith, (at-w w).fits.its_places, places_most w.turn.args.lent.now.places (allowed-w w).its_places_allowed)

slot-inside : (w : Walk) → w.p.slot < 64
slot-inside w = omega (arith, (at-w w).slot_below, few_places w)

below-g : (w : Walk) → w.p.slot < w.turn.args.lent.now.places
below-g w = omega (arith, (at-w w).slot_below, (at-w w).fits.its_places)

-- its places at most
width_few : (w : Walk) → width (at w.m w.p.slot).task.places ≤ 64
width_few w =
    let i = width-inside (allowed-w w) w.m (at-w w).fits w.p.slot (at-w w).slot_below in
    omega (arith, few_places w)

run_few : (w : Walk) → running (at w.m w.p.slot) ≡ true → (at w.m w.p.slot).task.places ≤ 64
run_few w runs = omega (arith, (tile (g-of w) (allowed-w w) (at-w w) runs).inside, few_places w)

walked-less : (w : Walk) → ahead (g-of w) w.m w.p 0 ≤ ahead (g-of w) w.turn.loop-due.state w.turn.loop-due.p w.turn.loop-due.due
walked-less w = no_more (g-of w) w.none_due w.leads

-- ---- a look

tests : (c : In-loop-k) → (not (is_some c.loop-k.stop) ≡ true) × Walks c.loop-k.state c.loop-k.p
tests c =
    let asked = c.walks_on.ensures ∙ ap (λ (b : Bool). walks_on b c.loop-k.state.work c.loop-k.p) c.is_some.ensures in
    both_true (not (is_some c.loop-k.stop)) _ (sym asked ∙ c.loop-k-test.true)

not_stopped : (c : In-loop-k) → is_some c.loop-k.stop ≡ false
not_stopped c = not-true (is_some c.loop-k.stop) (tests c).0

same_held : {d e : Executed} → Some d ≡ Some e → d ≡ e
same_held {d} is = ap (λ (o : Option Executed). elim o [ None ↦ d | Some r ↦ r ]) is

none_left : (o : Option Executed) → ((e : Executed) → o ≡ Some e → ⊥) → is_some o ≡ false
none_left None h = refl
none_left (Some e) h = absurd (h e refl)

goes_at : (c : In-loop-k) → Goes c.loop-k.state c.loop-k.p
goes_at c = goes {m = c.loop-k.state} {p = c.loop-k.p} (tests c).1

-- at a running task
abbrev look-of : After-instruction_of-x → In-loop-k
look-of c = (goal.at.overflow_mul-base c).In-loop-k

abbrev walk-r : After-instruction_of-x → Walk
walk-r c = walk (goal.at.overflow_mul-base c).At-loop-due c.if-due-gt0.false c.loop-k.invariant.0

runs-at : (c : After-instruction_of-x) → running (at c.loop-k.state c.loop-k.p.slot) ≡ true
runs-at c = sym c.is_running.ensures ∙ c.if-is_running.true

room_at : (c : After-instruction_of-x) → c.loop-k.state.work < work_limit
room_at c = omega (arith, (goes_at (look-of c)).picks_left, (at-w (walk-r c)).until_most)

span-at : (c : After-instruction_of-x) → (at c.loop-k.state c.loop-k.p.slot).task.span < work_limit
span-at c = omega (arith, room_at c, ((at-w (walk-r c)).fits.counts c.loop-k.p.slot).span_most)

-- registers of the task
s-inside : (c : After-instruction_of-x) → c.instruction_of-x.result.s ≤ 15
s-inside c =
    let w = walk-r c in
    s_small (allowed-w w) c.args.words.now (at-w w).fits (below-g w) (runs-at c) c.instruction_of-x.result c.instruction_of-x.ensures

r-inside : (c : After-instruction_of-x) → c.instruction_of-x.result.r ≤ 15
r-inside c =
    let w = walk-r c in
    r_small (allowed-w w) c.args.words.now (at-w w).fits (below-g w) (runs-at c) c.instruction_of-x.result c.instruction_of-x.ensures

-- its instruction, carried out on small values
abbrev held_at : After-instruction_of-x → ℕ → Value
held_at c r = (get_or c.loop-k.state.bank (16 * c.loop-k.p.slot + r) zero_register).value

fetched-at : (c : After-instruction_of-x) {x : Instruction} {v : Value} {e : Executed} → let cells = c.args.cells.now in
    let f = at c.loop-k.state c.loop-k.p.slot in
    x ≡ instruction_of cells f.task.pc → v ≡ selected x (held_at c (x.operand % 16))
    → e ≡ executed (program_of cells) c.args.words.now (chosen c.loop-k.state.interval) x (held_at c x.s) v (active_of f.task) f.task.forks
    → Fetched cells c.args.words.now c.loop-k.state c.loop-k.p.slot x (held_at c x.s) v e
fetched-at c {x} {v} p q done =
    let w = walk-r c in
    record {
      instruction = p;
      left_value = left_read (allowed-w w) c.args.words.now (at-w w).fits (below-g w) (runs-at c) x p;
      right_value = right_read (allowed-w w) c.args.words.now (at-w w).fits (below-g w) (runs-at c) x p v q;
      outcome = done;
    }

-- ---- the task runs on

abbrev runs-n : Joined-does_store → After-instruction_of-x
runs-n c = (goal.at.overflow_add-state c).After-instruction_of-x

-- the state with the instruction's record, and its register where it stores one
abbrev ran-state : Joined-does_store → State
ran-state c = ticked c.if-does_store.state

ran-record : (c : Joined-does_store) → c.ran_on.result ≡ after c.execute-e.result (at c.loop-k.state c.loop-k.p.slot).task
ran-record c = c.ran_on.ensures

ran-issued : (c : Joined-does_store) → ran-state c ≡ issued c.args.cells.now c.args.words.now c.loop-k.state c.loop-k.p.slot
ran-issued c =
    let run = runs-n c in
    let w = walk-r run in
    let m = c.loop-k.state in
    let k = c.loop-k.p.slot in
    let allowed = own_allowed (at-w w).fits (allowed-w w) in
    let fits = own_fits (at-w w).fits in
    let on = runs-at run in
    let got = fetched-at run c.instruction_of-x.ensures c.operand-v.ensures c.execute-e.ensures in
    let small = r-inside run in
    elim c.if-does_store.branch [
      | then-does_store t ↦
          let stores = sym c.does_store.ensures ∙ t.if-does_store.true in
          ap ticked t.state-is ∙ ap (λ (o : Task). ticked (stored_at m k o c.instruction_of-x.result.r t.holding.result)) (ran-record c)
          ∙ stores_issued allowed fits (at-w w).slot_below on got stores (omega (arith, small)) t.holding.ensures
      | else-does_store t ↦
          let stores-not = sym c.does_store.ensures ∙ t.if-does_store.false in
          ap ticked t.state-is ∙ ap (λ (o : Task). ticked (with_task_at m k o)) (ran-record c)
          ∙ goes-issued allowed fits (at-w w).slot_below on got (sym c.runs_on.ensures ∙ c.if-runs_on.true) stores-not
    ]

ran-tasks : (c : Joined-does_store) → c.if-does_store.state.tasks ≡ set c.loop-k.state.tasks c.loop-k.p.slot c.ran_on.result
ran-tasks c = elim c.if-does_store.branch [
  | then-does_store t ↦ ap (λ (n : State). n.tasks) t.state-is
  | else-does_store t ↦ ap (λ (n : State). n.tasks) t.state-is
]

ran-work : (c : Joined-does_store) → c.if-does_store.state.work ≡ c.loop-k.state.work
ran-work c = elim c.if-does_store.branch [
  | then-does_store t ↦ ap (λ (n : State). n.work) t.state-is
  | else-does_store t ↦ ap (λ (n : State). n.work) t.state-is
]

ran-places : (c : Joined-does_store) → c.if-does_store.state.places ≡ c.loop-k.state.places
ran-places c = elim c.if-does_store.branch [
  | then-does_store t ↦ ap (λ (n : State). n.places) t.state-is
  | else-does_store t ↦ ap (λ (n : State). n.places) t.state-is
]

-- the place that the walk goes on at
abbrev ran-r : After-picked_on-p → Joined-does_store
ran-r c = (goal.at.loop-k-preserved-then-runs_on c).Joined-does_store

ran-next : (c : After-picked_on-p)
    → c.picked_on-p.result ≡ picked_on c.loop-k.state.places (ran-state (ran-r c)).work (at c.loop-k.state c.loop-k.p.slot).task.places c.loop-k.p
ran-next c =
    c.picked_on-p.ensures
    ∙ ap (λ (n : ℕ). picked_on n (ran-state (ran-r c)).work (at c.loop-k.state c.loop-k.p.slot).task.places c.loop-k.p) (ran-places (ran-r c))

-- the task runs on, and the other slots are as they were
ran-still : (c : Joined-does_store)
    → (running (at (ran-state c) c.loop-k.p.slot) ≡ true)
    × ((i : ℕ) → (i ≡ c.loop-k.p.slot → ⊥) → running (at (ran-state c) i) ≡ running (at c.loop-k.state i))
ran-still c =
    let run = runs-n c in
    let w = walk-r run in
    let runs = ap (λ (t : Task). is_running t.status) (ran-record c) ∙ runs-at run in
    task-runs c.loop-k.state (ran-state c) c.loop-k.p.slot c.ran_on.result (at-w w).fits.sized.of_tasks (slot-inside w) (ran-tasks c) runs

-- ---- the walk is over

rests-there : (b t : Bool) → b ≡ false → (not b && t) ≡ false → t ≡ false
rests-there b t e h = rw e at h

-- the looks for a row
abbrev walk-i : In-loop-met → Walk
walk-i c = walk (goal.at.offset_bounds-state-look c).At-loop-due c.if-due-gt0.false c.loop-k.invariant.0

looks-at : (c : In-loop-met) → Looks c.loop-met.invariant.0
looks-at c = looks c.loop-met.invariant.0 (sym c.looks_on.ensures ∙ c.loop-met-test.true)

look-inside : (c : In-loop-met) → c.loop-met.look < 64
look-inside c = omega (arith, (looks-at c).slot_below, few_places (walk-i c))

-- the slot's places, in the others of which nothing runs
abbrev met-width : In-loop-met → ℕ
met-width c = width (at c.loop-k.state c.loop-met.look).task.places

met-inside : (c : In-loop-met) → c.loop-met.look + met-width c ≤ c.loop-k.state.places
met-inside c =
    let w = walk-i c in
    width-inside (allowed-w w) c.loop-k.state (at-w w).fits c.loop-met.look (looks-at c).slot_below

abbrev meeting : After-width_of-in-loop-met → In-loop-met
meeting c = (goal.at.overflow_add-look c).In-loop-met

-- with the slot, where its task runs
row-met : (c : After-width_of-in-loop-met)
    → Gathers c.loop-k.state (lanes_of c.args.course) (c.loop-met.look + met-width (meeting c)) c.if-is_running-2.row
row-met c =
    let t = meeting c in
    let w = walk-i t in
    let m = c.loop-k.state in
    let look = c.loop-met.look in
    let allowed = allowed-w w in
    let fits = (at-w w).fits in
    let below = (looks-at t).slot_below in
    let Row-at = Gathers m (lanes_of c.args.course) (look + met-width t) in
    let seen = c.is_running-in-loop-met.ensures in
    elim c.if-is_running-2.branch [
      | then-is_running-2 z ↦
          let runs = sym seen ∙ z.if-is_running-2.true in
          subst⁻¹ Row-at (z.row-is ∙ z.with_slot-row.ensures)
          (gather-takes c.loop-met.invariant.0 (looks-at t).lane below (look-inside t) runs (met-width t)
          (width_some (at m look).task.places) (met-inside t) (width-others allowed m fits look below))
      | else-is_running-2 z ↦
          let idle = sym seen ∙ z.if-is_running-2.false in
          subst⁻¹ Row-at z.row-is
          (gather-passes c.loop-met.invariant.0 below (met-width t) (met-inside t) (width_quiet allowed m fits look below idle))
    ]

-- the next stretch is asked for
abbrev ComesAt : Walk → Stretch → Type 0
ComesAt w s =
    let g = g-of w in
    Comes (result g) w.m (at-w w).picks w.p.begun (most_stretches g.course g.order) (rounds_of g.course) (λ q. At g w.m q) s

comes_at : (w : Walk) {stopped ended : Bool} {row : ℕ} {s : Stretch} → stopped ≡ false → walks_on stopped w.m.work w.p ≡ false → ended ≡ job_ended w.m
    → row ≡ packed (round_of (lanes_of (g-of w).course) w.m)
    → s ≡ next_stretch (g-of w).course (g-of w).order w.p.begun w.m.places w.m.work ended row → ComesAt w s
comes_at w {stopped} {ended} {row} still over ends rows next =
    let g = g-of w in
    let rest = rests-there stopped _ still over in
    let asked = ap (λ b. next_stretch g.course g.order w.p.begun w.m.places w.m.work b row) ends in
    subst⁻¹ (ComesAt w) (next ∙ asked) (comes-next g (allowed-w w) (at-w w) rest rows)

-- ---- the pick that stopped a walk

record Halt : Type 0 where
  walk : Walk
  e : Executed
  stopped : Stopped walk.turn.args.cells.now walk.turn.args.words.now walk.m walk.p e

abbrev halt : (w : Walk) {e : Executed} → Stopped w.turn.args.cells.now w.turn.args.words.now w.m w.p e → Halt
halt w {e} s = record { walk = w; e = e; stopped = s }

halt-room : (h : Halt) → h.walk.m.work < work_limit
halt-room h = omega (arith, (goes {m = h.walk.m} {p = h.walk.p} h.stopped.walks).picks_left, (at-w h.walk).until_most)

halt-span : (h : Halt) → (at h.walk.m h.walk.p.slot).task.span < work_limit
halt-span h = omega (arith, halt-room h, ((at-w h.walk).fits.counts h.walk.p.slot).span_most)

halt-few : (h : Halt) → (at h.walk.m h.walk.p.slot).task.places ≤ 64
halt-few h = run_few h.walk h.stopped.runs_there

halt-stacked : (h : Halt) → Stacked (at h.walk.m h.walk.p.slot)
halt-stacked h = (fits_safe (allowed-w h.walk) h.walk.m (at-w h.walk).fits h.walk.p.slot (slot-inside h.walk)).stacked

-- ---- a push or a pop, where the stack's question is answered with yes

abbrev halt-o : After-picked_on-p-in-Ok → Halt
halt-o c =
    let turn = (goal.at.loop-due-preserved-in-Ok c).At-loop-due in
    halt (walk turn c.if-due-gt0.false c.loop-k.invariant.0) (c.loop-k.invariant.1 _ c.in-Some.is)

-- the value is moved, and the record written
moved-issued : (c : After-picked_on-p-in-Ok) → c.move_value.new.state ≡ issued c.args.cells.now c.args.words.now c.loop-k.state c.loop-k.p.slot
moved-issued c =
    let m = c.loop-k.state in
    let k = c.loop-k.p.slot in
    let h = halt-o c in
    let w = h.walk in
    let s = h.stopped in
    let small = r_small (allowed-w w) c.args.words.now (at-w w).fits (below-g w) s.runs_there s.x s.fetched.instruction in
    let stacks = sym c.does_stack.ensures ∙ c.if-does_stack.true in
    let entry = c.in-Ok.ensures.entry in
    let held = get_or m.stacks (32 * k + c.in-Ok.entry) zero_register in
    let stored : Instruction → List Register = λ x. cond c.does_pop-pops.result (set m.bank (16 * k + x.r) held) m.bank in
    c.move_value.ensures
    ∙ stacks-issued (own_allowed (at-w w).fits (allowed-w w)) (own_fits (at-w w).fits) (at-w w).slot_below s.runs_there s.fetched stacks
    (omega (arith, small)) c.does_pop-pops.ensures entry.0 entry.1 entry.2 refl refl (ap stored (sym s.fetched.instruction))

-- the loop goes on as after a pick of the walk
onward-at : (c : After-picked_on-p-in-Ok) → let g = given-of (goal.at.loop-due-preserved-in-Ok c).At-loop-due in
    let n = c.move_value.new.state in
    let q = c.picked_on-p-in-Ok.result in
    At g n q × (ahead g n q 0 < ahead g c.loop-k.state c.loop-k.p 0) × (g.state.work ≤ n.work) × (n.work ≤ work_limit)
onward-at c =
    let h = halt-o c in
    let w = h.walk in
    let next = c.picked_on-p-in-Ok.ensures
    ∙ ap (λ (n : State). picked_on n.places c.move_value.new.state.work (at c.loop-k.state c.loop-k.p.slot).task.places c.loop-k.p) c.move_value.ensures in
    stacked_on (g-of w) (allowed-w w) (at-w w) h.stopped (moved-issued c) _
    (ap (λ (n : State). n.tasks) c.move_value.ensures) h.stopped.runs_there next

-- ---- a fork, or an ended side

-- with the kind and the number that the stack's question leaves
no_fault_forks : Faults ≡ Forks → ⊥
no_fault_forks e = let z : ◌≡◌ {A = ℕ} 1 0 = ap faults e in absurd (omega arith)

fork-kind : (c : Joined-does_stack) → c.if-does_stack.kind ≡ Forks → c.in-Some.e.kind ≡ Forks
fork-kind c is = elim c.if-does_stack.branch [
  | then-does_stack+in-Err t ↦ absurd (no_fault_forks (sym t.kind-is ∙ is))
  | else-does_stack t ↦ sym t.kind-is ∙ is
]

-- a fork: the child's slot is in the state
fork_at : (h : Halt) → h.e.kind ≡ Forks → let t = (at h.walk.m h.walk.p.slot).task in
    (0 < t.places / 2) × (h.walk.p.slot + t.places / 2 < h.walk.m.places) × (t.depth < 6)
fork_at h is = fork_room (g-of h.walk) (allowed-w h.walk) (at-w h.walk) h.stopped is

-- both sides' slots, and their numbers
fork-slots : (h : Halt) → h.e.kind ≡ Forks → let t = (at h.walk.m h.walk.p.slot).task in
    (h.walk.p.slot + t.places / 2 < 64) × (t.depth < 6) × (h.walk.p.slot < 64)
fork-slots h is =
    let f = fork_at h is in
    (omega (arith, f.1, few_places h.walk), f.2, slot-inside h.walk)

-- ---- what a turn has planned

planned-at : (c : Joined-due-gt0) → let a = c.args in
    let g = given a.cells.now a.words.now a.lent.now a.order.now a.course in
    let j = c.if-due-gt0 in
    Planned g (ahead g c.loop-due.state c.loop-due.p c.loop-due.due) j.state j.plan j.p j.due j.side
planned-at c =
    let a = c.args in
    let g = given a.cells.now a.words.now a.lent.now a.order.now a.course in
    let allowed = shape_allowed a.cells.now a.lent.now c.requires.0 c.requires.2 in
    let h = c.loop-due in
    let head = h.invariant.0 in
    elim c.if-due-gt0.branch [
      | then-due-gt0+else-not-has_room+else-not-both_ended t ↦
          let m = h.state in
          let q = t.first_slot-q.result in
          let w = (at m h.side).task.places in
          let room = room_is q w t.has_room.ensures t.if-not-has_room.false in
          let both = sides_decide g.cells m q w h.due room.0 room.1 ∙ sym t.both_ended.ensures ∙ t.if-not-both_ended.false in
          planned_as t.p-is t.due-is t.side-is
          (join_planned g allowed head q w t.if-due-gt0.true refl t.first_slot-q.ensures.0 both room.0 room.1 refl
          (h.invariant.1, h.invariant.2) (t.state-is ∙ t.join_sides-plan.ensures.written) (t.plan-is ∙ t.join_sides-plan.ensures.moves))
      | else-due-gt0+else-loop-k-test+in-Some+in-Forks t ↦
          let none = t.if-due-gt0.false in
          let leads = t.loop-k.invariant.0 in
          let a = walk_at allowed head none leads in
          let s = t.loop-k.invariant.1 _ t.in-Some.is in
          let m = t.loop-k.state in
          let k = t.loop-k.p.slot in
          let pc = t.in-Some.e.child in
          let kind : t.in-Some.e.kind ≡ Forks = elim t.if-does_stack.branch [
            | then-does_stack+in-Err z ↦ absurd (no_fault_forks (sym z.kind-is ∙ t.in-Forks.is))
            | else-does_stack z ↦ sym z.kind-is ∙ t.in-Forks.is
          ] in
          let no_due : h.due ≡ 0 = omega (arith, none) in
          planned_as (t.p-is ∙ t.stopped_at-p.ensures) (t.due-is ∙ no_due) t.side-is
          (planned_below (no_more g none leads)
          (fork_planned g allowed a s kind refl (t.state-is ∙ t.open_fork.ensures.written) (t.plan-is ∙ t.open_fork.ensures.moves) h.side head.side_below))
      | else-due-gt0+else-loop-k-test+in-Some+in_default-kind t ↦
          let none = t.if-due-gt0.false in
          let leads = t.loop-k.invariant.0 in
          let a = walk_at allowed head none leads in
          let s = t.loop-k.invariant.1 _ t.in-Some.is in
          let f = t.if-does_stack in
          let height = (at t.loop-k.state t.loop-k.p.slot).task.height in
          let ends : EndsBy g allowed a s f.kind f.fault = elim f.branch [
            | then-does_stack+in-Err z ↦
                let stacks = sym t.does_stack.ensures ∙ z.if-does_stack.true in
                let number = sym z.in-Err.ensures.fault.0 ∙ ap (λ (b : Bool). stack_no b height) z.does_pop-pops.ensures in
                let refused = z.in-Err.ensures.fault.1 in
                subst⁻¹ (λ (k : Kind). EndsBy g allowed a s k f.fault) z.kind-is
                (subst⁻¹ (λ (n : ℕ). EndsBy g allowed a s Faults n) (z.fault-is ∙ number)
                (refused-by g allowed a s stacks (λ n. let none = number ∙ n in absurd (omega arith))))
            | else-does_stack z ↦
                let no_stack = sym t.does_stack.ensures ∙ z.if-does_stack.false in
                subst⁻¹ (λ (k : Kind). EndsBy g allowed a s k f.fault) z.kind-is
                (subst⁻¹ (λ (n : ℕ). EndsBy g allowed a s t.in-Some.e.kind n) z.fault-is
                (ends_by g allowed a s no_stack (λ n. t.in_default-kind.not-Forks (z.kind-is ∙ n))))
          ] in
          planned_as (t.p-is ∙ t.stopped_at-p-in_default-kind.ensures) t.due-is t.side-is
          (planned_below (no_more g none leads)
          (end_planned g allowed a s f.kind f.fault ends refl (t.state-is ∙ t.end_side.ensures.written) (t.plan-is ∙ t.end_side.ensures.moves)))
    ]

-- ---- what the code needs at its places

pub loop-due-init : goal.loop-due-init
loop-due-init c =
    let a = c.args in
    let g = given a.cells.now a.words.now a.lent.now a.order.now a.course in
    let sized : Sized a.lent.now = record { of_bank = search (rules, length-by); of_stacks = search (rules, length-by); of_tasks = search (rules, length-by) } in
    let allowed = shape_allowed a.cells.now a.lent.now c.requires.0 c.requires.2 in
    let fits = shape-fits a.cells.now a.lent.now sized c.requires.2 in
    let few : a.lent.now.work ≤ work_limit = search rules in (
      none-due g allowed 0 0 refl (omega arith)
          (subst⁻¹ (At g a.lent.now) c.nowhere-p.ensures (at_first g fits allowed c.requires.3 few)),
      omega arith,
      few,
    )

pub offset_bounds-state-side : goal.offset_bounds-state-side
offset_bounds-state-side c = omega (arith, (turns_at (goal.at.offset_bounds-state-side c).At-loop-due).side_below)

pub bounds-state-side : goal.bounds-state-side
bounds-state-side c = omega (arith, (turns_at (goal.at.bounds-state-side c).At-loop-due).side_below)

pub first_slot-q-requires : goal.first_slot-q-requires
first_slot-q-requires c = (turns_at (goal.at.first_slot-q-requires c).At-loop-due).side_below

pub has_room-requires : goal.has_room-requires
has_room-requires c = omega (arith, c.first_slot-q.ensures.1, (turns_at (goal.at.has_room-requires c).At-loop-due).side_below)

pub loop-due-smaller-then-not-has_room : goal.loop-due-smaller-then-not-has_room
loop-due-smaller-then-not-has_room c = omega (arith, c.if-due-gt0.true)

pub loop-due-preserved-then-not-has_room : goal.loop-due-preserved-then-not-has_room
loop-due-preserved-then-not-has_room c =
    let t = (goal.at.loop-due-preserved-then-not-has_room c).At-loop-due in
    let h = c.loop-due in
    let w = (at h.state h.side).task.places in
    let q = c.first_slot-q.result in
    let none = without-room c.args.cells.now h.state q w h.due (sym c.has_room.ensures ∙ c.if-not-has_room.true) in (
      stops (given-of t) (allowed_of t) (turns_at t) q _ c.if-due-gt0.true refl c.first_slot-q.ensures.0 none,
      h.invariant.1,
      h.invariant.2,
    )

pub overflow_add-c : goal.overflow_add-c
overflow_add-c c = omega (arith, inside c)

pub offset_bounds-state-q : goal.offset_bounds-state-q
offset_bounds-state-q c = omega (arith, inside c)

pub bounds-state-q : goal.bounds-state-q
bounds-state-q c = omega (arith, inside c)

pub offset_bounds-state-c : goal.offset_bounds-state-c
offset_bounds-state-c c = omega (arith, inside (goal.at.offset_bounds-state-c c).Else-not-has_room)

pub bounds-state-c : goal.bounds-state-c
bounds-state-c c = omega (arith, inside (goal.at.bounds-state-c c).Else-not-has_room)

pub loop-due-smaller-then-not-both_ended : goal.loop-due-smaller-then-not-both_ended
loop-due-smaller-then-not-both_ended c = omega (arith, c.if-due-gt0.true)

pub loop-due-preserved-then-not-both_ended : goal.loop-due-preserved-then-not-both_ended
loop-due-preserved-then-not-both_ended c =
    let j = (goal.at.loop-due-preserved-then-not-both_ended c).Else-not-has_room in
    let t = (goal.at.loop-due-preserved-then-not-both_ended c).At-loop-due in
    let h = c.loop-due in
    let none = sides j ∙ sym c.both_ended.ensures ∙ c.if-not-both_ended.true in (
      stops (given-of t) (allowed_of t) (turns_at t) c.first_slot-q.result _ c.if-due-gt0.true refl c.first_slot-q.ensures.0 none,
      h.invariant.1,
      h.invariant.2,
    )

pub overflow_sub-due : goal.overflow_sub-due
overflow_sub-due c = omega (arith, c.if-due-gt0.true)

pub loop-k-init : goal.loop-k-init
loop-k-init c = (record { leads = λ state a h. h; shorter = omega arith; begun_least = omega arith }, λ e z. clash (ap is_some z) refl)

pub offset_bounds-state-k : goal.offset_bounds-state-k
offset_bounds-state-k c =
    let w = walk (goal.at.offset_bounds-state-k c).At-loop-due c.if-due-gt0.false c.loop-k.invariant.0 in
    omega (arith, slot-inside w)

pub bounds-state-k : goal.bounds-state-k
bounds-state-k c =
    let w = walk (goal.at.bounds-state-k c).At-loop-due c.if-due-gt0.false c.loop-k.invariant.0 in
    omega (arith, slot-inside w)

pub instruction_of-x-requires : goal.instruction_of-x-requires
instruction_of-x-requires c =
    let w = walk (goal.at.instruction_of-x-requires c).At-loop-due c.if-due-gt0.false c.loop-k.invariant.0 in
    let x = its-instruction (allowed-w w) c.args.words.now (at-w w).fits (below-g w) (sym c.is_running.ensures ∙ c.if-is_running.true) in
    omega (arith, x.is_stored, c.requires.1)

pub overflow_mul-base : goal.overflow_mul-base
overflow_mul-base c =
    let w = walk (goal.at.overflow_mul-base c).At-loop-due c.if-due-gt0.false c.loop-k.invariant.0 in
    omega (arith, slot-inside w, s-inside c)

pub overflow_add-at_s : goal.overflow_add-at_s
overflow_add-at_s c =
    let w = walk (goal.at.overflow_add-at_s c).At-loop-due c.if-due-gt0.false c.loop-k.invariant.0 in
    omega (arith, slot-inside w, s-inside c)

pub offset_bounds-state-at_s : goal.offset_bounds-state-at_s
offset_bounds-state-at_s c =
    let w = walk (goal.at.offset_bounds-state-at_s c).At-loop-due c.if-due-gt0.false c.loop-k.invariant.0 in
    omega (arith, slot-inside w, s-inside c)

pub bounds-state-at_s : goal.bounds-state-at_s
bounds-state-at_s c =
    let w = walk (goal.at.bounds-state-at_s c).At-loop-due c.if-due-gt0.false c.loop-k.invariant.0 in
    omega (arith, slot-inside w, s-inside c)

pub overflow_add-at_v : goal.overflow_add-at_v
overflow_add-at_v c =
    let w = walk (goal.at.overflow_add-at_v c).At-loop-due c.if-due-gt0.false c.loop-k.invariant.0 in
    omega (arith, slot-inside w)

pub offset_bounds-state-at_v : goal.offset_bounds-state-at_v
offset_bounds-state-at_v c =
    let w = walk (goal.at.offset_bounds-state-at_v c).At-loop-due c.if-due-gt0.false c.loop-k.invariant.0 in
    omega (arith, slot-inside w)

pub bounds-state-at_v : goal.bounds-state-at_v
bounds-state-at_v c =
    let w = walk (goal.at.bounds-state-at_v c).At-loop-due c.if-due-gt0.false c.loop-k.invariant.0 in
    omega (arith, slot-inside w)

pub operand-v-requires : goal.operand-v-requires
operand-v-requires c =
    let r = (goal.at.operand-v-requires c).After-instruction_of-x in
    let w = walk-r r in
    label_small (allowed-w w) c.args.words.now (at-w w).fits (below-g w) (runs-at r) c.instruction_of-x.result c.instruction_of-x.ensures

pub overflow_cast-state : goal.overflow_cast-state
overflow_cast-state c =
    let w = walk (goal.at.overflow_cast-state c).At-loop-due c.if-due-gt0.false c.loop-k.invariant.0 in
    omega (arith, interval_fits c.args.lent.now.interval (allowed-w w).its_interval_allowed, (at-w w).fits.its_interval)

pub execute-e-requires : goal.execute-e-requires
execute-e-requires c =
    let r = (goal.at.execute-e-requires c).After-instruction_of-x in
    let w = walk-r r in
    let allowed = allowed-w w in
    let x = c.instruction_of-x.result in
    let e = c.instruction_of-x.ensures in
    let words = c.args.words.now in
    let s = left_read allowed words (at-w w).fits (below-g w) (runs-at r) x e in
    let v = right_read allowed words (at-w w).fits (below-g w) (runs-at r) x e c.operand-v.result c.operand-v.ensures in
    ready allowed words (at-w w).fits (below-g w) (runs-at r) x e _ c.operand-v.result s v (room_at r)

pub ran_on-requires : goal.ran_on-requires
ran_on-requires c = span-at (goal.at.ran_on-requires c).After-instruction_of-x

pub offset_bounds-state-k-then-runs_on : goal.offset_bounds-state-k-then-runs_on
offset_bounds-state-k-then-runs_on c =
    let w = walk (goal.at.offset_bounds-state-k-then-runs_on c).At-loop-due c.if-due-gt0.false c.loop-k.invariant.0 in
    omega (arith, slot-inside w)

pub bounds-state-k-then-runs_on : goal.bounds-state-k-then-runs_on
bounds-state-k-then-runs_on c =
    let w = walk (goal.at.bounds-state-k-then-runs_on c).At-loop-due c.if-due-gt0.false c.loop-k.invariant.0 in
    omega (arith, slot-inside w)

pub overflow_add-at_r : goal.overflow_add-at_r
overflow_add-at_r c =
    let w = walk (goal.at.overflow_add-at_r c).At-loop-due c.if-due-gt0.false c.loop-k.invariant.0 in
    omega (arith, slot-inside w, r-inside (goal.at.overflow_add-at_r c).After-instruction_of-x)

pub offset_bounds-state-at_r : goal.offset_bounds-state-at_r
offset_bounds-state-at_r c =
    let w = walk (goal.at.offset_bounds-state-at_r c).At-loop-due c.if-due-gt0.false c.loop-k.invariant.0 in
    omega (arith, slot-inside w, r-inside (goal.at.offset_bounds-state-at_r c).After-instruction_of-x)

pub bounds-state-at_r : goal.bounds-state-at_r
bounds-state-at_r c =
    let w = walk (goal.at.bounds-state-at_r c).At-loop-due c.if-due-gt0.false c.loop-k.invariant.0 in
    omega (arith, slot-inside w, r-inside (goal.at.bounds-state-at_r c).After-instruction_of-x)

pub overflow_add-state : goal.overflow_add-state
overflow_add-state c = omega (arith, ran-work c, room_at (runs-n c))

pub picked_on-p-requires : goal.picked_on-p-requires
picked_on-p-requires c = let r = runs-n (goal.at.picked_on-p-requires c).Joined-does_store in (slot-inside (walk-r r), run_few (walk-r r) (runs-at r))

pub loop-k-smaller-then-runs_on : goal.loop-k-smaller-then-runs_on
loop-k-smaller-then-runs_on c =
    let r = ran-r c in
    let w = walk-r (runs-n r) in
    let x = goes_at (goal.at.loop-k-smaller-then-runs_on c).In-loop-k in
    let kept = subst⁻¹ (Kept c.loop-k.p) (ran-next c) (picked-kept c.loop-k.state.places _ c.loop-k.p (few_places w) (at-w w).ahead_most _) in
    omega (arith, ran-work r, x.picks_left, x.places_left, kept.until_same, kept.ahead_most)

pub loop-k-preserved-then-runs_on : goal.loop-k-preserved-then-runs_on
loop-k-preserved-then-runs_on c =
    let r = ran-r c in
    let w = walk-r (runs-n r) in
    let look = (goal.at.loop-k-preserved-then-runs_on c).In-loop-k in
    let still = ran-still r in (
      leads_on c.loop-k.invariant.0 (tests look).1 (few_places w) (at-w w).ahead_most (runs-at (runs-n r)) (ran-issued r) still.0
          still.1 (ran-next c),
      λ e z. clash (ap is_some z) (not_stopped look),
    )

pub loop-k-smaller-else-runs_on : goal.loop-k-smaller-else-runs_on
loop-k-smaller-else-runs_on c =
    let one : ◌≡◌ {A = ℕ} (cond (is_some c.loop-k.stop) 0 1) 1 = rw (not_stopped (goal.at.loop-k-smaller-else-runs_on c).In-loop-k) in
    omega arith

pub loop-k-preserved-else-runs_on : goal.loop-k-preserved-else-runs_on
loop-k-preserved-else-runs_on c =
    let r = (goal.at.loop-k-preserved-else-runs_on c).After-instruction_of-x in (
      c.loop-k.invariant.0,
      λ e is. subst⁻¹ (λ o. Stopped c.args.cells.now c.args.words.now c.loop-k.state c.loop-k.p o) (sym (same_held is)) (record {
        walks = (tests (look-of r)).1;
        runs_there = runs-at r;
        x = c.instruction_of-x.result;
        s = held_at r c.instruction_of-x.result.s;
        v = c.operand-v.result;
        fetched = fetched-at r c.instruction_of-x.ensures c.operand-v.ensures c.execute-e.ensures;
        stops_it = sym c.runs_on.ensures ∙ c.if-runs_on.false;
      }),
    )

pub gone_by-p-requires : goal.gone_by-p-requires
gone_by-p-requires c =
    let w = walk (goal.at.gone_by-p-requires c).At-loop-due c.if-due-gt0.false c.loop-k.invariant.0 in
    (slot-inside w, omega (arith, c.width_of.ensures, width_few w))

pub loop-k-smaller : goal.loop-k-smaller
loop-k-smaller c =
    let w = c.width_of.result in
    let wide : 0 < w = omega (arith, c.width_of.ensures, width_some (at c.loop-k.state c.loop-k.p.slot).task.places) in
    let until : c.gone_by-p.result.until ≡ c.loop-k.p.until = ap (λ (q : Position). q.until) c.gone_by-p.ensures in
    let fewer : c.gone_by-p.result.ahead ≡ c.loop-k.p.ahead - w = ap (λ (q : Position). q.ahead) c.gone_by-p.ensures in
    omega (arith, (goes_at (goal.at.loop-k-smaller c).In-loop-k).places_left)

pub loop-k-preserved : goal.loop-k-preserved
loop-k-preserved c =
    let look = (goal.at.loop-k-preserved c).In-loop-k in
    let idle : running (at c.loop-k.state c.loop-k.p.slot) ≡ false = sym c.is_running.ensures ∙ c.if-is_running.false in (
      leads_by c.loop-k.invariant.0 (tests look).1 idle c.width_of.ensures c.gone_by-p.ensures,
      λ e z. clash (ap is_some z) (not_stopped look),
    )

pub loop-met-init : goal.loop-met-init
loop-met-init c =
    let a = c.args in
    let few = lanes_few a.course a.lent.now c.requires.3 in (
      subst⁻¹ (Gathers c.loop-k.state (lanes_of a.course) 0) (c.new-row.ensures ∙ ap (λ n. record { slots = 0; unit = 1; lanes = n }) c.lanes.ensures)
          (gather-begins c.loop-k.state (lanes_of a.course) few),
      omega arith,
    )

pub offset_bounds-state-look : goal.offset_bounds-state-look
offset_bounds-state-look c = omega (arith, look-inside c)

pub bounds-state-look : goal.bounds-state-look
bounds-state-look c = omega (arith, look-inside (goal.at.bounds-state-look c).In-loop-met)

pub with_slot-row-requires : goal.with_slot-row-requires
with_slot-row-requires c =
    let t = (goal.at.with_slot-row-requires c).In-loop-met in
    let g = c.loop-met.invariant.0 in
    ((looks-at t).lane, look-inside t, g.small, unit_most g (looks-at t).lane)

pub overflow_add-look : goal.overflow_add-look
overflow_add-look c =
    let t = (goal.at.overflow_add-look c).In-loop-met in
    omega (arith, c.width_of-in-loop-met.ensures, met-inside t, look-inside t, few_places (walk-i t))

pub loop-met-smaller : goal.loop-met-smaller
loop-met-smaller c =
    let t = (goal.at.loop-met-smaller c).In-loop-met in
    omega (
      arith,
      c.width_of-in-loop-met.ensures,
      width_some (at c.loop-k.state c.loop-met.look).task.places,
      (looks-at t).slot_below,
    )

pub loop-met-preserved : goal.loop-met-preserved
loop-met-preserved c =
    let wide = c.width_of-in-loop-met.ensures in (
      subst⁻¹ (λ n. Gathers c.loop-k.state (lanes_of c.args.course) (c.loop-met.look + n) c.if-is_running-2.row) wide (row-met c),
      omega (arith, wide, met-inside (meeting c)),
    )

pub loop-due-smaller-in_default : goal.loop-due-smaller-in_default
loop-due-smaller-in_default c =
    let w = walk (goal.at.loop-due-smaller-in_default c).At-loop-due c.if-due-gt0.false c.loop-k.invariant.0 in
    let row = gather-ends c.loop-met.invariant.0 (sym c.looks_on.ensures ∙ c.loop-met-test.false) in
    let ends = c.has_ended-ended.ensures ∙ ap is_end c.end_at.ensures in
    let still = none_left c.loop-k.stop c.in_default.not-Some in
    let comes = comes_at w (c.is_some.ensures ∙ still) (sym c.walks_on.ensures ∙ c.loop-k-test.false) ends row refl in
    let less = (next_goes (g-of w) (at-w w) comes (ap first_of c.in-First.ensures)).1 in
    omega (arith, less, walked-less w)

pub loop-due-preserved-in_default : goal.loop-due-preserved-in_default
loop-due-preserved-in_default c =
    let w = walk (goal.at.loop-due-preserved-in_default c).At-loop-due c.if-due-gt0.false c.loop-k.invariant.0 in
    let t = w.turn in
    let row = gather-ends c.loop-met.invariant.0 (sym c.looks_on.ensures ∙ c.loop-met-test.false) in
    let ends = c.has_ended-ended.ensures ∙ ap is_end c.end_at.ensures in
    let still = none_left c.loop-k.stop c.in_default.not-Some in
    let comes = comes_at w (c.is_some.ensures ∙ still) (sym c.walks_on.ensures ∙ c.loop-k-test.false) ends row refl in
    let no_due : c.loop-due.due ≡ 0 = omega (arith, c.if-due-gt0.false) in (
      none-due (given-of t) (allowed_of t) _ _ no_due (turns_at t).side_below (next_goes (g-of w) (at-w w) comes (ap first_of c.in-First.ensures)).0,
      omega (arith, (at-w w).all_picks),
      (at-w w).work_most,
    )

pub overflow_sub-result : goal.overflow_sub-result
overflow_sub-result c =
    let w = walk (goal.at.overflow_sub-result c).At-loop-due c.if-due-gt0.false c.loop-k.invariant.0 in
    omega (arith, (at-w w).all_picks)

pub returns-in-Over : goal.returns-in-Over
returns-in-Over c =
    let w = walk (goal.at.returns-in-Over c).At-loop-due c.if-due-gt0.false c.loop-k.invariant.0 in
    let g = g-of w in
    let row = gather-ends c.loop-met.invariant.0 (sym c.looks_on.ensures ∙ c.loop-met-test.false) in
    let ends = c.has_ended-ended.ensures ∙ ap is_end c.end_at.ensures in
    let still = none_left c.loop-k.stop c.in_default.not-Some in
    let comes = comes_at w (c.is_some.ensures ∙ still) (sym c.walks_on.ensures ∙ c.loop-k-test.false) ends row refl in
    let is = next_none g (at-w w) comes (ap first_of c.in-Over.ensures) in
    record {
      state_after = sym (ap (λ (d : Driven). d.state) is.0);
      picks = sym (ap (λ (d : Driven). d.picks) is.0);
      rounds = c.rounds.ensures ∙ ap (λ (s : Stretch). rounds_of g.course s.first.begun) c.in-Over.ensures ∙ sym (ap (λ (d : Driven). d.rounds) is.0);
    }

pub overflow_add-state-else-due-gt0 : goal.overflow_add-state-else-due-gt0
overflow_add-state-else-due-gt0 c =
    let w = walk (goal.at.overflow_add-state-else-due-gt0 c).At-loop-due c.if-due-gt0.false c.loop-k.invariant.0 in
    let h = halt w (c.loop-k.invariant.1 _ c.in-Some.is) in
    omega (arith, halt-room h)

pub offset_bounds-state-k-then-does_stack : goal.offset_bounds-state-k-then-does_stack
offset_bounds-state-k-then-does_stack c =
    let w = walk (goal.at.offset_bounds-state-k-then-does_stack c).At-loop-due c.if-due-gt0.false c.loop-k.invariant.0 in
    omega (arith, slot-inside w)

pub bounds-state-k-then-does_stack : goal.bounds-state-k-then-does_stack
bounds-state-k-then-does_stack c =
    let w = walk (goal.at.bounds-state-k-then-does_stack c).At-loop-due c.if-due-gt0.false c.loop-k.invariant.0 in
    omega (arith, slot-inside w)

pub entry_of-requires : goal.entry_of-requires
entry_of-requires c =
    let w = walk (goal.at.entry_of-requires c).At-loop-due c.if-due-gt0.false c.loop-k.invariant.0 in
    let h = halt w (c.loop-k.invariant.1 _ c.in-Some.is) in
    (halt-stacked h).height_most

pub picked_on-p-requires-in-Ok : goal.picked_on-p-requires-in-Ok
picked_on-p-requires-in-Ok c =
    let w = walk (goal.at.picked_on-p-requires-in-Ok c).At-loop-due c.if-due-gt0.false c.loop-k.invariant.0 in
    let h = halt w (c.loop-k.invariant.1 _ c.in-Some.is) in
    (slot-inside w, halt-few h)

pub loop-due-smaller-in-Ok : goal.loop-due-smaller-in-Ok
loop-due-smaller-in-Ok c =
    let w = walk (goal.at.loop-due-smaller-in-Ok c).At-loop-due c.if-due-gt0.false c.loop-k.invariant.0 in
    let less = (onward-at c).1 in
    let no_due : c.loop-due.due ≡ 0 = omega (arith, c.if-due-gt0.false) in
    omega (arith, less, walked-less w)

pub loop-due-preserved-in-Ok : goal.loop-due-preserved-in-Ok
loop-due-preserved-in-Ok c =
    let t = (goal.at.loop-due-preserved-in-Ok c).At-loop-due in
    let r = onward-at c in
    let no_due : c.loop-due.due ≡ 0 = omega (arith, c.if-due-gt0.false) in (
      none-due (given-of t) (allowed_of t) _ _ no_due (turns_at t).side_below r.0,
      r.2,
      r.3,
    )

pub offset_bounds-state-k-else-due-gt0 : goal.offset_bounds-state-k-else-due-gt0
offset_bounds-state-k-else-due-gt0 c =
    let w = walk (goal.at.offset_bounds-state-k-else-due-gt0 c).At-loop-due c.if-due-gt0.false c.loop-k.invariant.0 in
    omega (arith, slot-inside w)

pub bounds-state-k-else-due-gt0 : goal.bounds-state-k-else-due-gt0
bounds-state-k-else-due-gt0 c =
    let w = walk (goal.at.bounds-state-k-else-due-gt0 c).At-loop-due c.if-due-gt0.false c.loop-k.invariant.0 in
    omega (arith, slot-inside w)

pub stopped_at-p-requires-in_default-kind : goal.stopped_at-p-requires-in_default-kind
stopped_at-p-requires-in_default-kind c =
    let w = walk (goal.at.stopped_at-p-requires-in_default-kind c).At-loop-due c.if-due-gt0.false c.loop-k.invariant.0 in
    let h = halt w (c.loop-k.invariant.1 _ c.in-Some.is) in
    (slot-inside w, halt-few h)

pub join_sides-plan-requires : goal.join_sides-plan-requires
join_sides-plan-requires c =
    let a = c.args in
    let h = c.loop-due in
    let q = c.first_slot-q.result in
    let w = (at h.state h.side).task.places in
    let room = room_is q w c.has_room.ensures c.if-not-has_room.false in
    let both = sides_decide a.cells.now h.state q w h.due room.0 room.1 ∙ sym c.both_ended.ensures ∙ c.if-not-both_ended.false in
    (omega (arith, room), omega (arith, room), due_joinable a.cells.now h.state q w h.due c.requires.0 h.invariant.0.safe c.if-due-gt0.true both)

pub open_fork-requires : goal.open_fork-requires
open_fork-requires c =
    let w = walk (goal.at.open_fork-requires c).At-loop-due c.if-due-gt0.false c.loop-k.invariant.0 in
    let h = halt w (c.loop-k.invariant.1 _ c.in-Some.is) in
    let f = fork-slots h (fork-kind (goal.at.open_fork-requires c).Joined-does_stack c.in-Forks.is) in
    (f.2, f.0, halt-span h, f.1)

pub stopped_at-p-requires : goal.stopped_at-p-requires
stopped_at-p-requires c =
    let w = walk (goal.at.stopped_at-p-requires c).At-loop-due c.if-due-gt0.false c.loop-k.invariant.0 in
    (slot-inside w, omega (arith, halt-few (halt w (c.loop-k.invariant.1 _ c.in-Some.is))))

pub end_side-requires : goal.end_side-requires
end_side-requires c =
    let w = walk (goal.at.end_side-requires c).At-loop-due c.if-due-gt0.false c.loop-k.invariant.0 in
    (slot-inside w, halt-span (halt w (c.loop-k.invariant.1 _ c.in-Some.is)))

pub move_value-requires : goal.move_value-requires
move_value-requires c =
    let w = walk (goal.at.move_value-requires c).At-loop-due c.if-due-gt0.false c.loop-k.invariant.0 in
    let h = halt w (c.loop-k.invariant.1 _ c.in-Some.is) in
    let s = h.stopped in
    let y = its-instruction (allowed-w w) c.args.words.now (at-w w).fits (below-g w) s.runs_there in
    let entry = c.in-Ok.ensures.entry in
    record {
      slots = (slot-inside w, entry.2);
      instruction = (omega (arith, y.is_stored, c.requires.1), r_small (allowed-w w) c.args.words.now (at-w w).fits (below-g w) s.runs_there _ refl);
      stack = (entry.0, (halt-stacked h).height_most, halt-span h);
    }

pub make_moves-requires : goal.make_moves-requires
make_moves-requires c = (planned-at (goal.at.make_moves-requires c).Joined-due-gt0).plan_fits

pub loop-due-smaller : goal.loop-due-smaller
loop-due-smaller c = then_less (planned-at (goal.at.loop-due-smaller c).Joined-due-gt0) c.make_moves.ensures

pub loop-due-preserved : goal.loop-due-preserved
loop-due-preserved c =
    let p = planned-at (goal.at.loop-due-preserved c).Joined-due-gt0 in
    let grown = then_grows p c.make_moves.ensures in
    (p.then_turns c.make_moves.ensures, grown.0, grown.1)
