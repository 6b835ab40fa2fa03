-- What a turn of the loop has written and planned: with its moves made, the next turn holds. One statement for each kind of turn.
use mathlib.Core.Path.{◌≡◌, refl, sym, ap, ap₂, ◌∙◌, subst⁻¹}
use mathlib.Core.Bool.{Bool, true, false, cond}
use mathlib.Core.List.{List}
use Prim.Native.Nat.{ℕ, ◌+◌, ◌-◌, ◌*◌, ◌/◌, ◌%◌, ◌<◌, ◌≤◌}
use native.Mathlib.Omega.{arith}
use lib.Dec.{leb}
use lib.ListN.{get_or, set}
use lib.Seq.{get_or-set_same, get_or-set_other}
use Rattle.facts.proofs.Tests.{clash, by-test}
use Rattle.image.specs.Layout.{program_of}
use Rattle.agreement.specs.Plain.{one}
use Rattle.agreement.specs.Slots.{due}
use Rattle.task.specs.declared.Fork.{Fork}
use Rattle.task.specs.declared.Task.{Task}
use Rattle.task.specs.declared.Joint.{Joint}
use Rattle.task.specs.declared.Executed.{Executed}
use Rattle.task.specs.declared.Kind.{Kind}
use Rattle.task.specs.declared.Kind.TheVariants.{Faults, Forks}
use Rattle.task.specs.Frames.{no_task, is_running, work_limit}
use Rattle.task.specs.Choices.{chosen}
use Rattle.task.specs.Values.{record_of}
use Rattle.task.specs.Step.{counted, ended, with_height, step}
use Rattle.task.specs.Execute.{joint_of}
use Rattle.drive.specs.declared.State.{State}
use Rattle.drive.specs.Writes.{with_task_at, tasks_joined}
use Rattle.drive.specs.Moves.{paired_at, cleared_at, moved, PlanFits}
use Rattle.turns.specs.declared.moves.Moves.{Moves}
use Rattle.turns.specs.declared.course.Position.{Position}
use Rattle.turns.specs.declared.course.Course.{Course}
use Rattle.turns.specs.declared.course.Course.TheVariants.{Passes, Listed, Rounds}
use Rattle.std.specs.Prelude.{Option, Some, None, is_some}
use Rattle.drive.specs.Slots.{at, ticked, slots_of}
use Rattle.drive.specs.Issue.{issued}
use Rattle.turns.specs.Moving.{fork_moves, end_moves, join_moves}
use Rattle.turns.specs.Kinds.{status_of, height_left, stacks_it, pops_it, stack_no}
use Rattle.turns.specs.Stretches.{Stretch, first_of, next_stretch, rounds_of}
use Rattle.turns.specs.Walk.{picked_on, stopped_at}
use Rattle.drive.proofs.Models.{Allowed}
use Rattle.drive.proofs.ShapeLaws.{Fits}
use Rattle.drive.proofs.Owning.{own_allowed, own_fits, places_most}
use Rattle.drive.proofs.SettleSafety.{fits_safe}
use Rattle.drive.proofs.PlanLaws.{join-moved, join-fits, end_fits, fork-fits}
use Rattle.drive.proofs.SlotLaws.{task-runs}
use Rattle.drive.proofs.IssueLaws.{issued_work}
use Rattle.drive.proofs.Issuing.{end_frame, ends-steps, refused-steps, end_put, forked_at, forks-issued, forks-room}
use Rattle.drive.proofs.Positions.{goes, Kept, picked-kept, stopped-kept, stopped-begun, Comes, comes_none, comes_one}
use Rattle.drive.proofs.Walking.{Given, GivenAllowed, result, most_stretches, At, tile, picked-on, rise_is}
use Rattle.drive.proofs.Turning.{Turns, none-due, joins, ends, forks, Stopped}

-- what is ahead of the loop, as a number that every turn makes smaller: stretches, picks and looks of this one, and looks at joins
abbrev pub ahead : Given → State → Position → ℕ → ℕ
ahead g m p o =
    281474976710656 * (most_stretches g.course g.order - p.begun) + 200 * (65 * (p.until - m.work) + p.ahead) + 2 * o

moved_work : (plan : Moves) (m : State) → (moved plan m).work ≡ m.work
moved_work plan m =
    by-test plan.whole (λ a. rw a (cleared_work (paired_at plan m))) (λ a. rw a (cleared_work (paired_at plan m)))
  where
    cleared_work : (n : State) → (cleared_at plan n).work ≡ n.work
    cleared_work n = by-test plan.clears (λ b. rw b) (λ b. rw b)

moved_tasks : (plan : Moves) (m : State) → (moved plan m).tasks ≡ m.tasks
moved_tasks plan m =
    by-test plan.whole (λ a. rw a (cleared_tasks (paired_at plan m))) (λ a. rw a (cleared_tasks (paired_at plan m)))
  where
    cleared_tasks : (n : State) → (cleared_at plan n).tasks ≡ n.tasks
    cleared_tasks n = by-test plan.clears (λ b. rw b) (λ b. rw b)

pub record Planned (g : Given) (before : ℕ) (m : State) (plan : Moves) (p : Position) (o side : ℕ) : Type 0 where
  pub plan_fits : PlanFits plan
  pub then_turns : {m' : State} → m' ≡ moved plan m → Turns g m' p o side
  pub less : ahead g m p o < before
  pub grows : (g.state.work ≤ m.work) × (m.work ≤ work_limit)

pub then_less : {g : Given} {before : ℕ} {m : State} {plan : Moves} {p : Position} {o side : ℕ} → Planned g before m plan p o side
    → {m' : State} → m' ≡ moved plan m → ahead g m' p o < before
then_less {g} {before} {m} {plan} {p} {o} x {m'} is =
    let same : m'.work ≡ m.work = ap (λ (n : State). n.work) is ∙ moved_work plan m in
    omega (arith, x.less)

pub then_grows : {g : Given} {before : ℕ} {m : State} {plan : Moves} {p : Position} {o side : ℕ} → Planned g before m plan p o side
    → {m' : State} → m' ≡ moved plan m → (g.state.work ≤ m'.work) × (m'.work ≤ work_limit)
then_grows {g} {before} {m} {plan} x {m'} is =
    let same : m'.work ≡ m.work = ap (λ (n : State). n.work) is ∙ moved_work plan m in
    (omega (arith, x.grows.0), omega (arith, x.grows.1))

-- against a larger number
pub planned_below : {g : Given} {before after : ℕ} {m : State} {plan : Moves} {p : Position} {o side : ℕ} → before ≤ after
    → Planned g before m plan p o side → Planned g after m plan p o side
planned_below le x = record { plan_fits = x.plan_fits; then_turns = λ {m'} is. x.then_turns is; less = omega (arith, x.less); grows = x.grows }

-- with other names for its numbers
pub planned_as : {g : Given} {before : ℕ} {m : State} {plan : Moves} {p p' : Position} {o o' side side' : ℕ} → p' ≡ p → o' ≡ o → side' ≡ side
    → Planned g before m plan p o side → Planned g before m plan p' o' side'
planned_as {g} {before} {m} {plan} {p} {p'} {o} {o'} {side} a b c x =
    subst⁻¹ (λ n. Planned g before m plan p' o' n) c
    (subst⁻¹ (λ n. Planned g before m plan p' n side) b
    (subst⁻¹ (λ q. Planned g before m plan q o side) a x))

module _ (g : Given) (allowed : GivenAllowed g) where
  -- ---- a join: the two records are written

  module _ {m : State} {p : Position} {o side : ℕ} (t : Turns g m p o side) (q w : ℕ) (some : 0 < o) (width : (at m side).task.places ≡ w)
      (first : q ≡ side - side % (2 * w)) (is_due : due (slots_of (program_of g.cells)) m q w o ≡ true) (wide : 0 < w) (room : q + w < 64)
      {j : Joint} (e : j ≡ joint_of (program_of g.cells) (at m q).task (at m (q + w)).task) where
    pub join_planned : (g.state.work ≤ m.work) × (m.work ≤ work_limit) → {n : State} {plan : Moves}
        → n ≡ tasks_joined m q (q + w) j.task
        → plan ≡ join_moves q (q + w) j.pairs j.packed j.faulted (at m q).task.height (at m (q + w)).task.height
        → Planned g (ahead g m p o) n plan p (o - 1) q
    join_planned grown {n} {plan} written planned =
        let ours = (t.safe q (omega arith)).stacked in
        let theirs = (t.safe (q + w) room).stacked in
        let join_is = join-moved g.cells m t.sized q w wide room ours theirs e in
        let same : n.work ≡ m.work = ap (λ (o : State). o.work) written in
        record {
          plan_fits = rw planned (join-fits g.cells m t.sized q w wide room ours theirs e);
          then_turns = λ {m'} is. joins g allowed t q w some width first is_due (is ∙ ap₂ moved planned written ∙ join_is);
          less = omega (arith, t.few);
          grows = (omega (arith, grown.0), omega (arith, grown.1));
        }

  -- ---- an instruction that a walk stops at: it ends its side, or forks, or it is a push or a pop

  module _ {m : State} {p : Position} (a : At g m p) {e : Executed} (s : Stopped g.cells g.words m p e) where
    abbrev k : ℕ
    k = p.slot

    pub places_few : m.places ≤ 64
    places_few = omega (arith, a.fits.its_places, places_most g.state.places allowed.its_places_allowed)

    pub here : k < 64
    here = omega (arith, a.slot_below, places_few)

    pub allowed_there : Allowed g.cells m.interval m.places
    allowed_there = own_allowed a.fits allowed

    pub fits-there : Fits g.cells m.interval m.places m
    fits-there = own_fits a.fits

    -- one pick less to do
    less-on : (n : State) (w o : ℕ) → n.work ≡ m.work + 1 → o ≤ 6 → ahead g n (stopped_at m.places w p) o < ahead g m p 0
    less-on n w o more few =
        let x = goes {m = m} {p = p} s.walks in
        let kept = stopped-kept m.places w p places_few a.ahead_most in
        let same : (stopped_at m.places w p).begun ≡ p.begun = stopped-begun m.places w p in
        omega (arith, x.picks_left, x.places_left, kept.until_same, kept.ahead_most)

    one_more_lem : (n : State) → n.work ≡ m.work + 1 → (g.state.work ≤ n.work) × (n.work ≤ work_limit)
    one_more_lem n more = (omega (arith, a.all_picks), omega (arith, (goes {m = m} {p = p} s.walks).picks_left, a.until_most))

    -- it has ended its side, with this kind and this number
    abbrev pub EndsBy : Kind → ℕ → Type 0
    EndsBy kind n =
        step (program_of g.cells) g.words (chosen m.interval) (at m k)
        ≡ one (end_frame allowed_there fits-there a.slot_below s.runs_there s.fetched kind n)

    pub ends_by : stacks_it e.kind ≡ false → (e.kind ≡ Forks → ⊥) → EndsBy e.kind e.fault
    ends_by = ends-steps allowed_there fits-there a.slot_below s.runs_there s.fetched s.stops_it

    pub refused-by : stacks_it e.kind ≡ true → (stack_no (pops_it e.kind) (at m k).task.height ≡ 0 → ⊥)
        → EndsBy Faults (stack_no (pops_it e.kind) (at m k).task.height)
    refused-by = refused-steps allowed_there fits-there a.slot_below s.runs_there s.fetched

    pub end_planned : (kind : Kind) (number : ℕ) → EndsBy kind number
        → {t : Task} → t ≡ with_height (height_left kind (at m k).task.height) (ended (status_of kind number) (counted (at m k).task))
        → {n : State} → n ≡ ticked (with_task_at m k t) → {plan : Moves} → plan ≡ end_moves k kind (at m k).task.height
        → Planned g (ahead g m p 0) n plan (stopped_at m.places (at m k).task.places p) (at m k).task.depth k
    end_planned kind number step_is {t} is-ended {n} written {plan} planned =
        let put_is = end_put allowed_there fits-there a.slot_below s.runs_there s.fetched kind number is-ended in
        let safe = fits_safe allowed m a.fits k here in
        let more : n.work ≡ m.work + 1 = ap (λ (o : State). o.work) written in
        record {
          plan_fits = rw planned (end_fits k kind (at m k).task.height here safe.stacked.height_most);
          then_turns = λ {m'} is.
              ends g allowed a s.walks s.runs_there _ step_is (is ∙ ap₂ moved planned written ∙ put_is) here (at m k).task.depth refl safe.depth_fits;
          less = less-on n (at m k).task.places (at m k).task.depth more safe.depth_fits;
          grows = one_more_lem n more;
        }

    -- it runs on: the slot's record is another, of a task that runs
    pub stacked_on : {n : State} → n ≡ issued g.cells g.words m k → (t : Task) → n.tasks ≡ set m.tasks k t → is_running t.status ≡ true
        → {q : Position} → q ≡ picked_on m.places n.work (at m k).task.places p
        → At g n q × (ahead g n q 0 < ahead g m p 0) × (g.state.work ≤ n.work) × (n.work ≤ work_limit)
    stacked_on {n} is t tasks runs {q} next =
        let x = goes {m = m} {p = p} s.walks in
        let more : n.work ≡ m.work + 1 = ap (λ (o : State). o.work) is ∙ issued_work g.cells g.words m k in
        let kept = subst⁻¹ (Kept p) next (picked-kept m.places (at m k).task.places p places_few a.ahead_most n.work) in
        let r = task-runs m n k t a.fits.sized.of_tasks here tasks runs in (
          subst⁻¹ (At g n) next (picked-on g allowed a s.walks s.runs_there is r.0 r.1),
          omega (arith, x.picks_left, x.places_left, kept.until_same, kept.ahead_most, kept.begun_least),
          (one_more_lem n more).0,
          (one_more_lem n more).1,
        )

    module _ (kind-is : e.kind ≡ Forks) where
      abbrev half : ℕ
      half = (at m k).task.places / 2

      -- the child's slot is in the state
      pub fork_room : (0 < half) × (k + half < m.places) × ((at m k).task.depth < 6)
      fork_room =
          let r = forks-room allowed_there fits-there a.slot_below s.runs_there s.fetched kind-is in
          let t = tile g allowed a s.runs_there in
          (omega (arith, r.1), omega (arith, r.1, t.inside), r.0)

      pub fork_planned : {under : Fork} → under ≡ record_of e.value
          → {n : State} → n ≡ forked_at allowed_there fits-there a.slot_below s.runs_there s.fetched under
          → {plan : Moves} → plan ≡ fork_moves k (k + half) → (side : ℕ) → side < 64
          → Planned g (ahead g m p 0) n plan (stopped_at m.places half p) 0 side
      fork_planned {under} is-under {n} written {plan} planned side below =
          let r = fork_room in
          record {
            plan_fits = rw planned (fork-fits k (k + half) (omega (arith, r.0)) (omega (arith, r.1, places_few)));
            then_turns = λ {m'} is. none-due g allowed 0 side refl below (on m' is);
            less = less-on n half 0 (ap (λ (o : State). o.work) written) (omega arith);
            grows = one_more_lem n (ap (λ (o : State). o.work) written);
          }
        where
          on : (m' : State) → m' ≡ moved plan n → At g m' (stopped_at m.places half p)
          on m' is =
              let issued-is = is ∙ ap₂ moved planned written
              ∙ forks-issued allowed_there fits-there a.slot_below s.runs_there s.fetched kind-is is-under in
              let r = fork_room in
              let l = m.tasks in
              let f = forked_at allowed_there fits-there a.slot_below s.runs_there s.fetched under in
              let kept : m'.tasks ≡ f.tasks = ap (λ (o : State). o.tasks) is ∙ moved_tasks plan n ∙ ap (λ (o : State). o.tasks) written in
              let mine : get_or m'.tasks k no_task ≡ _ = ap (λ (l : List Task). get_or l k no_task) kept
              ∙ get_or-set_other (set l k _) (k + half) k _ no_task (λ z. absurd (omega (arith, r.0)))
              ∙ get_or-set_same l k _ no_task (omega (arith, here, a.fits.sized.of_tasks)) in
              forks g allowed a s.walks s.runs_there issued-is (ap (λ (o : Task). is_running o.status) mine) half (ap (λ (o : Task). o.places) mine) r.1

-- ---- the next stretch, or the end

-- where the stretches are over, as many rounds are begun as were before
pub rounds_kept : (course : Course) (order : List ℕ) (begun places work : ℕ) (ended : Bool) (row : ℕ)
    → (next_stretch course order begun places work ended row).over ≡ true
    → rounds_of course (next_stretch course order begun places work ended row).first.begun ≡ rounds_of course begun
rounds_kept (Passes slot picks) order begun places work ended row over = refl
rounds_kept Listed order begun places work ended row over = refl
rounds_kept (Rounds lanes rounds) order begun places work true row over = refl
rounds_kept (Rounds lanes rounds) order begun places work false row over =
    by-test (leb work_limit work)
    (λ t. rw t refl)
    (λ t. by-test (leb rounds begun) (λ u. rw (t, u) refl) (λ u. let none = rw (t, u) at over in clash none refl))

module _ (g : Given) {m : State} {p : Position} (a : At g m p) {s : Stretch}
    (c : Comes (result g) m a.picks p.begun (most_stretches g.course g.order) (rounds_of g.course) (λ q. At g m q) s) where
  -- there is one
  pub next_goes : {q : Position} → Some q ≡ first_of s → At g m q × (ahead g m q 0 < ahead g m p 0)
  next_goes {q} is = go c
    where
      go : Comes (result g) m a.picks p.begun (most_stretches g.course g.order) (rounds_of g.course) (λ q. At g m q) s
          → At g m q × (ahead g m q 0 < ahead g m p 0)
      go (comes_none over b u r e) = clash (sym (ap is_some is)) (ap (λ b. is_some (cond b None (Some s.first))) over)
      go (comes_one over f x) =
          let there : q ≡ s.first = ap (λ (o : Option Position). elim o [ None ↦ s.first | Some r ↦ r ]) (is ∙ ap (λ b. cond b None (Some s.first)) over) in
          (subst⁻¹ (At g m) there x, subst⁻¹ (λ r. ahead g m r 0 < ahead g m p 0) there (omega (arith, f.begun_more, f.begun_most, f.ahead_most, f.until_most)))

  -- there is none
  pub next_none : None ≡ first_of s
      → (result g ≡ record { state = m; picks = m.work - g.state.work; rounds = rounds_of g.course s.first.begun }) × (s.over ≡ true)
  next_none is = go c
    where
      go : Comes (result g) m a.picks p.begun (most_stretches g.course g.order) (rounds_of g.course) (λ q. At g m q) s
          → (result g ≡ record { state = m; picks = m.work - g.state.work; rounds = rounds_of g.course s.first.begun }) × (s.over ≡ true)
      go (comes_none over b u r e) =
          (e ∙ ap (λ (n : ℕ). record { state = m; picks = n; rounds = rounds_of g.course s.first.begun }) (sym (rise_is g a)), over)
      go (comes_one over f x) = clash (ap (λ b. is_some (cond b None (Some s.first))) over) (sym (ap is_some is))
