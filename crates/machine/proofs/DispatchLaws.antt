-- What a dispatcher that is not refused is like, and what each way through it hands back.
use mathlib.Core.Path.{◌≡◌, refl}
use mathlib.Core.Bool.{true, false}
use mathlib.Core.List.{List, []}
use Prim.Native.Nat.{ℕ, ◌-◌, ◌<◌, ◌≤◌}
use native.Mathlib.Omega.{arith}
use lib.Dec.{leb}
use lib.IntN.{ℤ}
use lib.ListN.{length}
use borrow.Author.Tests.{leb-true, le-leb, lt-ltb, ne_eqb}
use Rattle.facts.proofs.Tests.{both_true}
use Rattle.image.specs.Layout.{program_of}
use Rattle.image.specs.Questions.{or_else}
use Rattle.image.proofs.Asked.{ask_yes, or_else_both}
use Rattle.turns.specs.declared.course.Course.TheVariants.{Rounds}
use Rattle.drive.specs.declared.State.{State}
use Rattle.drive.specs.Ending.{job_ended}
use Rattle.drive.specs.Shape.{shape}
use Rattle.drive.specs.Slots.{Sized}
use Rattle.drive.specs.Courses.{begun}
use Rattle.drive.specs.Rounds.{rounds, rounds_from}
use Rattle.drive.specs.Driving.{starts_in, driven}
use Rattle.drive.proofs.CourseLaws.{stays}
use Rattle.drive.proofs.ShapeLaws.{shape_allowed, shape-fits}
use Rattle.drive.proofs.Quiet.{quiet_ended}
use Rattle.drive.proofs.RoundLaws.{rounds_stop}
use Rattle.looks.specs.Looking.{tasks_taken}
use Rattle.looks.proofs.TakenLaws.{taken_none}
use Rattle.task.specs.Frames.{work_limit}
use Rattle.machine.specs.Picking.{call_no}
use Rattle.machine.specs.Dispatching.{lanes_allowed, dispatch_no_by, dispatch_no, dispatched}
use Rattle.machine.proofs.PickLaws.{Passed, StatePassed, call_passed}

pub record DispatchPassed (cells : List ℕ) (words : List ℤ) (lanes : ℕ) (m : State) : Type 0 where
  pub state : StatePassed cells words m
  pub some_lanes : 0 < lanes
  pub few_lanes : lanes ≤ 8

module _ (cells : List ℕ) (words : List ℤ) (lanes : ℕ) (m : State) where
  pub dispatch-passed : dispatch_no cells words lanes m ≡ 0 → DispatchPassed cells words lanes m
  unfolding dispatch_no_by
  dispatch-passed e =
      let p = or_else_both (call_no cells (length words)) _ e in
      let a = ask_yes (lanes_allowed lanes) 41 _ tt p.1 in
      let b = ask_yes (shape (program_of cells) m) 20 0 tt a.1 in
      let both = both_true (leb 1 lanes) (leb lanes 8) a.0 in
      record {
        state = record { passed = call_passed cells words p.0; shaped = b.0 };
        some_lanes = omega (arith, leb-true 1 lanes both.0);
        few_lanes = leb-true lanes 8 both.1;
      }

  -- and the other way round
  pub passed-dispatch : Passed cells words → lanes_allowed lanes ≡ true → shape (program_of cells) m ≡ true → dispatch_no cells words lanes m ≡ 0
  unfolding dispatch_no_by or_else
  passed-dispatch x allows shaped = rw (x.program, x.lent.few_words, x.lent.whole, allows, shaped)

  -- rounds have 1 to 8 lanes
  pub starts-on : (budget : ℕ) → 0 < lanes → lanes ≤ 8 → starts_in (Rounds lanes budget) m ≡ true
  starts-on budget some few = rw (lt-ltb 0 lanes some, le-leb lanes 8 few)

  module _ (budget : ℕ) where
    pub dispatch-refused : (n : ℕ) → n ≡ dispatch_no cells words lanes m → (n ≡ 0 → ⊥)
        → record { no = n; ended = false; rounds = 0; picks = 0; machine = record { state = m } } ≡ dispatched cells words m lanes budget
    unfolding dispatched
    dispatch-refused n e some = rw (← e, ne_eqb n 0 some)

    -- one that is not refused
    pub dispatch-accepted : dispatch_no cells words lanes m ≡ 0
        → let r = rounds_from cells words m lanes budget in
        dispatched cells words m lanes budget
        ≡ record { no = 0; ended = job_ended r.state; rounds = r.kept.done; picks = r.picks; machine = record { state = r.state } }
    unfolding dispatched
    dispatch-accepted passes = rw passes

    -- no task was taken: none runs, so the job has ended, and no round begins
    pub dispatch-idle : dispatch_no cells words lanes m ≡ 0 → Sized m → tasks_taken m.tasks lanes ≡ 0
        → (record { no = 0; ended = job_ended m; rounds = 0; picks = 0; machine = record { state = m } } ≡ dispatched cells words m lanes budget)
        × (job_ended m ≡ true)
    unfolding dispatched
    dispatch-idle passes sized none =
        let x = dispatch-passed passes in
        let s = x.state in
        let over = quiet_ended (shape_allowed cells m s.passed.program s.shaped) words m (shape-fits cells m sized s.shaped)
        (λ k b. taken_none m.tasks lanes x.some_lanes none k) in
        let still = stays cells words (rounds lanes) (work_limit - m.work) (begun m (record { slots = []; done = 0; budget = budget }))
        (rounds_stop lanes m _ (rw over)) in
        (rw (passes, still) refl, over)

    pub dispatch-answered : dispatch_no cells words lanes m ≡ 0 → (order : List ℕ) → let d = driven cells words m order (Rounds lanes budget) in
        record { no = 0; ended = job_ended d.state; rounds = d.rounds; picks = d.picks; machine = record { state = d.state } } ≡ dispatched cells words m lanes budget
    unfolding dispatched
    dispatch-answered passes order = rw passes
