-- What a pick or a run that is not refused is like, and that the loop carries it out.
use mathlib.Core.Path.{◌≡◌, sym, ap, ◌∙◌}
use mathlib.Core.Bool.{true, false, cond}
use mathlib.Core.List.{List}
use Prim.Native.Nat.{ℕ, ◌<◌}
use lib.Dec.{eqb}
use lib.IntN.{ℤ}
use borrow.Author.Tests.{lt-ltb, ne_eqb}
use Rattle.image.specs.Doors.{unless_refused}
use Rattle.image.proofs.Asked.{or_else_both}
use Rattle.drive.specs.declared.State.{State}
use Rattle.drive.specs.Slots.{Sized}
use Rattle.drive.specs.Ending.{job_ended}
use Rattle.drive.specs.Issue.{slot_no, issued}
use Rattle.machine.specs.Picking.{state_no, pick_no, picked}
use Rattle.turns.specs.declared.course.Course.TheVariants.{Passes}
use Rattle.machine.specs.Running.{outcome}
use Rattle.drive.specs.Driving.{starts_in, driven}
use Rattle.drive.specs.Courses.{Run}
use Rattle.drive.proofs.ShapeLaws.{shape_allowed, shape-fits}
use Rattle.machine.proofs.PickLaws.{StatePassed, state_passed, picked-issued}
use Rattle.drive.proofs.SlotQuestions.{Ready, slot_ready}
use Rattle.drive.proofs.Passing.{one_pick}

-- no question was answered with no
pub record Accepts (cells : List ℕ) (words : List ℤ) (m : State) (k : ℕ) : Type 0 where
  pub state : StatePassed cells words m
  pub ready : Ready m k

pub pick_accepts : (cells : List ℕ) (words : List ℤ) (m : State) (k : ℕ) → pick_no cells words m k ≡ 0 → Accepts cells words m k
pick_accepts cells words m k e =
    let both = or_else_both (state_no cells words m) (slot_no m k) e in
    record { state = state_passed cells words m both.0; ready = slot_ready m k both.1 }

pub picked-one : (cells : List ℕ) (words : List ℤ) (m : State) (k : ℕ) → Sized m → pick_no cells words m k ≡ 0
    → (order : List ℕ) → (driven cells words m order (Passes k 1)).state ≡ picked cells words m k
picked-one cells words m k sized e order =
    let x = pick_accepts cells words m k e in
    let a = x.state in
    let b = x.ready in
    let one = one_pick (shape_allowed cells m a.passed.program a.shaped) words m (shape-fits cells m sized a.shaped) k b.below b.runs b.below_limit in
    ap (λ (r : Run ℕ). r.state) one ∙ sym (picked-issued cells words m k e)

-- a stretch from a slot of the state
pub starts_in_lem : (m : State) (k budget : ℕ) → k < m.places → starts_in (Passes k budget) m ≡ true
starts_in_lem m k budget below = lt-ltb k m.places below

-- ---- what each way through a pick, and through a run, hands back

module _ (cells : List ℕ) (words : List ℤ) (m : State) where
  pub pick-refused : (k n : ℕ) → n ≡ pick_no cells words m k → (n ≡ 0 → ⊥) → m ≡ picked cells words m k
  unfolding unless_refused
  pick-refused k n e some = sym (ap (λ a. cond (eqb a 0) (issued cells words m k) m) (sym e) ∙ ap (λ b. cond b (issued cells words m k) m) (ne_eqb n 0 some))

  module _ (budget : ℕ) where
    pub run-refused : (n : ℕ) → n ≡ state_no cells words m → (n ≡ 0 → ⊥) → record { no = n; ended = false; picks = 0; machine = record { state = m } } ≡ outcome cells words m budget
    unfolding outcome
    run-refused n e some = rw (← e, ne_eqb n 0 some)

    pub run-answered : state_no cells words m ≡ 0 → (order : List ℕ) → let d = driven cells words m order (Passes 0 budget) in
        record { no = 0; ended = job_ended d.state; picks = d.picks; machine = record { state = d.state } } ≡ outcome cells words m budget
    unfolding outcome
    run-answered passes order = rw passes
