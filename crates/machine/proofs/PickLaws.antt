-- In a state of the shape a pick is refused just where agreement's model refuses it, and otherwise does what the model does.
use Prim.Native.Nat.{ℕ, ◌+◌, ◌<◌}
use mathlib.Core.Path.{◌≡◌, refl, sym, ap, ◌∙◌}
use mathlib.Core.Bool.{Bool, true, false, not, cond, ◌&&◌}
use mathlib.Core.List.{List}
use native.Mathlib.Omega.{arith}
use lib.Dec.{eqb, ltb, leb}
use lib.IntN.{ℤ}
use lib.ListN.{length}
use borrow.Author.Tests.{eqb-true, ltb-true}
use Rattle.facts.proofs.Tests.{by-test}
use Rattle.task.specs.Choices.{chosen}
use Rattle.agreement.specs.Slots.{carry}
use Rattle.agreement.specs.Picks.{Model, can_pick, pick}
use Rattle.agreement.proofs.PickLaws.{parts_can, pick-carried, pick-refused}
use Rattle.image.specs.Layout.{program_cells, program_of}
use Rattle.image.specs.Questions.{ask, or_else, program_no}
use Rattle.image.specs.Doors.{unless_refused}
use Rattle.image.proofs.Asked.{ask_yes, or_else_both}
use Rattle.task.specs.declared.Frame.{Frame}
use Rattle.task.specs.Frames.{running, work_limit}
use Rattle.task.specs.Step.{step}
use Rattle.drive.specs.declared.State.{State}
use Rattle.drive.specs.Slots.{at, ticked, slots_of}
use Rattle.drive.specs.Ending.{job_ended}
use Rattle.drive.specs.Shape.{shape}
use Rattle.drive.specs.Issue.{slot_no, issued}
use Rattle.machine.specs.Picking.{call_no, state_no_by, state_no, pick_no, picked}
use Rattle.drive.proofs.Models.{model_of, Allowed}
use Rattle.drive.proofs.ShapeLaws.{Fits, fits-shape}
use Rattle.drive.proofs.IssueLaws.{issued_work, issued_places, issued_interval}
use Rattle.drive.proofs.Quiet.{ended_quiet}

-- the last four questions, of which 22 is a no only where 23 would be one
last_questions : (below ended runs room : Bool) → (below ≡ true → ended ≡ true → runs ≡ false)
    → eqb (ask below 21 (ask (not ended) 22 (ask runs 23 (ask room 24 0)))) 0 ≡ below && (runs && room)
last_questions false ended runs room idle = refl
last_questions true true runs room idle = rw (idle refl refl)
last_questions true false false room idle = refl
last_questions true false true false idle = refl
last_questions true false true true idle = refl

-- questions 14 and 15
pub record Lent (cells : List ℕ) (words : List ℤ) : Type 0 where
  pub few_words : leb (length words) 4096 ≡ true
  pub whole : eqb (length cells) program_cells ≡ true

-- in a state of the shape 21 to 24 are left
questions_from_21 : (cells : List ℕ) (words : List ℤ) (m : State) (k : ℕ) → program_no cells ≡ 0 → Lent cells words → shape (program_of cells) m ≡ true
    → pick_no cells words m k ≡ ask (ltb k m.places) 21 (ask (not (job_ended m)) 22 (ask (running (at m k)) 23 (ask (ltb m.work work_limit) 24 0)))
unfolding state_no_by slot_no or_else
questions_from_21 cells words m k e lent s = rw (e, lent.few_words, lent.whole, s)

-- a program and a call record that questions 1 to 15 let pass; and a state with them that question 20 does
pub record Passed (cells : List ℕ) (words : List ℤ) : Type 0 where
  pub program : program_no cells ≡ 0
  pub lent : Lent cells words

-- question by question
call_parts : (cells : List ℕ) (words : ℕ) → call_no cells words ≡ 0
    → (program_no cells ≡ 0) × (leb words 4096 ≡ true) × (eqb (length cells) program_cells ≡ true)
call_parts cells words e =
    let p = or_else_both (program_no cells) _ e in
    let a = ask_yes (leb words 4096) 14 _ tt p.1 in
    let b = ask_yes (eqb (length cells) program_cells) 15 0 tt a.1 in
    (p.0, a.0, b.0)

pub call_lent : (cells : List ℕ) (words : ℕ) → call_no cells words ≡ 0 → (program_no cells ≡ 0) × (length cells ≡ program_cells)
call_lent cells words e = let x = call_parts cells words e in (x.0, eqb-true (length cells) program_cells x.2)

pub call_passed : (cells : List ℕ) (words : List ℤ) → call_no cells (length words) ≡ 0 → Passed cells words
call_passed cells words e =
    let x = call_parts cells (length words) e in record { program = x.0; lent = record { few_words = x.1; whole = x.2 } }

pub record StatePassed (cells : List ℕ) (words : List ℤ) (m : State) : Type 0 where
  pub passed : Passed cells words
  pub shaped : shape (program_of cells) m ≡ true

pub state_passed : (cells : List ℕ) (words : List ℤ) (m : State) → state_no cells words m ≡ 0 → StatePassed cells words m
unfolding state_no_by
state_passed cells words m e =
    let p = or_else_both (call_no cells (length words)) _ e in
    let c = ask_yes (shape (program_of cells) m) 20 0 tt p.1 in
    record { passed = call_passed cells words p.0; shaped = c.0 }

pub whole_length : {cells : List ℕ} {words : List ℤ} → Passed cells words → length cells ≡ program_cells
whole_length {cells} x = eqb-true (length cells) program_cells x.lent.whole

module _ {cells : List ℕ} {interval places : ℕ} {words : List ℤ} (allowed : Allowed cells interval places) (lent : Lent cells words) where
  abbrev M : Model Frame State
  M = model_of cells words interval places

  module _ (m : State) (k : ℕ) (x : Fits cells interval places m) where
    idle : ltb k m.places ≡ true → job_ended m ≡ true → running (at m k) ≡ false
    idle b e = ended_quiet allowed words m x e k (ltb-true k m.places b)

    pub pick-test : eqb (pick_no cells words m k) 0 ≡ can_pick (model_of cells words interval places) m k
    pick-test =
        ap (λ n. eqb n 0) (questions_from_21 cells words m k allowed.program lent (fits-shape allowed m x))
        ∙ last_questions (ltb k m.places) (job_ended m) (running (at m k)) (ltb m.work work_limit) idle
        ∙ ap (λ p. ltb k p && (running (at m k) && ltb m.work work_limit)) x.its_places

    pub can_accepted : can_pick (model_of cells words interval places) m k ≡ true → pick_no cells words m k ≡ 0
    can_accepted c = eqb-true (pick_no cells words m k) 0 (pick-test ∙ c)

    its_issue : issued cells words m k ≡ ticked (carry (slots_of (program_of cells)) (step (program_of cells) words (chosen interval)) m k)
    its_issue = ap (λ n. ticked (carry (slots_of (program_of cells)) (step (program_of cells) words (chosen n)) m k)) x.its_interval

    pub picked_is : picked cells words m k ≡ pick (model_of cells words interval places) m k
    unfolding unless_refused
    picked_is =
        by-test (can_pick M m k)
        (λ c. let t : eqb (pick_no cells words m k) 0 ≡ true = pick-test ∙ c in
        ap (λ b. cond b (issued cells words m k) m) t ∙ its_issue ∙ sym (pick-carried M m k c))
        (λ c. let t : eqb (pick_no cells words m k) 0 ≡ false = pick-test ∙ c in
        ap (λ b. cond b (issued cells words m k) m) t ∙ sym (pick-refused M m k c))

    -- below the limit a running task can be picked
    pub running-accepted : k < m.places → running (at m k) ≡ true → m.work < work_limit → pick_no cells words m k ≡ 0
    running-accepted b r w = can_accepted (parts_can M m k (omega (arith, x.its_places)) r w)

-- ---- in any state

-- a pick that is carried out
pub picked-issued : (cells : List ℕ) (words : List ℤ) (m : State) (k : ℕ) → pick_no cells words m k ≡ 0 → picked cells words m k ≡ issued cells words m k
unfolding unless_refused
picked-issued cells words m k e = ap (λ n. cond (eqb n 0) (issued cells words m k) m) e

pub picked_work : (cells : List ℕ) (words : List ℤ) (m : State) (k : ℕ) → pick_no cells words m k ≡ 0 → (picked cells words m k).work ≡ m.work + 1
picked_work cells words m k e =
    ap (λ n. n.work) (picked-issued cells words m k e) ∙ issued_work cells words m k

-- P and the interval stay as start left them
module _ (cells : List ℕ) (words : List ℤ) (m : State) (k : ℕ) where
  keeps : (of : State → ℕ) → of (issued cells words m k) ≡ of m → of (picked cells words m k) ≡ of m
  unfolding unless_refused
  keeps of e = go (eqb (pick_no cells words m k) 0)
    where
      go : (t : Bool) → of (cond t (issued cells words m k) m) ≡ of m
      go true = e
      go false = refl

  pub picked_places : (picked cells words m k).places ≡ m.places
  picked_places = keeps (λ n. n.places) (issued_places cells words m k)

  pub picked_interval : (picked cells words m k).interval ≡ m.interval
  picked_interval = keeps (λ n. n.interval) (issued_interval cells words m k)
