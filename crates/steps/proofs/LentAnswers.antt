-- The answers of pick and run, as the code comes by them.
use mathlib.Core.Path.{◌≡◌, refl, sym, ap, ◌∙◌}
use mathlib.Core.Bool.{Bool, true, false, ◌&&◌}
use mathlib.Core.List.{List}
use Prim.Native.Nat.{ℕ, zero, suc, ◌*◌, ◌%◌, ◌≤◌}
use native.Mathlib.Omega.{arith}
use lib.Dec.{eqb, leb}
use lib.IntN.{ℤ}
use lib.ListN.{length}
use borrow.Author.Tests.{leb-true, eqb-true, ne_eqb}
use Rattle.facts.proofs.Tests.{both_true, clash}
use Rattle.image.specs.Questions.{ask, or_else, program_no}
use Rattle.image.proofs.Asked.{or_else_no, or_else_none}
use Rattle.drive.specs.declared.State.{State}
use Rattle.drive.specs.Issue.{slot_no}
use Rattle.machine.specs.Picking.{state_no_by, state_no, pick_no}
use Rattle.machine.specs.Running.{outcome, outcome_by}
use Rattle.drive.specs.Passes.{run_from}
use Rattle.report.specs.Report.{report_length}
use Rattle.state.specs.State.{state_length}
use Rattle.state.specs.Reading.{stands_state, state_in}
use Rattle.steps.specs.Buffers.{wholes, is_whole, cells_of, integers_of, program_bytes}
use Rattle.steps.specs.Calls.{is_ready, lent_no, picked_no, ran_no, run_outcome}

-- a question asked a second time
asked_again : (p x y : ℕ) → or_else p (or_else (or_else p x) y) ≡ or_else (or_else p x) y
unfolding or_else
asked_again zero x y = refl
asked_again (suc p) x y =
    let first : or_else (suc p) x ≡ suc p = or_else_no (suc p) x (λ z. omega arith) in
    or_else_no (suc p) _ (λ z. omega arith) ∙ sym (ap (λ (a : ℕ). or_else a y) first ∙ or_else_no (suc p) y (λ z. omega arith))

asked-before : (p x y z : ℕ) → or_else p (or_else (or_else (or_else p x) y) z) ≡ or_else (or_else (or_else p x) y) z
unfolding or_else
asked-before zero x y z = refl
asked-before (suc p) x y z =
    let first : or_else (suc p) x ≡ suc p = or_else_no (suc p) x (λ z. omega arith) in
    let both : or_else (or_else (suc p) x) y ≡ suc p = ap (λ (a : ℕ). or_else a y) first ∙ or_else_no (suc p) y (λ z. omega arith) in
    or_else_no (suc p) _ (λ z. omega arith) ∙ sym (ap (λ (a : ℕ). or_else a z) both ∙ or_else_no (suc p) z (λ z. omega arith))

module _ (program words state : List ℕ) (others : Bool) where
  abbrev pub whole : Bool
  whole = eqb (length program) program_bytes && (is_whole words && others)

  -- what it is to be ready
  pub record Ready : Type 0 where
    pub program_length : length program ≡ program_bytes
    pub words_whole : length words ≡ 8 * wholes words
    pub words_few : wholes words ≤ 4096
    pub stands : stands_state state ≡ true
    pub others_fit : others ≡ true
    -- the program's questions are left
    pub left : lent_no program words others state ≡ program_no (cells_of program)

  pub when_ready : is_ready program words others state ≡ true → Ready
  unfolding lent_no
  when_ready h =
      let a = both_true whole _ h in
      let b = both_true (leb (wholes words) 4096) (stands_state state) a.1 in
      let p = both_true (eqb (length program) program_bytes) _ a.0 in
      let q = both_true (is_whole words) others p.1 in
      record {
        program_length = eqb-true _ program_bytes p.0;
        words_whole = omega (arith, eqb-true (length words % 8) 0 q.0);
        words_few = leb-true _ 4096 b.0;
        stands = b.1;
        others_fit = q.1;
        left = rw (b.0, a.0, b.1) (or_else_none (program_no (cells_of program)));
      }

  -- the refusal where it is not; `fit` and `all` are what the code has found
  pub when_not : (fit all : Bool) → fit ≡ whole → all ≡ (fit && (leb (wholes words) 4096 && stands_state state)) → all ≡ false
      → or_else (program_no (cells_of program)) (ask (leb (wholes words) 4096) 14 (ask fit 15 20)) ≡ lent_no program words others state
  unfolding lent_no
  when_not fit all p q h =
      ap (or_else (program_no (cells_of program)))
      (same (leb (wholes words) 4096) fit (stands_state state) (sym q ∙ h)
      ∙ ap (λ (t : Bool). ask (leb (wholes words) 4096) 14 (ask t 15 (ask (stands_state state) 20 0))) p)
    where
      same : (f w s : Bool) → w && (f && s) ≡ false → ask f 14 (ask w 15 20) ≡ ask f 14 (ask w 15 (ask s 20 0))
      same false w s e = refl
      same true false s e = refl
      same true true true e = clash refl e
      same true true false e = refl

module _ (program words state : List ℕ) (slot : ℕ) where
  pub pick-ready : Ready program words state (eqb (length state) state_length)
      → picked_no program words slot state ≡ pick_no (cells_of program) (integers_of words) (state_in state) slot
  unfolding picked_no state_no_by
  pick-ready r =
      ap (λ (a : ℕ). or_else a (pick_no (cells_of program) (integers_of words) (state_in state) slot)) r.left
      ∙ asked-before (program_no (cells_of program)) _ _ (slot_no (state_in state) slot)

outcome-number : (cells : List ℕ) (words : List ℤ) (m : State) (budget : ℕ) → (outcome cells words m budget).no ≡ state_no cells words m
unfolding outcome
outcome-number cells words m budget = go (state_no cells words m)
  where
    go : (n : ℕ) → (outcome_by cells words n m (run_from cells words m 0 budget)).no ≡ n
    go zero = refl
    go (suc n) = rw (ne_eqb (suc n) 0 (λ z. omega arith))

module _ (program words state : List ℕ) (report : ℕ) where
  pub run-ready : Ready program words state (eqb (length state) state_length && eqb report report_length)
      → ran_no program words state report ≡ state_no (cells_of program) (integers_of words) (state_in state)
  unfolding ran_no state_no_by
  run-ready r =
      ap (λ (a : ℕ). or_else a (state_no (cells_of program) (integers_of words) (state_in state))) r.left
      ∙ asked_again (program_no (cells_of program)) _ _

  -- the outcome's number is the refusal's
  pub run_number : (budget : ℕ) → Ready program words state (eqb (length state) state_length && eqb report report_length)
      → (run_outcome program words budget state).no ≡ ran_no program words state report
  run_number budget r = outcome-number (cells_of program) (integers_of words) (state_in state) budget ∙ sym (run-ready r)
