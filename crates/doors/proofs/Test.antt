-- The test of a row that antt computes, and that it is enough.
use mathlib.Core.Path.{◌≡◌, refl, ap, ap₂, ◌∙◌}
use mathlib.Core.Bool.{Bool, true, false, ◌&&◌}
use mathlib.Core.List.{List, [], ◌∷◌}
use Prim.Native.Nat.{ℕ}
use lib.Dec.{eqb}
use lib.IntN.{ℤ}
use lib.ListN.{length}
use borrow.Author.Tests.{eqb-true}
use Rattle.facts.proofs.Tests.{clash, both_true}
use Rattle.image.specs.Layout.{image_length, program_cells, version_of, block_count, instruction_count}
use Rattle.image.specs.Questions.{ask, or_else}
use Rattle.image.specs.Doors.{read_no, rewrite_no, write_no}
use Rattle.drive.specs.declared.State.{State}
use Rattle.drive.specs.Issue.{slot_no}
use Rattle.drive.specs.Passes.{run_from}
use Rattle.drive.specs.Rounds.{rounds_from}
use Rattle.machine.specs.Outcome.{Outcome}
use Rattle.machine.specs.Dispatched.{Dispatched}
use Rattle.machine.specs.Running.{outcome_by, outcome}
use Rattle.machine.specs.Dispatching.{lanes_allowed, dispatched_by, dispatched}
use Rattle.state.specs.State.{state_length}
use Rattle.report.specs.Report.{report_length, rounds_report_length}
use Rattle.steps.specs.Buffers.{program_bytes}
use Rattle.steps.specs.Calls as steps
use Rattle.job.specs.Run.{run_no, text_in}
use Rattle.job.specs.Replay.{replay_no}
use Rattle.job.specs.Dispatch.{dispatch_job_no}
use Rattle.doors.specs.Doors.{Call, check, read, rewrite, read_bytes, write, start, pick, run, dispatch, job, run_job, replay, dispatch_job}
use Rattle.doors.specs.Doors.{write_bytes, start_bytes, pick_bytes, run_bytes, issue}
use Rattle.doors.specs.Doors.{answer, Said, refused, ended, spent, said_by, dispatch_said_by, printed, Row, ◌gives◌, says, on_lanes, prints, Right}
use Rattle.doors.proofs.Walk.{quick_no, program_quick, quick_image, image_quick, walked_no, walked_lanes_no, state_walked, lanes_walked}
use Rattle.doors.proofs.Walk.{quick_start, start_quick, quick_job, job_quick, quick_text, text_quick}

abbrev pub same_bytes : List ℕ → List ℕ → Bool
same_bytes [] [] = true
same_bytes [] (y ∷ ys) = false
same_bytes (x ∷ xs) [] = false
same_bytes (x ∷ xs) (y ∷ ys) = eqb x y && same_bytes xs ys

abbrev pub same_said : Said → Said → Bool
same_said (refused n) (refused k) = eqb n k
same_said (refused n) (ended k) = false
same_said (refused n) (spent k) = false
same_said (ended n) (refused k) = false
same_said (ended n) (ended k) = eqb n k
same_said (ended n) (spent k) = false
same_said (spent n) (refused k) = false
same_said (spent n) (ended k) = false
same_said (spent n) (spent k) = eqb n k

-- a run, a dispatcher and a call's answer, with the shape test in one walk
abbrev pub walked_outcome : List ℕ → List ℤ → State → ℕ → Outcome
walked_outcome program words state budget =
    outcome_by program words (walked_no program words state) state (run_from program words state 0 budget)

abbrev pub walked_rounds : List ℕ → List ℤ → State → ℕ → ℕ → Dispatched
walked_rounds program words state lanes budget =
    dispatched_by (walked_lanes_no program words lanes state) state (rounds_from program words state lanes budget)

-- question 15 of the writer's two buffers
abbrev pub lent_no : List ℕ → ℕ → ℕ
lent_no program lent =
    ask (eqb (length program) program_cells) 15
    (ask (eqb lent (image_length (version_of program) (block_count program) (instruction_count program))) 15 0)

abbrev pub walked_answer : Call → ℕ
walked_answer (pick program words state slot) = or_else (walked_no program words state) (slot_no state slot)
walked_answer (run program words state budget) = (walked_outcome program words state budget).no
walked_answer (dispatch program words state lanes) = (walked_rounds program words state lanes 0).no
walked_answer (check image) = quick_image image
walked_answer (read image lent) = or_else (quick_image image) (ask (eqb lent program_cells) 15 0)
walked_answer (rewrite image lent) = or_else (quick_image image) (ask (eqb lent (length image)) 15 0)
walked_answer (read_bytes image lent) = or_else (quick_image image) (ask (eqb lent program_bytes) 15 0)
walked_answer (write program lent) = or_else (quick_no program) (lent_no program lent)
walked_answer (start program places interval registers words) = quick_start program places interval (length registers) (length words)
walked_answer (job bytes) = quick_job bytes
walked_answer (run_job bytes lent) = or_else (quick_job bytes) (ask (eqb lent report_length) 15 0)
walked_answer (replay bytes lent) = or_else (quick_job bytes) (ask (eqb lent state_length) 15 0)
walked_answer (dispatch_job bytes lanes lent) = or_else (quick_job bytes) (ask (eqb lent rounds_report_length) 15 (ask (lanes_allowed lanes) 41 0))
walked_answer (write_bytes program lent) = answer (write_bytes program lent)
walked_answer (start_bytes program places interval registers words lent) = answer (start_bytes program places interval registers words lent)
walked_answer (pick_bytes program words slot state) = answer (pick_bytes program words slot state)
walked_answer (run_bytes program words state lent) = answer (run_bytes program words state lent)
walked_answer (issue program words interval f) = answer (issue program words interval f)

abbrev pub passes : Row → Bool
passes (call gives n) = eqb (walked_answer call) n
passes (says program words state budget said) = same_said (said_by (walked_outcome program words state budget)) said
passes (on_lanes program words state lanes budget said) = same_said (dispatch_said_by (walked_rounds program words state lanes budget)) said
passes (prints bytes budget lines) = same_bytes (quick_text bytes budget) (printed lines)

-- ---- It is enough

same_bytes_lem : (xs ys : List ℕ) → same_bytes xs ys ≡ true → xs ≡ ys
same_bytes_lem [] [] e = refl
same_bytes_lem [] (y ∷ ys) e = clash e refl
same_bytes_lem (x ∷ xs) [] e = clash e refl
same_bytes_lem (x ∷ xs) (y ∷ ys) e =
    let p = both_true (eqb x y) (same_bytes xs ys) e in ap₂ ◌∷◌ (eqb-true x y p.0) (same_bytes_lem xs ys p.1)

same-said : (x y : Said) → same_said x y ≡ true → x ≡ y
same-said (refused n) (refused k) e = ap refused (eqb-true n k e)
same-said (refused n) (ended k) e = clash e refl
same-said (refused n) (spent k) e = clash e refl
same-said (ended n) (refused k) e = clash e refl
same-said (ended n) (ended k) e = ap ended (eqb-true n k e)
same-said (ended n) (spent k) e = clash e refl
same-said (spent n) (refused k) e = clash e refl
same-said (spent n) (ended k) e = clash e refl
same-said (spent n) (spent k) e = ap spent (eqb-true n k e)

outcome-walked : (program : List ℕ) (words : List ℤ) (state : State) (budget : ℕ)
    → outcome program words state budget ≡ walked_outcome program words state budget
unfolding outcome
outcome-walked program words state budget =
    ap (λ (n : ℕ). outcome_by program words n state (run_from program words state 0 budget)) (state_walked program words state)

rounds-walked : (program : List ℕ) (words : List ℤ) (state : State) (lanes budget : ℕ)
    → dispatched program words state lanes budget ≡ walked_rounds program words state lanes budget
unfolding dispatched
rounds-walked program words state lanes budget =
    ap (λ (n : ℕ). dispatched_by n state (rounds_from program words state lanes budget)) (lanes_walked program words lanes state)

answer-walked : (c : Call) → answer c ≡ walked_answer c
unfolding read_no rewrite_no steps.read_no write_no run_no replay_no dispatch_job_no
answer-walked (pick program words state slot) = ap (λ (n : ℕ). or_else n (slot_no state slot)) (state_walked program words state)
answer-walked (run program words state budget) = ap (λ (o : Outcome). o.no) (outcome-walked program words state budget)
answer-walked (dispatch program words state lanes) = ap (λ (o : Dispatched). o.no) (rounds-walked program words state lanes 0)
answer-walked (check image) = image_quick image
answer-walked (read image lent) = ap (λ (n : ℕ). or_else n (ask (eqb lent program_cells) 15 0)) (image_quick image)
answer-walked (rewrite image lent) = ap (λ (n : ℕ). or_else n (ask (eqb lent (length image)) 15 0)) (image_quick image)
answer-walked (read_bytes image lent) = ap (λ (n : ℕ). or_else n (ask (eqb lent program_bytes) 15 0)) (image_quick image)
answer-walked (write program lent) = ap (λ (n : ℕ). or_else n (lent_no program lent)) (program_quick program)
answer-walked (start program places interval registers words) = start_quick program places interval (length registers) (length words)
answer-walked (job bytes) = job_quick bytes
answer-walked (run_job bytes lent) = ap (λ (n : ℕ). or_else n (ask (eqb lent report_length) 15 0)) (job_quick bytes)
answer-walked (replay bytes lent) = ap (λ (n : ℕ). or_else n (ask (eqb lent state_length) 15 0)) (job_quick bytes)
answer-walked (dispatch_job bytes lanes lent) =
    ap (λ (n : ℕ). or_else n (ask (eqb lent rounds_report_length) 15 (ask (lanes_allowed lanes) 41 0))) (job_quick bytes)
answer-walked (write_bytes program lent) = refl
answer-walked (start_bytes program places interval registers words lent) = refl
answer-walked (pick_bytes program words slot state) = refl
answer-walked (run_bytes program words state lent) = refl
answer-walked (issue program words interval f) = refl

pub right : (x : Row) → passes x ≡ true → Right x
right (call gives n) e = answer-walked call ∙ eqb-true (walked_answer call) n e
right (says program words state budget said) e =
    ap said_by (outcome-walked program words state budget) ∙ same-said (said_by (walked_outcome program words state budget)) said e
right (on_lanes program words state lanes budget said) e =
    ap dispatch_said_by (rounds-walked program words state lanes budget)
    ∙ same-said (dispatch_said_by (walked_rounds program words state lanes budget)) said e
right (prints bytes budget lines) e = text_quick bytes budget ∙ same_bytes_lem (quick_text bytes budget) (printed lines) e
