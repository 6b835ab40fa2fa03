-- The calls of the engine in steps, over bytes: what each answers, and what it leaves in the buffer that it writes.
use Rattle.std.specs.Prelude.{Bool, ◌&&◌, List, ℕ, eqb, leb, length}
use Rattle.image.specs.Layout.{cells_in, image_of}
use Rattle.image.specs.Questions.{ask, or_else, program_no}
use Rattle.image.specs.Doors.{image_no, write_no, unless_refused}
use Rattle.drive.specs.declared.State.{State}
use Rattle.machine.specs.Outcome.{Outcome}
use Rattle.machine.specs.Starting.{most_words, empty, start_no, started}
use Rattle.machine.specs.Picking.{state_no, pick_no, picked}
use Rattle.machine.specs.Running.{outcome}
use Rattle.state.specs.Numbers.{in_bytes}
use Rattle.state.specs.State.{state_length, state_bytes}
use Rattle.state.specs.Reading.{stands_state, state_in}
use Rattle.report.specs.Report.{report_of, report_length, report_bytes}
use Rattle.steps.specs.Buffers.{wholes, is_whole, cells_of, integers_of, program_bytes}

-- ---- Programs

-- reading an image into a program buffer: 1 to 9, then 15
unfoldable pub read_no : List ℕ → ℕ → ℕ
read_no image lent = or_else (image_no image) (ask (eqb lent program_bytes) 15 0)

abbrev pub program_after : List ℕ → List ℕ → List ℕ
program_after image program = unless_refused (read_no image (length program)) (in_bytes (cells_in image)) program

-- writing a program buffer to an image: 3, 4 and 6 to 9, then 15
unfoldable pub written_no : List ℕ → ℕ → ℕ
written_no program lent = or_else (write_no (cells_of program) lent) (ask (is_whole program) 15 0)

abbrev pub image_after : List ℕ → List ℕ → List ℕ
image_after program image = unless_refused (written_no program (length image)) (image_of (cells_of program)) image

-- ---- Start: 3, 4 and 6 to 9, 11 to 14, then 15 of every buffer

unfoldable pub started_no : List ℕ → ℕ → ℕ → List ℕ → List ℕ → ℕ → ℕ
started_no program places interval registers words lent =
    or_else (start_no (cells_of program) places interval (integers_of registers) (integers_of words))
    (ask (is_whole program && (is_whole registers && (is_whole words && eqb lent state_length))) 15 0)

-- the state that it makes, called on a blank one
abbrev pub start_state : List ℕ → ℕ → ℕ → List ℕ → List ℕ → State
start_state program places interval registers words =
    started (empty 0 0) (cells_of program) places interval (integers_of registers) (integers_of words)

abbrev pub state_after_start : List ℕ → ℕ → ℕ → List ℕ → List ℕ → List ℕ → List ℕ
state_after_start program places interval registers words state =
    unless_refused (started_no program places interval registers words (length state))
    (state_bytes (start_state program places interval registers words)) state

-- ---- Pick and run

-- the program's questions, at most 4,096 words (14), every lent buffer of the length docs/ names (15; `others`: those of state and report),
-- and then: do the state's bytes stand for a state? (20)
unfoldable pub lent_no : List ℕ → List ℕ → Bool → List ℕ → ℕ
lent_no program words others state =
    or_else (program_no (cells_of program))
    (ask (leb (wholes words) most_words) 14
    (ask (eqb (length program) program_bytes && (is_whole words && others)) 15 (ask (stands_state state) 20 0)))

-- whether all but the program's questions are answered with yes
abbrev pub is_ready : List ℕ → List ℕ → Bool → List ℕ → Bool
is_ready program words others state =
    (eqb (length program) program_bytes && (is_whole words && others)) && (leb (wholes words) most_words && stands_state state)

-- these, and then the pick's questions of the state that they stand for: 20 to 24
unfoldable pub picked_no : List ℕ → List ℕ → ℕ → List ℕ → ℕ
picked_no program words slot state =
    or_else (lent_no program words (eqb (length state) state_length) state)
    (pick_no (cells_of program) (integers_of words) (state_in state) slot)

abbrev pub state_after_pick : List ℕ → List ℕ → ℕ → List ℕ → List ℕ
state_after_pick program words slot state =
    unless_refused (picked_no program words slot state)
    (state_bytes (picked (cells_of program) (integers_of words) (state_in state) slot)) state

-- these, and then the run's: 20
unfoldable pub ran_no : List ℕ → List ℕ → List ℕ → ℕ → ℕ
ran_no program words state report =
    or_else (lent_no program words (eqb (length state) state_length && eqb report report_length) state)
    (state_no (cells_of program) (integers_of words) (state_in state))

abbrev pub run_outcome : List ℕ → List ℕ → ℕ → List ℕ → Outcome
run_outcome program words budget state = outcome (cells_of program) (integers_of words) (state_in state) budget

abbrev pub state_after_run : List ℕ → List ℕ → ℕ → List ℕ → ℕ → List ℕ
state_after_run program words budget state report =
    unless_refused (ran_no program words state report) (state_bytes (run_outcome program words budget state).machine.state) state

-- the picks are this call's
abbrev pub report_after_run : List ℕ → List ℕ → ℕ → List ℕ → List ℕ → List ℕ
report_after_run program words budget state report =
    let o = run_outcome program words budget state in
    unless_refused (ran_no program words state (length report)) (report_bytes (report_of o.machine.state o.picks)) report
