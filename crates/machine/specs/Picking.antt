-- Pick: its questions, and the state that it hands back.
use Rattle.std.specs.Prelude.{List, ℕ, eqb, leb, ℤ, length}
use Rattle.image.specs.Layout.{program_cells, program_of}
use Rattle.image.specs.Questions.{ask, or_else, program_no}
use Rattle.image.specs.Doors.{unless_refused}
use Rattle.drive.specs.declared.State.{State}
use Rattle.drive.specs.Shape.{shape}
use Rattle.drive.specs.Issue.{slot_no, issued}
use Rattle.machine.specs.Starting.{most_words}

-- The program's questions, then 14 and 15, as start has them: every call on a state puts them. Of the words only their number counts
abbrev pub call_no : List ℕ → ℕ → ℕ
call_no cells words = or_else (program_no cells) (ask (leb words most_words) 14 (ask (eqb (length cells) program_cells) 15 0))

-- then: does the state meet the shape test? (20)
unfoldable pub state_no_by : List ℕ → ℕ → State → ℕ
state_no_by cells words m = or_else (call_no cells words) (ask (shape (program_of cells) m) 20 0)

abbrev pub state_no : List ℕ → List ℤ → State → ℕ
state_no cells words m = state_no_by cells (length words) m

-- these, then the slot's
abbrev pub pick_no : List ℕ → List ℤ → State → ℕ → ℕ
pick_no cells words m k = or_else (state_no cells words m) (slot_no m k)

-- a refused pick hands back the old state
abbrev pub picked : List ℕ → List ℤ → State → ℕ → State
picked cells words m k = unless_refused (pick_no cells words m k) (issued cells words m k) m
