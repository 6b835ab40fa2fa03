-- Start: its questions, and the state that it makes.
use Rattle.std.specs.Prelude.{List, ℕ, eqb, leb, ℤ, length, replicate}
use Rattle.image.specs.Layout.{program_cells}
use Rattle.image.specs.Questions.{ask, or_else, program_no}
use Rattle.image.specs.Doors.{unless_refused}
use Rattle.task.specs.Frames.{bank_length, stacks_length, zero_register, vacant_task, integers, start_frame}
use Rattle.drive.specs.declared.State.{State}
use Rattle.drive.specs.Slots.{put}
use Rattle.drive.specs.Settings.{places_allowed, interval_allowed}

abbrev pub most_words : ℕ
most_words = 4096

-- P allowed? (11) Interval 0 or 8 to 65,535? (12) Sixteen registers? (13) At most 4,096 words? (14) Every lent buffer of the length docs/
-- names? (15) Of registers, words and the program buffer only their number counts
abbrev pub settings_no : ℕ → ℕ → ℕ → ℕ → ℕ → ℕ
settings_no places interval registers words cells =
    ask (places_allowed places) 11
    (ask (interval_allowed interval) 12
    (ask (eqb registers 16) 13
    (ask (leb words most_words) 14
    (ask (eqb cells program_cells) 15 0))))

-- the program's questions first
unfoldable pub start_no_by : List ℕ → ℕ → ℕ → ℕ → ℕ → ℕ
start_no_by cells places interval registers words =
    or_else (program_no cells) (settings_no places interval registers words (length cells))

abbrev pub start_no : List ℕ → ℕ → ℕ → List ℤ → List ℤ → ℕ
start_no cells places interval registers words = start_no_by cells places interval (length registers) (length words)

-- a state with no task
abbrev pub empty : ℕ → ℕ → State
empty places interval = record {
  places = places;
  interval = interval;
  work = 0;
  bank = replicate bank_length zero_register;
  stacks = replicate stacks_length zero_register;
  tasks = replicate 64 vacant_task;
}

-- one task starts in slot 0 with the start registers, which are integers, all P places, block 0, counter, work and span 0, no open fork
unfoldable pub fresh : ℕ → ℕ → List ℤ → State
fresh places interval registers = put (empty places interval) 0 (start_frame places (integers registers))

-- the state handed back: a refused start hands back the one that it was called on
abbrev pub started : State → List ℕ → ℕ → ℕ → List ℤ → List ℤ → State
started m cells places interval registers words =
    unless_refused (start_no cells places interval registers words) (fresh places interval registers) m
