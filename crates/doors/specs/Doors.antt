-- The engine's doors: a call with all that it is given, the number that its definition answers, and what a row of the table says.
use Rattle.std.specs.Prelude.{◌≡◌, cond, List, [], ◌∷◌, ◌++◌, ℕ, zero, suc, eqb, ℤ}
use Prim.Native.Char.{code}
use Prim.Native.String as text
use Prim.Native.String.{String}
use Rattle.task.specs.Choices.{chosen}
use Rattle.image.specs.Layout.{program_of}
use Rattle.image.specs.Doors.{image_no, read_no, rewrite_no, write_no}
use Rattle.agreement.specs.Plain.{Stepped, one, two}
use Rattle.task.specs.declared.Frame.{Frame}
use Rattle.task.specs.Step.{step}
use Rattle.drive.specs.declared.State.{State}
use Rattle.machine.specs.Outcome.{Outcome}
use Rattle.machine.specs.Starting.{start_no}
use Rattle.machine.specs.Picking.{pick_no}
use Rattle.machine.specs.Running.{outcome}
use Rattle.machine.specs.Dispatched.{Dispatched}
use Rattle.machine.specs.Dispatching.{dispatched}
use Rattle.job.specs.Dispatch.{dispatch_job_no}
use Rattle.state.specs.State.{fault_number}
use Rattle.steps.specs.Calls as steps
use Rattle.job.specs.Job.{job_no}
use Rattle.job.specs.Replay.{replay_no}
use Rattle.job.specs.Run.{run_no, text_in}

infix 70 ◌gives◌
infix 70 ◌gets◌
-- ---- Calls

pub data Call : Type 0 where
  -- the image check: an image
  check : List ℕ → Call
  -- the reader, and reading an image to write it back: an image, and the length of the buffer that is lent
  read rewrite : List ℕ → ℕ → Call
  -- the reader over bytes: the lent length is in bytes
  read_bytes : List ℕ → ℕ → Call
  -- the writer: a program buffer, and the length of the buffer that is lent
  write : List ℕ → ℕ → Call
  -- start: a program buffer, P, the interval, registers and words
  start : List ℕ → ℕ → ℕ → List ℤ → List ℤ → Call
  -- pick: a program buffer, words, a state and a slot
  pick : List ℕ → List ℤ → State → ℕ → Call
  -- run: a program buffer, words, a state and a budget
  run : List ℕ → List ℤ → State → ℕ → Call
  -- the dispatcher: a program buffer, words, a state and lanes
  dispatch : List ℕ → List ℤ → State → ℕ → Call
  -- the run program: a job
  job : List ℕ → Call
  -- the run and the replay of a job: a job, and the length of the buffer that is lent
  run_job replay : List ℕ → ℕ → Call
  -- the dispatcher of a job: a job, lanes, and the length of the buffer that is lent
  dispatch_job : List ℕ → ℕ → ℕ → Call
  -- the calls over bytes. The writer: a program, and the length of the lent image
  write_bytes : List ℕ → ℕ → Call
  -- start: a program, P, the interval, registers, words, and the length of the lent state
  start_bytes : List ℕ → ℕ → ℕ → List ℕ → List ℕ → ℕ → Call
  -- pick: a program, words, a slot and a state
  pick_bytes : List ℕ → List ℕ → ℕ → List ℕ → Call
  -- run: a program, words, a state, and the length of the lent report
  run_bytes : List ℕ → List ℕ → List ℕ → ℕ → Call
  -- no door, but asked in the same way: one instruction, of a program buffer, words, the interval and a task with its registers
  issue : List ℕ → List ℤ → ℕ → Frame → Call

-- the number of the fault that an instruction ends its task with; 0 for none
abbrev pub fault_in : Stepped Frame → ℕ
fault_in (one f) = fault_number f.task.status
fault_in (two p c) = 0

-- 0, or the number of the question that was answered with no
abbrev pub answer : Call → ℕ
answer (check image) = image_no image
answer (read image lent) = read_no image lent
answer (rewrite image lent) = rewrite_no image lent
answer (read_bytes image lent) = steps.read_no image lent
answer (write program lent) = write_no program lent
answer (start program places interval registers words) = start_no program places interval registers words
answer (pick program words state slot) = pick_no program words state slot
answer (run program words state budget) = (outcome program words state budget).no
answer (dispatch program words state lanes) = (dispatched program words state lanes 0).no
answer (job bytes) = job_no bytes
answer (run_job bytes lent) = run_no bytes lent
answer (replay bytes lent) = replay_no bytes lent
answer (dispatch_job bytes lanes lent) = dispatch_job_no bytes lanes lent
answer (write_bytes program lent) = steps.written_no program lent
answer (start_bytes program places interval registers words lent) = steps.started_no program places interval registers words lent
answer (pick_bytes program words slot state) = steps.picked_no program words slot state
answer (run_bytes program words state lent) = steps.ran_no program words state lent
answer (issue program words interval f) = fault_in (step (program_of program) words (chosen interval) f)

-- ---- All that a run answers

pub data Said : Type 0 where
  -- refused, and the number
  refused : ℕ → Said
  -- ended or spent, and the picks carried out
  ended spent : ℕ → Said

abbrev pub said_by : Outcome → Said
said_by o = cond (eqb o.no 0) (cond o.ended (ended o.picks) (spent o.picks)) (refused o.no)

-- the dispatcher's number is that of the rounds
abbrev pub dispatch_said_by : Dispatched → Said
dispatch_said_by o = cond (eqb o.no 0) (cond o.ended (ended o.rounds) (spent o.rounds)) (refused o.no)

-- ---- What the run program prints

abbrev pub ascii : String → List ℕ
ascii text.[] = []
ascii (text.◌∷◌ c s) = code c ∷ ascii s

-- each line ends with the byte 10
abbrev pub printed : List String → List ℕ
printed [] = []
printed (line ∷ lines) = ascii line ++ (10 ∷ printed lines)

-- ---- Rows

pub data Row : Type 0 where
  -- the call answers this number
  ◌gives◌ : Call → ℕ → Row
  -- a run of this program buffer, words, state and budget says this
  says : List ℕ → List ℤ → State → ℕ → Said → Row
  -- the dispatcher of this program buffer, words, state, lanes and budget says this
  on_lanes : List ℕ → List ℤ → State → ℕ → ℕ → Said → Row
  -- the run program prints these lines for a job and a budget
  prints : List ℕ → ℕ → List String → Row

abbrev pub Right : Row → Type 0
Right (call gives n) = answer call ≡ n
Right (says program words state budget said) = said_by (outcome program words state budget) ≡ said
Right (on_lanes program words state lanes budget said) = dispatch_said_by (dispatched program words state lanes budget) ≡ said
Right (prints bytes budget lines) = text_in bytes budget ≡ printed lines

-- ---- What several doors are asked

-- an image or a program buffer, and its number
pub data Asked : Type 0 where
  ◌gets◌ : List ℕ → ℕ → Asked

-- the number n, or where it is 0 the number of a later question that is answered with no
abbrev pub or_later : ℕ → ℕ → ℕ
or_later zero later = later
or_later (suc n) later = suc n
