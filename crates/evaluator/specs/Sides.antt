-- A task with its registers (`Side`), and its stack, as a frame; a side that is kept as an open fork of `serial`; the job and its live tasks; and one
-- instruction, whatever it is.
use Rattle.std.specs.Prelude.{◌≡◌, Bool, true, false, cond, List, ℕ, ◌<◌, ◌≤◌, set}
use Rattle.image.specs.Layout.{program_of}
use Rattle.agreement.specs.Plain.{Stepped, one, two}
use Rattle.serial.specs.Serial.{Open, to_come, finished}
use Rattle.task.specs.declared.Register.{Register}
use Rattle.task.specs.declared.Status.TheVariants.{Waiting, Halted}
use Rattle.task.specs.declared.Task.{Task}
use Rattle.task.specs.declared.Frame.{Frame}
use Rattle.task.specs.declared.Kind.{Kind}
use Rattle.task.specs.declared.Kind.TheVariants.{Stores, Goes, Pushes, Pops, Waits, Halts, Faults, Forks}
use Rattle.task.specs.declared.Executed.{Executed}
use Rattle.task.specs.Frames.{running, work_limit}
use Rattle.task.specs.Values.{record_of}
use Rattle.task.specs.Formed.{formed, within}
use Rattle.task.specs.Step.{counted, moved_to, ended, side, with_task, emptied, faulted, has_place, has_value, pushed, popped}
use Rattle.arms.specs.declared.Registers.{Registers}
use Rattle.evaluator.specs.Banks.{bank_of}

pub record Side : Type 0 where
  pub task : Task
  pub registers : Registers

abbrev pub frame_of : Side → List Register → Frame
frame_of s stack = record { task = s.task; registers = bank_of s.registers; stack = stack }

-- ---- The forks pending

-- a kept side runs still, and is a child's that is to come; or has ended, and is a parent's
abbrev pub open_by : Bool → Frame → Open Frame
open_by true f = to_come f
open_by false f = finished f

abbrev pub open_of : Frame → Open Frame
open_of f = open_by (running f) f

-- ---- Live tasks

-- the job: 2 ^ D places, a budget that no count overruns
pub record Base (D budget : ℕ) : Type 0 where
  pub room : D ≤ 6
  pub limited : budget ≤ work_limit

-- of a job of 2 ^ D places, with 2 ^ h of them, its counter and span at most W
pub record Good (cells : List ℕ) (D h W : ℕ) (f : Frame) : Type 0 where
  pub its_is_formed : formed (program_of cells) D h f ≡ true
  pub is_within : within W f ≡ true

-- ---- One instruction

-- what one may rest on
pub record CanStep (cells : List ℕ) (own : Side) : Type 0 where
  pub rank : ℕ
  pub height : ℕ
  pub before : ℕ
  pub stack : List Register
  pub room : rank ≤ 6
  pub below_limit : before < work_limit
  pub good : Good cells rank height before (frame_of own stack)
  pub runs : running (frame_of own stack) ≡ true

-- by the kind of what an instruction hands back: the value goes to r; registers and stack stay; it is pushed where a place is left (42), or the
-- last one popped where there is one (43); a fault's are 16 integers 0 and an empty stack; the child has the parent's registers and span, counter
-- 0 and an empty stack
abbrev pub made_of : Kind → Frame → ℕ → Executed → Stepped Frame
made_of Stores f r e = one (record {
  task = moved_to e.pc e.counter (counted f.task);
  registers = set f.registers r (record { value = e.value });
  stack = f.stack;
})
made_of Goes f r e = one (with_task (moved_to e.pc e.counter (counted f.task)) f)
made_of Pushes f r e =
    let after = with_task (moved_to e.pc e.counter (counted f.task)) f in
    one (cond (has_place f.task) (pushed e.value after) (faulted 42 (with_task (counted f.task) f)))
made_of Pops f r e =
    let after = with_task (moved_to e.pc e.counter (counted f.task)) f in
    one (cond (has_value f.task) (popped r after) (faulted 43 (with_task (counted f.task) f)))
made_of Waits f r e = one (with_task (ended Waiting (counted f.task)) f)
made_of Halts f r e = one (with_task (ended Halted (counted f.task)) f)
made_of Faults f r e = one (faulted e.fault (with_task (counted f.task) f))
made_of Forks f r e =
    let parent = side (record_of e.value) e.pc e.counter (counted f.task) in
    two (with_task parent f) (emptied (with_task (moved_to e.child 0 parent) f))
