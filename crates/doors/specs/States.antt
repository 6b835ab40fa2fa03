-- States for pick and run: those of F after some picks, and states written out slot by slot.
use Rattle.std.specs.Prelude.{List, [], ◌∷◌, ℕ, pos, set}
use Rattle.task.specs.declared.Value.{Value}
use Rattle.task.specs.declared.Register.{Register}
use Rattle.task.specs.declared.Status.{Status}
use Rattle.task.specs.declared.Fork.{Fork}
use Rattle.task.specs.declared.Task.{Task}
use Rattle.task.specs.declared.Frame.{Frame}
use Rattle.task.specs.Step.{with_height}
use Rattle.drive.specs.declared.State.{State}
use Rattle.drive.specs.Slots.{at, put}
use Rattle.machine.specs.Starting as start
use Rattle.drive.specs.Issue.{issued}
use Rattle.doors.specs.Programs.{program_f, zeros}

-- ---- F after picks

-- picks of these slots that are carried out, one after the other
abbrev pub carried_out : List ℕ → State → State
carried_out [] m = m
carried_out (k ∷ ks) m = carried_out ks (issued program_f [] m k)

-- from a start with P, interval 0, r0 4, other registers 0 and no words
abbrev pub after : ℕ → List ℕ → State
after places slots = carried_out slots (start.fresh places 0 (pos 4 ∷ zeros 15))

-- with P 2: the start; both sides open; the parent's side waits; the end
abbrev pub fresh : State
fresh = after 2 []

abbrev pub forked : State
forked = after 2 (0 ∷ 0 ∷ [])

abbrev pub parent_waits : State
parent_waits = after 2 (0 ∷ 0 ∷ 0 ∷ 0 ∷ [])

abbrev pub halted : State
halted = after 2 (0 ∷ 0 ∷ 0 ∷ 0 ∷ 1 ∷ 1 ∷ 0 ∷ 0 ∷ 0 ∷ [])

-- with P 1: the end by fault 37
abbrev pub faulted : State
faulted = after 1 (0 ∷ 0 ∷ [])

-- ---- Those states changed

abbrev pub with_places : ℕ → State → State
with_places places m = record { places = places; interval = m.interval; work = m.work; bank = m.bank; stacks = m.stacks; tasks = m.tasks }

abbrev pub with_interval : ℕ → State → State
with_interval interval m = record { places = m.places; interval = interval; work = m.work; bank = m.bank; stacks = m.stacks; tasks = m.tasks }

abbrev pub with_work : ℕ → State → State
with_work work m = record { places = m.places; interval = m.interval; work = work; bank = m.bank; stacks = m.stacks; tasks = m.tasks }

-- a field of a task record, an entry of its forks, a register, or an entry of its stack
pub data Change : Type 0 where
  status : Status → Change
  places pc counter span depth height : ℕ → Change
  fork : ℕ → Fork → Change
  register entry : ℕ → Value → Change

abbrev pub task_but : Change → Task → Task
task_but (status x) t = record {
  status = x;
  places = t.places;
  pc = t.pc;
  counter = t.counter;
  span = t.span;
  depth = t.depth;
  height = t.height;
  forks = t.forks;
}
task_but (places n) t = record {
  status = t.status;
  places = n;
  pc = t.pc;
  counter = t.counter;
  span = t.span;
  depth = t.depth;
  height = t.height;
  forks = t.forks;
}
task_but (pc n) t = record {
  status = t.status;
  places = t.places;
  pc = n;
  counter = t.counter;
  span = t.span;
  depth = t.depth;
  height = t.height;
  forks = t.forks;
}
task_but (counter n) t = record {
  status = t.status;
  places = t.places;
  pc = t.pc;
  counter = n;
  span = t.span;
  depth = t.depth;
  height = t.height;
  forks = t.forks;
}
task_but (span n) t = record {
  status = t.status;
  places = t.places;
  pc = t.pc;
  counter = t.counter;
  span = n;
  depth = t.depth;
  height = t.height;
  forks = t.forks;
}
task_but (depth n) t = record {
  status = t.status;
  places = t.places;
  pc = t.pc;
  counter = t.counter;
  span = t.span;
  depth = n;
  height = t.height;
  forks = t.forks;
}
task_but (height n) t = with_height n t
task_but (fork i k) t = record {
  status = t.status;
  places = t.places;
  pc = t.pc;
  counter = t.counter;
  span = t.span;
  depth = t.depth;
  height = t.height;
  forks = set t.forks i k;
}
task_but (register r v) t = t
task_but (entry i v) t = t

abbrev pub registers_but : Change → List Register → List Register
registers_but (status x) rs = rs
registers_but (places n) rs = rs
registers_but (pc n) rs = rs
registers_but (counter n) rs = rs
registers_but (span n) rs = rs
registers_but (depth n) rs = rs
registers_but (height n) rs = rs
registers_but (fork i k) rs = rs
registers_but (register r v) rs = set rs r (record { value = v })
registers_but (entry i v) rs = rs

abbrev pub stack_but : Change → List Register → List Register
stack_but (status x) vs = vs
stack_but (places n) vs = vs
stack_but (pc n) vs = vs
stack_but (counter n) vs = vs
stack_but (span n) vs = vs
stack_but (depth n) vs = vs
stack_but (height n) vs = vs
stack_but (fork i k) vs = vs
stack_but (register r v) vs = vs
stack_but (entry i v) vs = set vs i (record { value = v })

abbrev pub frame_but : Change → Frame → Frame
frame_but c f = record { task = task_but c f.task; registers = registers_but c f.registers; stack = stack_but c f.stack }

-- the frame of slot k changed
abbrev pub but : ℕ → Change → State → State
but k c m = put m k (frame_but c (at m k))

-- what one slot holds, put at another
abbrev pub copied : ℕ → ℕ → State → State
copied from to m = put m to (at m from)
