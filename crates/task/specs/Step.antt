-- One instruction carried out on one task (`step`): what its effect makes of the task. And the task that two ended sides make (`join`).
use Rattle.std.specs.Prelude.{Bool, true, false, cond, ◌&&◌, List, ℕ, zero, suc, ◌+◌, ◌-◌, ◌/◌, ◌%◌, max, eqb, ltb, leb, ℤ, get_or, set}
use Rattle.std.proofs.Math.Option.{Option, none, some}
use Rattle.std.specs.Int.{w64}
use Rattle.std.proofs.Common.{to_z}
use Rattle.image.specs.declared.Instruction.{Instruction}
use Rattle.image.specs.Program.{Program}
use Rattle.agreement.specs.Plain.{Stepped, one, two}
use Rattle.task.specs.declared.Value.{Value}
use Rattle.task.specs.declared.Value.TheVariants.{Int, Label}
use Rattle.task.specs.declared.Register.{Register}
use Rattle.task.specs.declared.Status.{Status}
use Rattle.task.specs.declared.Status.TheVariants.{Running, Waiting, Halted, Faulted}
use Rattle.task.specs.declared.Fork.{Fork}
use Rattle.task.specs.declared.Active.{Active}
use Rattle.task.specs.declared.Task.{Task}
use Rattle.task.specs.declared.Frame.{Frame}
use Rattle.task.specs.Frames.{zero_register, zeros, stack_length, empty_stack, zero_fork, fault_of}
use Rattle.task.specs.Choices.{Choices}
use Rattle.task.specs.Effect.{Effect, stores, continues, pushes, pops, enters, forks, waits, halts, faults, unknown, opcodes, effect_of}

-- ---- Operands

-- r0 to r15
abbrev pub register : Frame → ℕ → Value
register f r = (get_or f.registers r zero_register).value

-- the values of its stack, the first one pushed first
abbrev pub entry : Frame → ℕ → Value
entry f i = (get_or f.stack i zero_register).value

-- an operand v is a register (kind 1), a label (2) or an integer literal (3, in two's complement)
unfoldable pub operand : Frame → Instruction → Value
operand f x = elim (eqb x.kind 1) [
  | true ↦ register f x.operand
  | false ↦ elim (eqb x.kind 2) [ true ↦ Label x.operand | false ↦ Int (to_z w64 x.operand) ]
]

-- what an instruction looks at of a task, besides its open forks and its stack
abbrev pub active_of : Task → Active
active_of t = record { places = t.places; pc = t.pc; counter = t.counter; depth = t.depth }

-- ---- What an instruction leaves of a task

-- places, depth, height and open forks as they were
abbrev pub went : Status → ℕ → ℕ → ℕ → Task → Task
went s pc counter span t =
    record { status = s; places = t.places; pc = pc; counter = counter; span = span; depth = t.depth; height = t.height; forks = t.forks }

-- it adds 1 to the task's counter and span
abbrev pub counted : Task → Task
counted t = went t.status t.pc (t.counter + 1) (t.span + 1) t

-- the task at another instruction
abbrev pub moved_to : ℕ → ℕ → Task → Task
moved_to pc counter t = went t.status pc counter t.span t

-- the task waits, has halted or has faulted
abbrev pub ended : Status → Task → Task
ended s t = went s 0 0 t.span t

-- one side of a fork: half of the places, and an open fork more, under the record
abbrev pub side : Fork → ℕ → ℕ → Task → Task
side k pc counter t = record {
  status = t.status;
  places = t.places / 2;
  pc = pc;
  counter = counter;
  span = t.span;
  depth = t.depth + 1;
  height = t.height;
  forks = set t.forks t.depth k;
}

-- with a stack of another height
abbrev pub with_height : ℕ → Task → Task
with_height n t =
    record { status = t.status; places = t.places; pc = t.pc; counter = t.counter; span = t.span; depth = t.depth; height = n; forks = t.forks }

abbrev pub with_task : Task → Frame → Frame
with_task t f = record { task = t; registers = f.registers; stack = f.stack }

-- the frame at the next instruction
abbrev pub onward : Frame → Frame
onward f = with_task (moved_to (f.task.pc + 1) f.task.counter f.task) f

-- with an empty stack
abbrev pub emptied : Frame → Frame
emptied f = record { task = with_height 0 f.task; registers = f.registers; stack = empty_stack }

-- a fault sets the task's registers to 16 integers 0, and empties its stack
abbrev pub faulted : ℕ → Frame → Frame
faulted n f = record { task = with_height 0 (ended (Faulted n) f.task); registers = zeros; stack = empty_stack }

-- ---- Entering a block by jump, taken if-jump or join

-- it is promotion-ready, the counter is due for a beat and the task has two places or more
unfoldable pub promotes : Program → Choices → ℕ → ℕ → ℕ → Bool
promotes program choices b counter places =
    eqb (program.block b).annotation 1 && (choices.due counter && leb 2 places)

-- then the counter becomes 0 and control goes to the handler; otherwise it enters the block
abbrev pub entered : Program → Choices → ℕ → Task → Task
entered program choices b t =
    cond (promotes program choices b t.counter t.places) (moved_to (program.block (program.block b).label).first 0 t)
    (moved_to (program.block b).first t.counter t)

-- ---- The stack: push puts a value on it, pop takes the last one

-- a place left on the stack? (42)
abbrev pub has_place : Task → Bool
has_place t = ltb t.height stack_length

-- something on it? (43)
abbrev pub has_value : Task → Bool
has_value t = ltb 0 t.height

-- the first unused entry has the value
abbrev pub pushed : Value → Frame → Frame
pushed v f = record {
  task = with_height (f.task.height + 1) f.task;
  registers = f.registers;
  stack = set f.stack f.task.height (record { value = v });
}

-- the last one goes to r, and leaves the integer 0 behind
abbrev pub popped : ℕ → Frame → Frame
popped r f = record {
  task = with_height (f.task.height - 1) f.task;
  registers = set f.registers r (get_or f.stack (f.task.height - 1) zero_register);
  stack = set f.stack (f.task.height - 1) zero_register;
}

-- ---- An instruction

module _ (program : Program) where
  -- what an effect makes of a task that has counted the instruction, whose register is r
  module _ (choices : Choices) where
    abbrev pub applied : ℕ → Frame → Effect → Stepped Frame
    applied r f (stores v) =
        one (record { task = (onward f).task; registers = set f.registers r (record { value = v }); stack = f.stack })
    applied r f continues = one (onward f)
    -- a place left on the stack? (42)
    applied r f (pushes v) = one (cond (has_place f.task) (pushed v (onward f)) (faulted 42 f))
    -- something on it? (43)
    applied r f pops = one (cond (has_value f.task) (popped r (onward f)) (faulted 43 f))
    applied r f (enters b) = one (with_task (entered program choices b f.task) f)
    -- the child has the parent's registers and span, counter 0 and an empty stack, and starts the block
    applied r f (forks k b) =
        two
        (with_task (side k (f.task.pc + 1) f.task.counter f.task) f)
        (emptied (with_task (side k (program.block b).first 0 f.task) f))
    applied r f waits = one (with_task (ended Waiting f.task) f)
    applied r f halts = one (with_task (ended Halted f.task) f)
    applied r f (faults n) = one (faulted n f)

  unfoldable pub step : List ℤ → Choices → Frame → Stepped Frame
  step words choices f =
      let x = program.instruction f.task.pc in
      let t = counted f.task in
      applied choices x.r (with_task t f)
      (effect_of program words choices (register f x.s) (operand f x) (active_of t) t.forks (get_or opcodes x.opcode unknown))

-- ---- When both sides of a fork have ended

-- n pairs copied: the high four bits of a pair byte name the child's register, its low four bits the target
unfoldable pub copied : List Register → ℕ → ℕ → List Register → List Register
copied child zero packed registers = registers
copied child (suc n) packed registers =
    copied child n (packed / 256) (set registers (packed % 16) (get_or child (packed / 16 % 16) zero_register))

-- all their places, the larger span, counter 0, that fork closed
abbrev pub outward_task : Status → ℕ → ℕ → Task → Task → Task
outward_task s pc height p c = record {
  status = s;
  places = p.places + c.places;
  pc = pc;
  counter = 0;
  span = max p.span c.span;
  depth = p.depth - 1;
  height = height;
  forks = set p.forks (p.depth - 1) zero_fork;
}

-- the parent's number if it has one, else the child's
abbrev pub first_fault : Option ℕ → Option ℕ → Option ℕ
first_fault none c = c
first_fault (some n) c = some n

-- where one or both faulted, the joined task is itself faulted; else it has the parent's registers with the pairs of the
-- continuation block b copied from the child's, and the parent's stack, and starts the combining block
abbrev pub joined_by : Option ℕ → Program → ℕ → Frame → Frame → Frame
joined_by (some n) program b p c =
    record { task = outward_task (Faulted n) 0 0 p.task c.task; registers = zeros; stack = empty_stack }
joined_by none program b p c = record {
  task = outward_task Running (program.block (program.block b).label).first p.task.height p.task c.task;
  registers = copied c.registers (program.block b).pairs (program.block b).packed p.registers;
  stack = p.stack;
}

-- the continuation is that of the parent's innermost fork
unfoldable pub join : Program → Frame → Frame → Frame
join program p c =
    joined_by (first_fault (fault_of p.task.status) (fault_of c.task.status)) program
    (get_or p.task.forks (p.task.depth - 1) zero_fork).continuation p c
