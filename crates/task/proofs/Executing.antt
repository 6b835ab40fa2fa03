-- What the machine makes of a frame with what `execute` hands it is `step`.
use mathlib.Core.Path.{◌≡◌, refl}
use mathlib.Core.Bool.{Bool, true, false, cond}
use mathlib.Core.List.{List}
use Prim.Native.Nat.{ℕ}
use lib.IntN.{ℤ}
use lib.Dec.{eqb}
use lib.ListN.{get_or, set}
use borrow.Author.Tests.{eqb-true}
use Rattle.image.specs.declared.Instruction.{Instruction}
use Rattle.image.specs.Program.{Program}
use Rattle.agreement.specs.Plain.{Stepped, one, two}
use Rattle.task.specs.declared.Value.{Value}
use Rattle.task.specs.declared.Status.TheVariants.{Waiting, Halted}
use Rattle.task.specs.declared.Active.{Active}
use Rattle.task.specs.declared.Task.{Task}
use Rattle.task.specs.declared.Frame.{Frame}
use Rattle.task.specs.declared.Kind.{Kind}
use Rattle.task.specs.declared.Kind.TheVariants.{Stores, Goes, Pushes, Pops, Waits, Halts, Faults, Forks}
use Rattle.task.specs.declared.Executed.{Executed}
use Rattle.task.specs.Values.{record_of}
use Rattle.task.specs.Choices.{Choices}
use Rattle.task.specs.Effect.{Effect, stores, continues, pushes, pops, enters, forks, waits, halts, faults, unknown, opcodes, effect_of}
use Rattle.task.specs.Step.{register, operand, active_of, counted, moved_to, ended, side, with_task, emptied, faulted, has_place, has_value, pushed, popped, promotes, applied, step}
use Rattle.task.specs.Execute.{counted_active, entering_by, handed, executed, selected}

-- ---- What the machine makes of the frame as it was before the instruction

-- the task goes on, at the instruction and with the counter that are left
abbrev pub after : Executed → Task → Task
after e t = moved_to e.pc e.counter (counted t)

-- the sides of a fork: the child starts at pc, counter 0; its stack is emptied below
abbrev pub parent_side : Executed → Task → Task
parent_side e t = side (record_of e.value) e.pc e.counter (counted t)

abbrev pub child_side : ℕ → Executed → Task → Task
child_side pc e t = moved_to pc 0 (parent_side e t)

-- by its kind: the value goes to r; registers and stack stay; it is pushed where a place is left (42), or the last one popped where there is
-- one (43); a fault's are 16 integers 0 and an empty stack; the child has the parent's registers and an empty stack
abbrev pub made_by : Kind → Frame → ℕ → Executed → Stepped Frame
made_by Stores f r e =
    one (record { task = after e f.task; registers = set f.registers r (record { value = e.value }); stack = f.stack })
made_by Goes f r e = one (with_task (after e f.task) f)
made_by Pushes f r e =
    one (cond (has_place f.task) (pushed e.value (with_task (after e f.task) f)) (faulted 42 (with_task (counted f.task) f)))
made_by Pops f r e =
    one (cond (has_value f.task) (popped r (with_task (after e f.task) f)) (faulted 43 (with_task (counted f.task) f)))
made_by Waits f r e = one (with_task (ended Waiting (counted f.task)) f)
made_by Halts f r e = one (with_task (ended Halted (counted f.task)) f)
made_by Faults f r e = one (faulted e.fault (with_task (counted f.task) f))
made_by Forks f r e = two (with_task (parent_side e f.task) f) (emptied (with_task (child_side e.child e f.task) f))

abbrev pub made : Frame → Instruction → Executed → Stepped Frame
made f x e = made_by e.kind f x.r e

-- ---- It is what the effect makes of it

module _ (program : Program) (choices : Choices) (f : Frame) (x : Instruction) where
  -- the frame, and the numbers of its task, that have counted the instruction
  abbrev g : Frame
  g = with_task (counted f.task) f

  abbrev t : Active
  t = counted_active (active_of f.task)

  makes : (e : Effect) → applied program choices x.r g e ≡ made f x (handed program choices t e)
  makes (stores v) = refl
  makes continues = refl
  makes (pushes v) = refl
  makes pops = refl
  makes (enters b) = go (promotes program choices b t.counter t.places)
    where
      go : (z : Bool) → one (with_task (cond z (moved_to (program.block (program.block b).label).first 0 g.task) (moved_to (program.block b).first t.counter g.task)) g) ≡ made f x (entering_by program choices z b t)
      go true = refl
      go false = refl
  makes (forks k b) = refl
  makes waits = refl
  makes halts = refl
  makes (faults n) = refl

-- every frame
pub step-executed : (program : Program) (words : List ℤ) (choices : Choices) (f : Frame) → let x = program.instruction f.task.pc in
    step program words choices f
    ≡ made f x (executed program words choices x (register f x.s) (operand f x) (active_of f.task) f.task.forks)
unfolding step executed
step-executed program words choices f =
    let x = program.instruction f.task.pc in
    makes program choices f x
    (effect_of program words choices (register f x.s) (operand f x) (counted_active (active_of f.task)) f.task.forks (get_or opcodes x.opcode unknown))

-- the operand is read from the registers once: for another kind than 1 what was read does not count
pub selected_is : (f : Frame) (x : Instruction) (held : Value) → (x.kind ≡ 1 → held ≡ register f x.operand) → selected x held ≡ operand f x
unfolding selected operand
selected_is f x held h = go (eqb x.kind 1) refl
  where
    go : (t : Bool) → eqb x.kind 1 ≡ t → selected x held ≡ operand f x
    go true t = rw (selected, operand, t) (h (eqb-true x.kind 1 t))
    go false t = rw (selected, operand, t)
