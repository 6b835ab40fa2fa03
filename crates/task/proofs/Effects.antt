-- What holds of an effect after a question, of a frame after one about its stack, and of a task that has entered a block.
use mathlib.Core.Path.{◌≡◌, refl}
use mathlib.Core.Bool.{Bool, true, false, cond}
use Prim.Native.Nat.{ℕ}
use lib.IntN.{ℤ}
use Rattle.image.specs.Program.{Program}
use Rattle.task.specs.declared.Value.{Value}
use Rattle.task.specs.declared.Value.TheVariants.{Int, Label, Record}
use Rattle.task.specs.declared.Fork.{Fork}
use Rattle.task.specs.declared.Task.{Task}
use Rattle.task.specs.declared.Frame.{Frame}
use Rattle.task.specs.Choices.{Choices}
use Rattle.task.specs.Effect.{Effect, faults, asked, integer, label, join_record}
use Rattle.task.specs.Step.{promotes, moved_to, entered}

-- what holds of the fault, and of what comes after the question where its answer is yes
pub asked-keeps : (P : Effect → Type 0) (t : Bool) (n : ℕ) (after : Effect) → P (faults n) → (t ≡ true → P after) → P (asked t n after)
unfolding asked
asked-keeps P true n after f g = g refl
asked-keeps P false n after f g = f

-- what holds of the fault, and of what comes after where the value is of the kind
pub integer-keeps : (P : Effect → Type 0) (v : Value) (n : ℕ) (after : ℤ → Effect) → P (faults n) → ((z : ℤ) → v ≡ Int z → P (after z))
    → P (integer v n after)
integer-keeps P (Int z) n after f g = g z refl
integer-keeps P (Label b) n after f g = f
integer-keeps P (Record c d) n after f g = f

pub label-keeps : (P : Effect → Type 0) (v : Value) (n : ℕ) (after : ℕ → Effect) → P (faults n) → ((b : ℕ) → v ≡ Label b → P (after b))
    → P (label v n after)
label-keeps P (Int z) n after f g = f
label-keeps P (Label b) n after f g = g b refl
label-keeps P (Record c d) n after f g = f

pub record_keeps : (P : Effect → Type 0) (v : Value) (n : ℕ) (after : Fork → Effect) → P (faults n)
    → ((k : Fork) → v ≡ Record k.continuation k.depth → P (after k)) → P (join_record v n after)
record_keeps P (Int z) n after f g = f
record_keeps P (Label b) n after f g = f
record_keeps P (Record c d) n after f g = g (record { continuation = c; depth = d }) refl

-- what holds of the faulted frame, and of the one that is left where the answer is yes
pub stack-keeps : (P : Frame → Type 0) (t : Bool) (left stopped : Frame) → P stopped → (t ≡ true → P left) → P (cond t left stopped)
stack-keeps P true left stopped f g = g refl
stack-keeps P false left stopped f g = f

-- what holds of a task at the handler with counter 0, and at the block with its counter
pub entered-keeps : (P : Task → Type 0) (program : Program) (choices : Choices) (b : ℕ) (t : Task)
    → P (moved_to (program.block (program.block b).label).first 0 t) → P (moved_to (program.block b).first t.counter t)
    → P (entered program choices b t)
entered-keeps P program choices b t f g = go (promotes program choices b t.counter t.places)
  where
    go : (z : Bool) → P (cond z (moved_to (program.block (program.block b).label).first 0 t) (moved_to (program.block b).first t.counter t))
    go true = f
    go false = g
