-- Of a pop the machine has the value: what `execute` hands it is the integer 0, which it leaves on the stack.
use mathlib.Core.Path.{◌≡◌, refl}
use mathlib.Core.Bool.{Bool, true, false}
use mathlib.Core.List.{List}
use lib.IntN.{ℤ, pos}
use lib.ListN.{get_or}
use Rattle.facts.proofs.Tests.{clash}
use Rattle.image.specs.declared.Instruction.{Instruction}
use Rattle.image.specs.Program.{Program}
use Rattle.task.specs.declared.Value.{Value}
use Rattle.task.specs.declared.Value.TheVariants.{Int}
use Rattle.task.specs.declared.Fork.{Fork}
use Rattle.task.specs.declared.Active.{Active}
use Rattle.task.specs.Choices.{Choices}
use Rattle.task.specs.Effect.{Effect, stores, continues, pushes, pops, enters, forks, waits, halts, faults, unknown, opcodes, effect_of}
use Rattle.task.specs.Step.{promotes}
use Rattle.task.specs.Execute.{counted_active, entering_by, handed, executed}
use Rattle.turns.specs.Kinds.{pops_it}

pop-handed : (program : Program) (choices : Choices) (t : Active) (o : Effect) → pops_it (handed program choices t o).kind ≡ true
    → (handed program choices t o).value ≡ Int (pos 0)
pop-handed program choices t (stores v) h = clash h refl
pop-handed program choices t continues h = refl
pop-handed program choices t (pushes v) h = clash h refl
pop-handed program choices t pops h = refl
pop-handed program choices t (enters b) h = go (promotes program choices b t.counter t.places)
  where
    go : (z : Bool) → (entering_by program choices z b t).value ≡ Int (pos 0)
    go true = refl
    go false = refl
pop-handed program choices t (forks k b) h = clash h refl
pop-handed program choices t waits h = refl
pop-handed program choices t halts h = refl
pop-handed program choices t (faults n) h = refl

pub pop-value : (program : Program) (words : List ℤ) (choices : Choices) (x : Instruction) (s v : Value) (t : Active) (opened : List Fork)
    → pops_it (executed program words choices x s v t opened).kind ≡ true → (executed program words choices x s v t opened).value ≡ Int (pos 0)
unfolding executed
pop-value program words choices x s v t opened h =
    pop-handed program choices (counted_active t)
    (effect_of program words choices s v (counted_active t) opened (get_or opcodes x.opcode unknown)) h
