-- What the loop of `merge` keeps.
use mathlib.Core.Path.{◌≡◌}
use Prim.Native.Nat.{◌-◌}
use Rattle.task.specs.Step.{copied}
use Rattle.arms.specs.Registers.{Sized}
use Rattle.evaluator.specs.Banks.{bank_of}
use Rattle.evaluator.proofs.banks.merge.Given as goal

abbrev pub invariant-loop : goal.invariant-loop
invariant-loop l =
    Sized l.registers.nums l.registers.kinds
    × (copied (bank_of l.theirs) l.count l.bytes (bank_of l.initial.registers) ≡ copied (bank_of l.theirs) (l.count - l.counter) l.packed (bank_of l.registers))
