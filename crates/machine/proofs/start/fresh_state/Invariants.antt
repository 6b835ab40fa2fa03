-- What the loop of `fresh_state` keeps.
use mathlib.Core.Path.{◌≡◌}
use lib.Seq.{sets}
use Rattle.task.specs.Frames.{zero_register, integers}
use Rattle.task.specs.Stretches.{reads}
use Rattle.machine.proofs.start.fresh_state.Given as goal

abbrev pub invariant-loop-i : goal.invariant-loop-i
invariant-loop-i l = l.bank ≡ sets l.initial.bank 0 (reads zero_register (integers l.registers) 0 l.i)
