-- What the loop keeps.
use Rattle.std.proofs.Common.{◌≡◌}
use Rattle.drive.specs.Slots.{at}
use Rattle.drive.specs.Moves.{filling}
use Rattle.drive.proofs.registers.copy_registers.Given as goal

abbrev pub invariant-loop-i : goal.invariant-loop-i
invariant-loop-i l = l.state ≡ filling l.initial.state l.to (at l.initial.state l.from).registers l.i
