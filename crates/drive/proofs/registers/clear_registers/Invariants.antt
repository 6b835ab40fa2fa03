-- What the loop keeps.
use Rattle.std.proofs.Common.{◌≡◌}
use Rattle.task.specs.Frames.{zeros}
use Rattle.drive.specs.Moves.{filling}
use Rattle.drive.proofs.registers.clear_registers.Given as goal

abbrev pub invariant-loop-i : goal.invariant-loop-i
invariant-loop-i l = l.state ≡ filling l.initial.state l.k zeros l.i
