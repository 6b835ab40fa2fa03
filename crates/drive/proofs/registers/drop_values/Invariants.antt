-- What the loop keeps.
use Rattle.std.proofs.Common.{◌≡◌}
use Rattle.drive.specs.Moves.{dropping}
use Rattle.drive.proofs.registers.drop_values.Given as goal

abbrev pub invariant-loop-left : goal.invariant-loop-left
invariant-loop-left l = l.state ≡ dropping l.initial.state l.k l.n l.left
