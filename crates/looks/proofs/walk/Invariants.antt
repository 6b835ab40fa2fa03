-- The walk that is left gives what the whole walk gives.
use Rattle.std.proofs.Common.{length, ◌-◌, ◌≡◌}
use Rattle.looks.specs.Looking.{walked}
use Rattle.looks.proofs.walk.Given as goal

abbrev pub invariant-loop-t : goal.invariant-loop-t
invariant-loop-t l = walked l.tasks l.l ≡ walked l.tasks l.fn.from

abbrev pub decreases-loop-t : goal.decreases-loop-t
decreases-loop-t l = length l.tasks - l.l.at
