-- What the loop of `walk_instructions` keeps.
use Rattle.image.proofs.Walks.{AtInstruction}
use Rattle.image.proofs.walk.walk_instructions.Given as goal

abbrev pub invariant-loop-i : goal.invariant-loop-i
invariant-loop-i l = AtInstruction l.image l.lays l.initial.cells l.cells l.at l.to l.i
