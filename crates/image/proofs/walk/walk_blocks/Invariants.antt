-- What the loop of `walk_blocks` keeps.
use Rattle.image.proofs.Walks.{AtBlock}
use Rattle.image.proofs.walk.walk_blocks.Given as goal

abbrev pub invariant-loop-b : goal.invariant-loop-b
invariant-loop-b l = AtBlock l.image l.lays l.initial.cells l.marks l.cells l.at l.to l.before l.b
