-- What the loop of `run_all` keeps.
use Rattle.evaluator.specs.Hands.{LeadsTo, weight}
use Rattle.evaluator.proofs.flat.run_all.Given as goal

abbrev pub invariant-loop-rows : goal.invariant-loop-rows
invariant-loop-rows l = LeadsTo l.code.program.cells.now l.code.words.now l.code.interval l.initial.hand l.initial.rows l.hand l.rows

abbrev pub decreases-loop-rows : goal.decreases-loop-rows
decreases-loop-rows l = weight l.hand
