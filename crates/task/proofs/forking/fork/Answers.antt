-- `fork` meets its contract.
use Rattle.std.proofs.Common.{◌∙◌}
use Rattle.task.proofs.Belonging.{no_fork}
use Rattle.task.proofs.forking.fork.Goals as goal

pub returns-in_default : goal.returns-in_default
returns-in_default c = λ w k. c.fault.ensures ∙ no_fork w k c.args.program.now.cells.now c.args.s c.args.v c.args.t c.args.forks c.in_default.ensures.none
