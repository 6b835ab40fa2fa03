-- `meet` meets its contract.
use Rattle.std.proofs.Common.{◌∙◌}
use Rattle.task.proofs.Entering.{continuation-fits}
use Rattle.task.proofs.Belonging.{no_meet}
use Rattle.task.proofs.forking.meet.Goals as goal

pub returns-in_default : goal.returns-in_default
returns-in_default c = λ w s.
    c.fault.ensures ∙ no_meet w s c.args.program.now.cells.now c.args.interval c.args.v c.args.t c.args.forks c.in_default.ensures.none

pub enter-requires : goal.enter-requires
enter-requires c = continuation-fits c.args.program.now.cells.now c.in-Some.ensures.some.0 c.requires.0
