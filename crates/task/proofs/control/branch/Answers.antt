-- `branch` meets its contract.
use Rattle.std.proofs.Common.{rules, ◌∙◌}
use Rattle.task.proofs.Entering.{takes_branch}
use Rattle.task.proofs.control.branch.Goals as goal

pub returns-then-a-eq0 : goal.returns-then-a-eq0
returns-then-a-eq0 c = λ w o.
    c.jump.ensures w c.args.s o
    ∙ takes_branch c.args.program.now.cells.now w c.args.interval c.args.v c.args.t o c.args.s c.in-Int.is (search rules) c.if-a-eq0.true
