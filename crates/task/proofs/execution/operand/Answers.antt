-- `operand` meets its contract.
use Rattle.std.proofs.Common.{arith}
use Rattle.task.specs.Execute.{selected}
use Rattle.task.proofs.Computing.{given}
use Rattle.task.proofs.execution.operand.Goals as goal
use borrow.Author.Tests.{eq-eqb, ne_eqb}

pub returns-in-1 : goal.returns-in-1
unfolding selected
returns-in-1 c = rw (selected, c.in-1.is)

pub returns-in-2 : goal.returns-in-2
unfolding selected
returns-in-2 c =
    let k = c.args.x.kind in
    rw (selected, ne_eqb k 1 (λ e. omega arith), eq-eqb k 2 c.in-2.is)

pub returns-in_default : goal.returns-in_default
unfolding selected
returns-in_default c =
    let k = c.args.x.kind in
    rw (selected, ne_eqb k 1 (λ e. omega arith), ne_eqb k 2 (λ e. omega arith)) (given c.number.type_inv c.number.ensures)
