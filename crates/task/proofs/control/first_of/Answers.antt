-- `first_of` meets its contract.
use Rattle.task.proofs.control.first_of.Goals as goal
use native.Mathlib.Omega.{arith}
use Rattle.image.proofs.Accepted.{accepted}

pub overflow_cast-result : goal.overflow_cast-result
overflow_cast-result c =
    let k = accepted c.args.program.now.cells.now c.args.program.now.accepted in
    omega (arith, c.first.ensures, (k.block _ c.requires).first_below, k.few_instructions)
