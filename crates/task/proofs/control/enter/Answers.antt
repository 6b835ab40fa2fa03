-- `enter` meets its contract.
use Rattle.task.proofs.control.enter.Goals as goal
use Rattle.image.proofs.Accepted.{accepted}

pub first_of-requires : goal.first_of-requires
first_of-requires c =
    let p = c.args.program.now in
    rw c.label-handler.ensures ((accepted p.cells.now p.accepted).block c.args.b c.requires).label_below
