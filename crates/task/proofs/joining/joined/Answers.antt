-- `joined` meets its contract.
use Rattle.image.specs.Layout.{program_of}
use Rattle.task.proofs.joining.joined.Goals as goal
use Rattle.image.proofs.Accepted.{accepted}
use Rattle.task.proofs.Copying.{joins-faulted, joins-running}

pub returns-in-Faulted : goal.returns-in-Faulted
returns-in-Faulted c = joins-faulted (program_of c.args.cells.now) c.args.p c.args.c c.joined_status-status.ensures c.in-Faulted.is c.close-task.ensures

pub first_of-pc-requires : goal.first_of-pc-requires
first_of-pc-requires c =
    rw c.block-block.ensures ((accepted c.args.cells.now c.requires.accepted_program).block _ c.requires.continuation_below).label_below

pub returns : goal.returns
returns c = joins-running (program_of c.args.cells.now) c.args.p c.args.c c.joined_status-status.ensures c.in_default.not-Faulted c.block-block.ensures c.first_of-pc.ensures c.close-task-2.ensures
