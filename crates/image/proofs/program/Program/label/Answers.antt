-- `label` meets its contract: an accepted program has its records in its cells.
use Rattle.image.proofs.program.Program.label.Goals as goal
use Rattle.image.proofs.Accepted.{block_stored}

pub label_of-requires : goal.label_of-requires
label_of-requires c = block_stored c.args.self.now.cells.now _ c.args.self.now.accepted c.requires
