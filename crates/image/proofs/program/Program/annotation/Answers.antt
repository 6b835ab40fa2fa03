-- `annotation` meets its contract: an accepted program has its records in its cells.
use Rattle.image.proofs.program.Program.annotation.Goals as goal
use Rattle.image.proofs.Accepted.{block_stored}

pub annotation_of-requires : goal.annotation_of-requires
annotation_of-requires c = block_stored c.args.self.now.cells.now _ c.args.self.now.accepted c.requires
