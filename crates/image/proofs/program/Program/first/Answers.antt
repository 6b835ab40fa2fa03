-- `first` meets its contract: an accepted program has its records in its cells.
use Rattle.image.proofs.program.Program.first.Goals as goal
use Rattle.image.proofs.Accepted.{block_stored}

pub first_of-requires : goal.first_of-requires
first_of-requires c = block_stored c.args.self.now.cells.now _ c.args.self.now.accepted c.requires
