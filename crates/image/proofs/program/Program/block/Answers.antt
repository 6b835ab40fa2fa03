-- `block` meets its contract: an accepted program has its records in its cells.
use Rattle.image.proofs.program.Program.block.Goals as goal
use Rattle.image.proofs.Accepted.{block_stored}

pub block_of-requires : goal.block_of-requires
block_of-requires c = block_stored c.args.self.now.cells.now _ c.args.self.now.accepted c.requires
