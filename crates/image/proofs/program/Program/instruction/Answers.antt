-- `instruction` meets its contract: an accepted program has its records in its cells.
use Rattle.image.proofs.program.Program.instruction.Goals as goal
use Rattle.image.proofs.Accepted.{instruction_stored}

pub instruction_of-requires : goal.instruction_of-requires
instruction_of-requires c = instruction_stored c.args.self.now.cells.now _ c.args.self.now.accepted c.requires
