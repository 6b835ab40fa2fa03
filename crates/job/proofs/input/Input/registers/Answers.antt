-- `registers` meets its contract.
use Rattle.std.proofs.Common.{arith}
use Rattle.job.proofs.input.Input.registers.Goals as goal
use Rattle.job.proofs.Ends.{ends}

pub read_integers-requires : goal.read_integers-requires
read_integers-requires c = let e = ends c.args.self.now.bytes.now c.args.self.now.ends in omega (arith, c.image_size-at.ensures.0)
