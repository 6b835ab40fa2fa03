-- `image_size` meets its contract.
use Rattle.std.proofs.Common.{arith}
use Rattle.job.proofs.input.Input.image_size.Goals as goal
use Rattle.job.proofs.Ends.{ends}

pub read_u16-requires : goal.read_u16-requires
read_u16-requires c = let e = ends c.args.self.now.bytes.now c.args.self.now.ends in omega arith
