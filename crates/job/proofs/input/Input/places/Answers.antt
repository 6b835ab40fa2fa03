-- `places` meets its contract.
use Rattle.std.proofs.Common.{arith}
use Rattle.job.proofs.input.Input.places.Goals as goal
use Rattle.job.proofs.Ends.{ends}

pub bounds-self-n : goal.bounds-self-n
bounds-self-n c = let e = ends c.args.self.now.bytes.now c.args.self.now.ends in omega (arith, c.image_size-n.ensures.0)
