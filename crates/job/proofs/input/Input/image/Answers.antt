-- `image` meets its contract.
use Rattle.std.proofs.Common.{arith}
use Rattle.job.proofs.input.Input.image.Goals as goal
use Rattle.job.proofs.Ends.{ends}

pub slice_bounds-result-end : goal.slice_bounds-result-end
slice_bounds-result-end c = let e = ends c.args.self.now.bytes.now c.args.self.now.ends in omega (arith, c.image_size-end.ensures.0)
