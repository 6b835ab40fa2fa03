-- `int64::wrapping_mul` meets its contract: the library's word for what it leaves of the product is `wrapped`.
use Rattle.std.proofs.Common.{◌∙◌, ◌*ℤ◌, w64}
use Rattle.std.proofs.lemmas.Int.{wrapping_mul_is}
use Rattle.int64.proofs.wrapping_mul.Goals as goal
use Rattle.int64.proofs.Wrapping.{wrapped_is}

pub returns : goal.returns
returns c =
    wrapping_mul_is w64 c.args.a c.args.b c.ranges.a c.ranges.b ∙ wrapped_is (c.args.a *ℤ c.args.b)
