-- `Quotient::bits` meets its contract.
use Rattle.std.proofs.Common.{rules}
use mathlib.Core.Path.{◌≡◌, sym, ap}
use mir.Syntax.{w64}
use mir.Val.{to_z}
use lib.Signed.{quot_z}
use Rattle.int64.specs.Wrapped.{wrapped}
use Rattle.task.specs.declared.Value.TheVariants.{Int}
use Rattle.task.specs.Effect.{stores, asked}
use Rattle.arms.proofs.ValueLaws.{zero_bits, other_bits}
use Rattle.arms.proofs.arithmetic.QuotientOperation.bits.Goals as goal

pub returns-then-b-eq0 : goal.returns-then-b-eq0
unfolding asked
returns-then-b-eq0 c = λ k (n, e). rw (e, zero_bits c.args.b c.if-b-eq0.true)

pub returns : goal.returns
unfolding asked
returns c =
    let b : Int (to_z w64 c.bits.result) ≡ Int (wrapped (quot_z (to_z w64 c.args.a) (to_z w64 c.args.b))) = search rules in
    λ k (n, e). rw (e, other_bits c.args.b c.if-b-eq0.false) (ap stores (sym b))
