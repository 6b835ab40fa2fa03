-- `read_integers` meets its contract.
use Rattle.std.proofs.Common.{◌≡◌, ℕ, length, arith, ap, ◌∙◌}
use lib.Seq.{sets}
use Rattle.state.specs.Numbers.{integers_in}
use Rattle.state.proofs.Laying.{sets-whole}
use Rattle.state.proofs.Integers.{number-stored, length-integers, read_none, read_more}
use Rattle.state.proofs.numbers.read_integers.Goals as goal

pub loop-i-init : goal.loop-i-init
loop-i-init c = read_none c.args.bytes.now c.args.at c.args.out.now

pub loop-i-preserved : goal.loop-i-preserved
loop-i-preserved c =
    let a = c.args in
    let l = c.loop-i in
    read_more a.bytes.now a.at a.out.now l.out l.i _ l.invariant
    (number-stored c.number.result c.read_u64.result _ c.number.type_inv c.number.ensures c.read_u64.ensures.equal)

pub returns : goal.returns
returns c =
    let a = c.args in
    let e : c.loop-i.i ≡ length a.out.now = omega arith in
    c.loop-i.invariant ∙ ap (λ (n : ℕ). sets a.out.now 0 (integers_in a.bytes.now a.at n)) e
    ∙ sets-whole a.out.now _ (length-integers a.bytes.now a.at (length a.out.now))
