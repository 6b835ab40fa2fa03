-- `write_numbers` meets its contract.
use Rattle.std.proofs.Common.{arith, ap, ◌∙◌}
use lib.Seq.{sets, take_all}
use Rattle.state.specs.Numbers.{in_bytes}
use Rattle.state.proofs.Laying.{none_written, number_more}
use Rattle.state.proofs.numbers.write_numbers.Goals as goal

pub loop-i-init : goal.loop-i-init
loop-i-init g c = none_written c.args.out.now c.args.at

pub loop-i-preserved : goal.loop-i-preserved
loop-i-preserved g c =
    let l = c.loop-i in
    number_more c.args.out.now l.out _ c.args.at l.i c.args.numbers (omega arith) l.invariant c.write_u64.ensures

pub returns : goal.returns
returns g c =
    let l = c.loop-i in
    l.invariant ∙ ap (λ xs. sets c.args.out.now c.args.at (in_bytes xs)) (take_all l.i c.args.numbers (omega arith))
