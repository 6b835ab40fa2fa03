-- `write_registers` meets its contract.
use Rattle.std.proofs.Common.{get_or}
use Rattle.task.specs.Frames.{zero_register}
use Rattle.state.proofs.Laying.{laid_none, laid_more, laid_all, value-width}
use Rattle.state.proofs.numbers.write_registers.Goals as goal

pub loop-i-init : goal.loop-i-init
loop-i-init c = laid_none _ _ _ _

pub loop-i-preserved : goal.loop-i-preserved
loop-i-preserved c =
    let l = c.loop-i in
    laid_more _ _ _ _ 24 (λ i. value-width (get_or c.args.registers.now i zero_register).value) l.i l.out _ l.invariant c.loop-i-test.true c.write_register.ensures

pub returns : goal.returns
returns c = let l = c.loop-i in laid_all _ _ _ _ l.i l.out l.invariant c.loop-i-test.false
