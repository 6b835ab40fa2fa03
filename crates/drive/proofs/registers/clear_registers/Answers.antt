-- `clear_registers` meets its contract.
use Rattle.task.specs.Frames.{zeros}
use Rattle.drive.proofs.Moving.{filling-none, zero_next}
use Rattle.drive.proofs.registers.clear_registers.Goals as goal

pub loop-i-init : goal.loop-i-init
loop-i-init c = filling-none c.args.state.now c.args.k zeros

pub loop-i-preserved : goal.loop-i-preserved
loop-i-preserved c = zero_next _ c.args.k c.loop-i.i c.loop-i.invariant c.loop-i-test.true c.zero_register.ensures
