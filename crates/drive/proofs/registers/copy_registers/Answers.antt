-- `copy_registers` meets its contract.
use mathlib.Core.Path.{refl}
use Rattle.drive.proofs.Moving.{filling-none, copy_next}
use Rattle.drive.proofs.registers.copy_registers.Goals as goal

pub loop-i-init : goal.loop-i-init
loop-i-init c = filling-none c.args.state.now c.args.to _

pub loop-i-preserved : goal.loop-i-preserved
loop-i-preserved c = copy_next _ c.args.to c.args.from c.loop-i.i c.requires.2 c.loop-i.invariant c.loop-i-test.true refl
