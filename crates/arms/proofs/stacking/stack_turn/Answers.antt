-- `stack_turn` meets its contract.
use mathlib.Core.Path.{sym}
use native.Mathlib.Omega.{arith}
use Rattle.arms.proofs.RegisterLaws.{value-at}
use Rattle.arms.proofs.StackLaws.{turned_push}
use Rattle.arms.proofs.stacking.stack_turn.Goals as goal

pub returns-in-48 : goal.returns-in-48
returns-in-48 c =
    let e = c.in-48.is in
    turned_push _ 1 (omega arith) e (sym (value-at c.args.registers.now.nums c.args.registers.now.kinds _ c.requires.sized (c.requires.register_operand e))) c.push_on.ensures
