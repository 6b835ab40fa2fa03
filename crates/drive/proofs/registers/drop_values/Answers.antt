-- `drop_values` meets its contract.
use Rattle.drive.proofs.Copying.{drop-next}
use Rattle.drive.proofs.registers.drop_values.Goals as goal

pub loop-left-preserved : goal.loop-left-preserved
loop-left-preserved c =
    let l = c.loop-left in
    drop-next _ c.args.k c.args.n l.left c.loop-left-test.true l.auto.left l.invariant c.zero_register.ensures
