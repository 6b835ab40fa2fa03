-- `read_cells` meets its contract.
use Rattle.steps.proofs.buffers.read_cells.Goals as goal
use mathlib.Core.Path.{refl}
use native.Mathlib.Omega.{arith}
use Rattle.state.proofs.Filling.{filled_none, filled_more}

pub loop-i-init : goal.loop-i-init
loop-i-init c = filled_none _ _ _ refl

pub loop-i-preserved : goal.loop-i-preserved
loop-i-preserved c =
    let l = c.loop-i in
    filled_more _ _ l.out l.i _ l.invariant (omega (arith, l.invariant.in_all, c.loop-i-test.true)) c.read_u64.ensures.equal
