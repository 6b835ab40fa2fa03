-- `lanes_used` meets its contract: the lanes that the walk leaves are those that no task took.
use mathlib.Core.Path.{ap}
use native.Mathlib.Omega.{arith}
use Rattle.looks.specs.declared.Look.{Look}
use Rattle.looks.proofs.TakenLaws.{walk_leaves, walk_takes}
use Rattle.looks.proofs.lanes_used.Goals as goal

pub overflow_sub-result : goal.overflow_sub-result
overflow_sub-result c = walk_leaves c.args.tasks.now _ _ c.walk-last.ensures

pub returns : goal.returns
returns c =
    let left = ap (λ (l : Look). l.lanes) c.walk-last.ensures in
    omega (arith, left, walk_takes c.args.tasks.now c.args.lanes)
