-- `move_value` meets its contract.
use Rattle.std.proofs.Common.{rules}
use Rattle.arms.specs.Registers.{Sized}
use mathlib.Core.Path.{refl}
use Rattle.arms.proofs.RegisterLaws.{still_sized}
use Rattle.arms.proofs.SetLaws.{sets}
use Rattle.arms.proofs.moves.move_value.Goals as goal

pub returns : goal.returns
returns c =
    let nums = c.args.registers.now.nums in
    let kinds = c.args.registers.now.kinds in
    let sized : Sized nums kinds = search rules in
    let put = c.put.ensures in
    λ x s. (
      still_sized nums kinds c.args.r _ _ sized put.nums_after put.kinds_after,
      λ t o q. sets nums kinds c.args.r c.args.num c.args.kind _ refl refl put.nums_after put.kinds_after,
    )
