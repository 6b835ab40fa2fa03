-- `move_register` meets its contract.
use Rattle.std.proofs.Common.{rules}
use Rattle.arms.specs.Registers.{Sized}
use mathlib.Core.Path.{refl, sym}
use lib.ListN.{get_or}
use Rattle.arms.proofs.RegisterLaws.{value-at, still_sized}
use Rattle.arms.proofs.SetLaws.{sets}
use Rattle.arms.proofs.moves.move_register.Goals as goal

pub returns : goal.returns
returns c =
    let nums = c.args.registers.now.nums in
    let kinds = c.args.registers.now.kinds in
    let sized : Sized nums kinds = search rules in
    let v = c.args.v in
    let put = c.put.ensures in
    λ x s. (
      still_sized nums kinds c.args.r _ _ sized put.nums_after put.kinds_after,
      λ t o q. sets nums kinds c.args.r (get_or nums v 0) (get_or kinds v 0) _ (sym (value-at nums kinds v sized c.requires.1)) refl put.nums_after put.kinds_after,
    )
