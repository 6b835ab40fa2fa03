-- `fetch_register` meets its contract.
use Rattle.std.proofs.Common.{rules}
use Rattle.arms.specs.Registers.{Sized}
use Rattle.arms.proofs.RegisterLaws.{integer-at}
use Rattle.arms.proofs.SetLaws.{left_other}
use Rattle.arms.proofs.moves.fetch_register.Goals as goal

pub returns-then-registers-v-ne0 : goal.returns-then-registers-v-ne0
returns-then-registers-v-ne0 c =
    let nums = c.args.registers.now.nums in
    let kinds = c.args.registers.now.kinds in
    let sized : Sized nums kinds = search rules in
    λ p k d s. (sized, λ t o q. left_other nums kinds c.args.v sized c.requires.1 c.if-registers-v-ne0.true _)

pub returns : goal.returns
returns c =
    let nums = c.args.registers.now.nums in
    let kinds = c.args.registers.now.kinds in
    let sized : Sized nums kinds = search rules in
    let word = c.fetch_number.ensures in
    λ p k d s. (
      (word p k d s).0,
      λ t o q. rw (integer-at nums kinds c.args.v sized c.requires.1 c.if-registers-v-ne0.false) ((word p k d s).1 t o q),
    )
