-- `operand_pair` meets its contract.
use Rattle.std.proofs.Common.{rules}
use Rattle.evaluator.proofs.EndingLaws.{pair-register}
use Rattle.evaluator.proofs.ending.operand_pair.Goals as goal

pub returns-then-x-eq1 : goal.returns-then-x-eq1
returns-then-x-eq1 c =
    pair-register c.args.registers.now.nums c.args.registers.now.kinds c.args.x.kind c.args.x.operand (search rules) c.if-x-eq1.true (c.requires c.if-x-eq1.true)
