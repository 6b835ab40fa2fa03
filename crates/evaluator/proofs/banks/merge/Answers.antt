-- `merge` meets its contract.
use Rattle.std.proofs.Common.{rules}
use Prim.Native.Nat.{◌+◌, ◌-◌}
use native.Mathlib.Omega.{arith}
use Rattle.task.specs.Step.{copied}
use Rattle.evaluator.specs.Banks.{bank_of}
use Rattle.arms.proofs.RegisterLaws.{still_sized}
use Rattle.evaluator.proofs.BankLaws.{merges_one, merges_none}
use Rattle.evaluator.proofs.banks.merge.Goals as goal

pub loop-preserved : goal.loop-preserved
loop-preserved c =
    let l = c.loop in
    let e = c.put.ensures in
    let theirs = c.args.theirs.now in (
      still_sized l.registers.nums l.registers.kinds _ _ _ l.invariant.0 e.nums_after e.kinds_after,
      merges_one l.registers theirs (c.args.count - l.counter) (c.args.count - (l.counter + 1)) l.packed (copied (bank_of theirs) c.args.count c.args.bytes (bank_of c.args.registers.now)) (search rules)
          (omega (arith, c.loop-test.true)) l.invariant.1 e.nums_after e.kinds_after,
    )

pub returns-clause-registers_after : goal.returns-clause-registers_after
returns-clause-registers_after c =
    let l = c.loop in
    let theirs = c.args.theirs.now in
    merges_none l.registers theirs (c.args.count - l.counter) l.packed (copied (bank_of theirs) c.args.count c.args.bytes (bank_of c.args.registers.now))
    (omega (arith, c.loop-test.false)) l.invariant.1
