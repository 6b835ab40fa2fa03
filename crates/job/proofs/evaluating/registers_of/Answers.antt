-- `registers_of` meets its contract.
use Rattle.job.proofs.evaluating.registers_of.Goals as goal
use native.Mathlib.Omega.{arith}
use Rattle.job.proofs.PlainRun.{registers_all}

pub returns : goal.returns
returns c =
    let l = c.loop-i in
    registers_all c.args.rows.now.nums c.args.rows.now.kinds _ c.requires.0 l.invariant.0 (λ i h. l.invariant.1 i (omega (arith, h, c.loop-i-test.false)))
