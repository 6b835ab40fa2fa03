-- `stands_forks` meets its contract.
use Rattle.std.proofs.Common.{sym, ◌∙◌}
use Rattle.task.proofs.EveryLaws.{every-goes-on, every-stops, every-ends}
use Rattle.state.proofs.reader.stands_forks.Goals as goal

pub returns-then-not-stands_fork : goal.returns-then-not-stands_fork
returns-then-not-stands_fork c =
    let l = c.loop-i in
    sym (l.invariant ∙ every-stops _ 6 l.i c.loop-i-test.true (sym c.stands_fork.ensures ∙ c.if-not-stands_fork.true))

pub loop-i-preserved : goal.loop-i-preserved
loop-i-preserved c =
    let l = c.loop-i in
    l.invariant ∙ every-goes-on _ 6 l.i c.loop-i-test.true (sym c.stands_fork.ensures ∙ c.if-not-stands_fork.false)

pub returns : goal.returns
returns c = let l = c.loop-i in sym (l.invariant ∙ every-ends _ 6 l.i c.loop-i-test.false)
