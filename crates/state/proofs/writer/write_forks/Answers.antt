-- `write_forks` meets its contract.
use Rattle.std.proofs.Common.{get_or}
use Rattle.task.specs.Frames.{zero_fork}
use Rattle.state.specs.State.{fork_numbers}
use Rattle.state.proofs.Laying.{length-in_bytes, laid_none, laid_more, laid_all}
use Rattle.state.proofs.writer.write_forks.Goals as goal

pub loop-i-init : goal.loop-i-init
loop-i-init c = laid_none _ 6 _ _

pub loop-i-preserved : goal.loop-i-preserved
loop-i-preserved c =
    let l = c.loop-i in
    laid_more _ 6 _ _ 16 (λ i. length-in_bytes (fork_numbers (get_or c.args.forks.now i zero_fork))) l.i l.out _ l.invariant c.loop-i-test.true c.write_numbers.ensures

pub returns : goal.returns
returns c = let l = c.loop-i in laid_all _ 6 _ _ l.i l.out l.invariant c.loop-i-test.false
