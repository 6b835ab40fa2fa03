-- `read_forks` meets its contract.
use Rattle.std.proofs.Common.{◌+◌, ◌*◌, refl, arith}
use Rattle.task.proofs.EveryLaws.{every-at}
use Rattle.state.specs.Reading.{stands_fork}
use Rattle.state.proofs.Filling.{filled_none, filled_more, filled_all}
use Rattle.state.proofs.reader.read_forks.Goals as goal

pub loop-i-init : goal.loop-i-init
loop-i-init c = filled_none _ 6 _ refl

pub read_fork-requires : goal.read_fork-requires
read_fork-requires c =
    let a = c.args in
    let l = c.loop-i in
    (omega arith, every-at (λ i. stands_fork a.bytes.now (a.at + 16 * i)) 6 0 c.requires.1 l.i (omega arith) (omega arith))

pub loop-i-preserved : goal.loop-i-preserved
loop-i-preserved c =
    let l = c.loop-i in
    filled_more _ 6 l.f-items l.i _ l.invariant c.loop-i-test.true c.read_fork.ensures

pub returns : goal.returns
returns c = let l = c.loop-i in filled_all _ 6 l.f-items l.i l.invariant c.loop-i-test.false
