-- `execute` meets its contract.
use Rattle.std.proofs.Common.{arith}
use Rattle.image.specs.Layout.{program_of}
use Rattle.task.specs.Choices.{chosen}
use Rattle.task.proofs.Dispatch.{counted_pc, counted_depth, sends, sends-nowhere}
use Rattle.task.proofs.execution.execute.Goals as goal

pub store-requires : goal.store-requires
store-requires c = counted_pc _ c.count-t.ensures c.requires

pub add-requires : goal.add-requires
add-requires c = counted_pc _ c.count-t.ensures c.requires

pub subtract-requires : goal.subtract-requires
subtract-requires c = counted_pc _ c.count-t.ensures c.requires

pub multiply-requires : goal.multiply-requires
multiply-requires c = counted_pc _ c.count-t.ensures c.requires

pub divide-requires : goal.divide-requires
divide-requires c = counted_pc _ c.count-t.ensures c.requires

pub modulo-requires : goal.modulo-requires
modulo-requires c = counted_pc _ c.count-t.ensures c.requires

pub less-requires : goal.less-requires
less-requires c = counted_pc _ c.count-t.ensures c.requires

pub equal-requires : goal.equal-requires
equal-requires c = counted_pc _ c.count-t.ensures c.requires

pub fetch-requires : goal.fetch-requires
fetch-requires c = counted_pc _ c.count-t.ensures c.requires

pub push-requires : goal.push-requires
push-requires c = counted_pc _ c.count-t.ensures c.requires

pub pop-requires : goal.pop-requires
pop-requires c = counted_pc _ c.count-t.ensures c.requires

pub branch-program-requires : goal.branch-program-requires
branch-program-requires c = (c.requires.v_fits, counted_pc _ c.count-t.ensures c.requires)

pub allocate-requires : goal.allocate-requires
allocate-requires c = (c.requires.v_fits, counted_pc _ c.count-t.ensures c.requires)

pub fork-requires : goal.fork-requires
fork-requires c = (c.requires.v_fits, counted_pc _ c.count-t.ensures c.requires, counted_depth _ c.count-t.ensures c.requires)

pub returns-in-1 : goal.returns-in-1
returns-in-1 c = sends _ _ _ _ _ _ _ _ c.count-t.ensures 1 c.in-1.is _ c.store.ensures

pub returns-in-2 : goal.returns-in-2
returns-in-2 c =
    let a = c.args in
    sends _ _ _ _ _ _ _ _ c.count-t.ensures 2 c.in-2.is _ (c.add.ensures _ a.words.now _ a.forks)

pub returns-in-3 : goal.returns-in-3
returns-in-3 c =
    let a = c.args in
    sends _ _ _ _ _ _ _ _ c.count-t.ensures 3 c.in-3.is _ (c.subtract.ensures _ a.words.now _ a.forks)

pub returns-in-4 : goal.returns-in-4
returns-in-4 c =
    let a = c.args in
    sends _ _ _ _ _ _ _ _ c.count-t.ensures 4 c.in-4.is _ (c.multiply.ensures _ a.words.now _ a.forks)

pub returns-in-5 : goal.returns-in-5
returns-in-5 c =
    let a = c.args in
    sends _ _ _ _ _ _ _ _ c.count-t.ensures 5 c.in-5.is _ (c.divide.ensures _ a.words.now _ a.forks)

pub returns-in-6 : goal.returns-in-6
returns-in-6 c =
    let a = c.args in
    sends _ _ _ _ _ _ _ _ c.count-t.ensures 6 c.in-6.is _ (c.modulo.ensures _ a.words.now _ a.forks)

pub returns-in-7 : goal.returns-in-7
returns-in-7 c =
    let a = c.args in
    sends _ _ _ _ _ _ _ _ c.count-t.ensures 7 c.in-7.is _ (c.less.ensures _ a.words.now _ a.forks)

pub returns-in-8 : goal.returns-in-8
returns-in-8 c =
    let a = c.args in
    sends _ _ _ _ _ _ _ _ c.count-t.ensures 8 c.in-8.is _ (c.equal.ensures _ a.words.now _ a.forks)

pub returns-in-9 : goal.returns-in-9
returns-in-9 c =
    let a = c.args in
    sends _ _ _ _ _ _ _ _ c.count-t.ensures 9 c.in-9.is _ (c.fetch.ensures _ _ a.s a.forks)

pub returns-in-10 : goal.returns-in-10
returns-in-10 c =
    let a = c.args in
    sends _ _ _ _ _ _ _ _ c.count-t.ensures 10 c.in-10.is _ (c.branch-program.ensures a.words.now a.forks)

pub returns-in-11 : goal.returns-in-11
returns-in-11 c =
    let a = c.args in
    sends _ _ _ _ _ _ _ _ c.count-t.ensures 11 c.in-11.is _ (c.allocate.ensures a.words.now _ a.s a.forks)

pub returns-in-12 : goal.returns-in-12
returns-in-12 c =
    let a = c.args in
    sends _ _ _ _ _ _ _ _ c.count-t.ensures 12 c.in-12.is _ (c.fork.ensures a.words.now _)

pub returns-in-13 : goal.returns-in-13
returns-in-13 c =
    let a = c.args in
    sends _ _ _ _ _ _ _ _ c.count-t.ensures 13 c.in-13.is _ (c.jump.ensures a.words.now a.s a.forks)

pub returns-in-14 : goal.returns-in-14
returns-in-14 c =
    let a = c.args in
    sends _ _ _ _ _ _ _ _ c.count-t.ensures 14 c.in-14.is _ (c.halt.ensures _ a.words.now _ a.s a.v a.forks)

pub returns-in-15 : goal.returns-in-15
returns-in-15 c =
    let a = c.args in
    sends _ _ _ _ _ _ _ _ c.count-t.ensures 15 c.in-15.is _ (c.meet.ensures a.words.now a.s)

pub returns-in-16 : goal.returns-in-16
returns-in-16 c =
    let a = c.args in
    sends _ _ _ _ _ _ _ _ c.count-t.ensures 16 c.in-16.is _ (c.push.ensures (program_of a.cells.now) a.words.now (chosen a.interval) a.s a.forks)

pub returns-in-17 : goal.returns-in-17
returns-in-17 c =
    let a = c.args in
    sends _ _ _ _ _ _ _ _ c.count-t.ensures 17 c.in-17.is _ (c.pop.ensures (program_of a.cells.now) a.words.now (chosen a.interval) a.s a.v a.forks)

pub returns-in_default : goal.returns-in_default
returns-in_default c = sends-nowhere _ _ _ _ _ _ _ _ c.count-t.ensures (λ least. omega arith) _ c.fault.ensures
