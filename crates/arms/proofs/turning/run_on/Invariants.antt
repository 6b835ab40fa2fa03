-- What the loop of `run_on` keeps.
use Rattle.arms.specs.Registers.{registers_of, Sized}
use Rattle.arms.specs.Stacks.{stack_of, SameBelow}
use Rattle.arms.specs.Turns.{Runs}
use Rattle.arms.proofs.turning.run_on.Given as goal

abbrev pub invariant-loop-left : goal.invariant-loop-left
invariant-loop-left l =
    Sized l.registers.nums l.registers.kinds × SameBelow l.task.low l.initial.pile.nums l.initial.pile.kinds l.pile.nums l.pile.kinds ×
    Runs l.code.program.cells.now l.code.words.now l.code.interval l.task.places l.task.depth l.task.pc l.task.beat l.task.left
    (stack_of l.initial.pile.nums l.initial.pile.kinds l.task.low l.task.height) (registers_of l.initial.registers.nums l.initial.registers.kinds)
    l.pc l.beat l.left (stack_of l.pile.nums l.pile.kinds l.task.low l.height) (registers_of l.registers.nums l.registers.kinds)

abbrev pub decreases-loop-left : goal.decreases-loop-left
decreases-loop-left l =
    l.left
