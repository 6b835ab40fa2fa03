-- `run_on` meets its contract.
use Rattle.std.proofs.Common.{◌+◌, ◌-◌}
use Rattle.arms.specs.Registers.{registers_of}
use native.Mathlib.Omega.{arith}
use Rattle.arms.specs.Stacks.{stack_of}
use Rattle.arms.proofs.TurnLaws.{fetched}
use Rattle.arms.proofs.StackLaws.{below_on, stacks, can_stack}
use Rattle.arms.proofs.RunLaws.{runs_on_lem, height-now, turn_at}
use Rattle.arms.proofs.turning.run_on.Goals as goal

pub turn-g-requires : goal.turn-g-requires
turn-g-requires c =
    let l = c.loop-left in
    turn_at c.args.registers.now.nums c.args.registers.now.kinds c.args.pile.now.nums c.args.pile.now.kinds l.registers.nums l.registers.kinds l.pile.nums l.pile.kinds c.requires l.invariant.2 l.invariant.0 c.loop-left-test.true

pub loop-left-preserved-in-On : goal.loop-left-preserved-in-On
loop-left-preserved-in-On c =
    let l = c.loop-left in
    let t = c.turn-g in
    let e = t.ensures.turned in
    let steps = rw c.in-On.is at e.steps in
    let inside = rw c.in-On.is at e.inside in
    let u = stack_of l.pile.nums l.pile.kinds c.args.task.low l.height in (
      t.ensures.sized,
      l.invariant.1,
      runs_on_lem c.args.code.now.program.cells.now c.args.code.now.words.now c.args.code.now.interval c.args.code.now.program.accepted c.args.task.places c.args.task.depth c.args.task.pc c.args.task.beat c.args.task.left
          (stack_of c.args.pile.now.nums c.args.pile.now.kinds c.args.task.low c.args.task.height) (registers_of c.args.registers.now.nums c.args.registers.now.kinds) l.pc l.beat l.left u
          (registers_of l.registers.nums l.registers.kinds) t.result.pc t.result.beat u _ c.loop-left-test.true l.invariant.2 (λ forks span. steps forks span u)
          e.aligned inside e.counted e.beat_most,
    )

pub stack_turn-requires : goal.stack_turn-requires
stack_turn-requires c =
    let l = c.loop-left in
    let at = turn_at c.args.registers.now.nums c.args.registers.now.kinds c.args.pile.now.nums c.args.pile.now.kinds l.registers.nums l.registers.kinds l.pile.nums l.pile.kinds c.requires l.invariant.2 l.invariant.0 c.loop-left-test.true in
    can_stack c.args.code.now.program.accepted c.args.code.now.decoded at c.turn-g.ensures.sized l.invariant.1.still_lies (height-now c.args.registers.now.nums c.args.registers.now.kinds c.args.pile.now.nums c.args.pile.now.kinds l.registers.nums l.registers.kinds l.pile.nums l.pile.kinds c.requires l.invariant.2)

pub loop-left-preserved : goal.loop-left-preserved
loop-left-preserved c =
    let l = c.loop-left in
    let t = c.turn-g in
    let some = c.loop-left-test.true in
    let same = (rw c.in-Off.is at t.ensures.turned.stays).0 in
    let at = turn_at c.args.registers.now.nums c.args.registers.now.kinds c.args.pile.now.nums c.args.pile.now.kinds l.registers.nums l.registers.kinds l.pile.nums l.pile.kinds c.requires l.invariant.2 l.invariant.0 some in
    let most = height-now c.args.registers.now.nums c.args.registers.now.kinds c.args.pile.now.nums c.args.pile.now.kinds l.registers.nums l.registers.kinds l.pile.nums l.pile.kinds c.requires l.invariant.2 in
    let x = stacks c.args.code.now.program.cells.now c.args.code.now.words.now c.args.code.now.interval c.args.task.places c.args.task.depth l.pc l.beat (l.left - 1) c.args.task.low l.height
    _ _ l.pile.nums l.pile.kinds l.invariant.2.aligned at.counter_least t.ensures.sized l.invariant.1.still_lies most (fetched c.args.code.now.program.accepted c.args.code.now.decoded at)
    c.in-Some.ensures in (
      x.sized_after,
      below_on l.invariant.1 x.below_after,
      runs_on_lem c.args.code.now.program.cells.now c.args.code.now.words.now c.args.code.now.interval c.args.code.now.program.accepted c.args.task.places c.args.task.depth c.args.task.pc c.args.task.beat c.args.task.left
          (stack_of c.args.pile.now.nums c.args.pile.now.kinds c.args.task.low c.args.task.height) (registers_of c.args.registers.now.nums c.args.registers.now.kinds) l.pc l.beat l.left
          (stack_of l.pile.nums l.pile.kinds c.args.task.low l.height) _ (l.pc + 4) l.beat _ _ some (rw same l.invariant.2) x.steps
          (omega (arith, l.invariant.2.aligned)) x.inside (omega (arith, l.invariant.2.counted)) (omega arith),
    )
