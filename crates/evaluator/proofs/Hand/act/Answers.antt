-- `act` meets its contract.
use Rattle.evaluator.specs.Hands.{hand_side}
use mathlib.Core.Path.{ap}
use native.Mathlib.Omega.{arith}
use Rattle.image.specs.declared.Instruction.{Instruction}
use Rattle.arms.specs.Stacks.{stack_of}
use Rattle.evaluator.proofs.EndingLaws.{here, pc_below, depth_most}
use Rattle.evaluator.proofs.ActLaws.{can_step, height_most, fork_room, act_leads}
use Rattle.evaluator.proofs.Hand.act.Goals as goal

pub instruction-x-requires : goal.instruction-x-requires
instruction-x-requires c =
    let code = c.args.code.now in
    let h = c.args.self in
    let rows = c.args.rows.now in
    let q = c.requires in
    let can = can_step code.program.cells.now code.words.now code.interval h rows q.0 q.1 q.2 in
    pc_below code.program.cells.now code.program.accepted (hand_side h rows.records rows.registers) can

pub apply-requires : goal.apply-requires
apply-requires c =
    let code = c.args.code.now in
    let cells = code.program.cells.now in
    let words = code.words.now in
    let h = c.args.self in
    let rows = c.args.rows.now in
    let q = c.requires in
    let can = can_step cells words code.interval h rows q.0 q.1 q.2 in
    let e = c.ending-e in
    let x = c.instruction-x in
    let stack = (stack_of rows.pile.nums rows.pile.kinds h.low h.height).values in
    let own = hand_side h rows.records rows.registers in
    let er = ap (λ (y : Instruction). y.r) x.ensures in (
      q.0.full,
      omega (arith, er, (here cells code.program.accepted own can).r_small),
      q.2,
      q.0.limited,
      q.0.span_least,
      fork_room cells words code.interval h rows q.0 q.1 q.2 code.program.accepted e.result (e.ensures stack) x.result.r er,
      q.0.piled,
      depth_most cells code.program.accepted own can,
      height_most cells words code.interval h rows q.0 q.1 q.2,
    )

pub returns-clause-leads_to : goal.returns-clause-leads_to
returns-clause-leads_to c =
    let code = c.args.code.now in
    let h = c.args.self in
    let rows = c.args.rows.now in
    let q = c.requires in
    let e = c.ending-e in
    let x = c.instruction-x in
    let t = c.apply in
    let stack = (stack_of rows.pile.nums rows.pile.kinds h.low h.height).values in
    act_leads code.program.cells.now code.words.now code.interval h rows q.0 q.1 q.2 code.program.accepted e.result (e.ensures stack) x.result.r (ap (λ (y : Instruction). y.r) x.ensures)
    t.result t.new.rows t.ensures
