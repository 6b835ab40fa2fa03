-- `ending` meets its contract.
use Rattle.std.proofs.Common.{rules, ◌-◌}
use Rattle.image.specs.Layout.{program_of}
use Rattle.task.specs.Choices.{chosen}
use Rattle.task.specs.Effect.{fork, halt, meet, push, pop, unknown, opcodes}
use Rattle.task.specs.Execute.{answered}
use Rattle.arms.specs.Registers.{value_of, Sized}
use Rattle.evaluator.specs.Banks.{forks_of, Nested}
use Rattle.evaluator.specs.Hands.{hand_side}
use mathlib.Core.Path.{◌≡◌, sym, ap, subst, ◌∙◌}
use Prim.Native.Nat.{◌-◌}
use native.Mathlib.Omega.{arith}
use lib.ListN.{get_or}
use Rattle.image.specs.declared.Instruction.{Instruction}
use Rattle.task.specs.declared.Active.{Active}
use Rattle.evaluator.proofs.EndingLaws.{pc_below, place-below, depth_most, s-below, operand_below, s_is, v_is, v_fits, label_small, executes, left_in}
use Rattle.evaluator.proofs.Hand.ending.Goals as goal

pub returns-in-Fault : goal.returns-in-Fault
returns-in-Fault c =
    let h = c.args.self in
    λ stack.
    c.fault.ensures
    ∙ sym ((rw c.in-Fault.is at c.requires.3.faults_there) (forks_of c.args.rows.now.records h.depth) (h.spun - h.left)
    (record { height = h.height; values = stack }))

pub instruction-x-requires : goal.instruction-x-requires
instruction-x-requires c =
    let own = hand_side c.args.self c.args.rows.now.records c.args.rows.now.registers in
    pc_below c.args.code.now.program.cells.now c.args.code.now.program.accepted own c.requires.0

pub overflow_cast-at : goal.overflow_cast-at
overflow_cast-at c =
    let cells = c.args.code.now.program.cells.now in
    let own = hand_side c.args.self c.args.rows.now.records c.args.rows.now.registers in
    let can = c.requires.0 in
    omega (arith, place-below cells c.args.code.now.program.accepted own can)

pub overflow_cast-self-2 : goal.overflow_cast-self-2
overflow_cast-self-2 c =
    let cells = c.args.code.now.program.cells.now in
    let own = hand_side c.args.self c.args.rows.now.records c.args.rows.now.registers in
    let can = c.requires.0 in
    omega (arith, depth_most cells c.args.code.now.program.accepted own can)

pub bounds-rows-at_s : goal.bounds-rows-at_s
bounds-rows-at_s c =
    let cells = c.args.code.now.program.cells.now in
    let own = hand_side c.args.self c.args.rows.now.records c.args.rows.now.registers in
    let can = c.requires.0 in
    let z : Sized c.args.rows.now.registers.nums c.args.rows.now.registers.kinds = search rules in
    let x = c.instruction-x in
    omega (arith, z.1, s-below cells c.args.code.now.program.accepted own can z x.result x.ensures)

pub offset_bounds-rows-at_s : goal.offset_bounds-rows-at_s
offset_bounds-rows-at_s c =
    let cells = c.args.code.now.program.cells.now in
    let own = hand_side c.args.self c.args.rows.now.records c.args.rows.now.registers in
    let can = c.requires.0 in
    let z : Sized c.args.rows.now.registers.nums c.args.rows.now.registers.kinds = search rules in
    let x = c.instruction-x in
    omega (arith, s-below cells c.args.code.now.program.accepted own can z x.result x.ensures)

pub bounds-rows-at_s-2 : goal.bounds-rows-at_s-2
bounds-rows-at_s-2 c =
    let cells = c.args.code.now.program.cells.now in
    let own = hand_side c.args.self c.args.rows.now.records c.args.rows.now.registers in
    let can = c.requires.0 in
    let z : Sized c.args.rows.now.registers.nums c.args.rows.now.registers.kinds = search rules in
    let x = c.instruction-x in
    omega (arith, z.0, s-below cells c.args.code.now.program.accepted own can z x.result x.ensures)

pub operand_pair-v-requires : goal.operand_pair-v-requires
operand_pair-v-requires c =
    let cells = c.args.code.now.program.cells.now in
    let own = hand_side c.args.self c.args.rows.now.records c.args.rows.now.registers in
    let can = c.requires.0 in
    let z : Sized c.args.rows.now.registers.nums c.args.rows.now.registers.kinds = search rules in
    let x = c.instruction-x in
    operand_below cells c.args.code.now.program.accepted own can z x.result x.ensures

pub fork_under-requires : goal.fork_under-requires
fork_under-requires c =
    let cells = c.args.code.now.program.cells.now in
    let own = hand_side c.args.self c.args.rows.now.records c.args.rows.now.registers in
    let can = c.requires.0 in
    let z : Sized c.args.rows.now.registers.nums c.args.rows.now.registers.kinds = search rules in
    let x = c.instruction-x in
    let v = c.operand_pair-v in
    let ev = v_is cells c.args.code.now.program.accepted own can z x.result x.ensures v.ensures in (
      v_fits cells c.args.code.now.program.accepted own can z x.result x.ensures ev,
      omega (arith, ap (λ (t : Active). t.pc) c.count-t.ensures, place-below cells c.args.code.now.program.accepted own can),
      omega (arith, ap (λ (t : Active). t.depth) c.count-t.ensures, depth_most cells c.args.code.now.program.accepted own can),
      subst (Nested c.args.rows.now.records) (sym (ap (λ (t : Active). t.depth) c.count-t.ensures)) c.requires.4,
    )

pub returns-in-12 : goal.returns-in-12
returns-in-12 c =
    let cells = c.args.code.now.program.cells.now in
    let own = hand_side c.args.self c.args.rows.now.records c.args.rows.now.registers in
    let can = c.requires.0 in
    let z : Sized c.args.rows.now.registers.nums c.args.rows.now.registers.kinds = search rules in
    let x = c.instruction-x in
    let v = c.operand_pair-v in
    let es = s_is cells c.args.code.now.program.accepted own can z x.result x.ensures in
    let ev = v_is cells c.args.code.now.program.accepted own can z x.result x.ensures v.ensures in
    let words = c.args.code.now.words.now in
    let s = value_of (get_or c.args.rows.now.registers.kinds x.result.s 0) (get_or c.args.rows.now.registers.nums x.result.s 0) in
    executes cells c.args.code.now.program.accepted own can z x.result x.ensures es ev words (chosen c.args.code.now.interval) fork (ap (λ n. get_or opcodes n unknown) c.in-12.is)
    (c.fork_under.ensures words (chosen c.args.code.now.interval) ∙ ap (λ (t : Active). answered (program_of cells) words (chosen c.args.code.now.interval) s (value_of v.result.kind v.result.num) t
    (forks_of c.args.rows.now.records t.depth) fork) c.count-t.ensures)

pub meet_under-requires : goal.meet_under-requires
meet_under-requires c =
    let cells = c.args.code.now.program.cells.now in
    let own = hand_side c.args.self c.args.rows.now.records c.args.rows.now.registers in
    let can = c.requires.0 in
    let z : Sized c.args.rows.now.registers.nums c.args.rows.now.registers.kinds = search rules in
    let x = c.instruction-x in
    let v = c.operand_pair-v in
    let ev = v_is cells c.args.code.now.program.accepted own can z x.result x.ensures v.ensures in (
      v_fits cells c.args.code.now.program.accepted own can z x.result x.ensures ev,
      omega (arith, ap (λ (t : Active). t.depth) c.count-t.ensures, depth_most cells c.args.code.now.program.accepted own can),
      subst (Nested c.args.rows.now.records) (sym (ap (λ (t : Active). t.depth) c.count-t.ensures)) c.requires.4,
    )

pub returns-in-15 : goal.returns-in-15
returns-in-15 c =
    let cells = c.args.code.now.program.cells.now in
    let own = hand_side c.args.self c.args.rows.now.records c.args.rows.now.registers in
    let can = c.requires.0 in
    let z : Sized c.args.rows.now.registers.nums c.args.rows.now.registers.kinds = search rules in
    let x = c.instruction-x in
    let v = c.operand_pair-v in
    let es = s_is cells c.args.code.now.program.accepted own can z x.result x.ensures in
    let ev = v_is cells c.args.code.now.program.accepted own can z x.result x.ensures v.ensures in
    let words = c.args.code.now.words.now in
    let s = value_of (get_or c.args.rows.now.registers.kinds x.result.s 0) (get_or c.args.rows.now.registers.nums x.result.s 0) in
    executes cells c.args.code.now.program.accepted own can z x.result x.ensures es ev words (chosen c.args.code.now.interval) meet (ap (λ n. get_or opcodes n unknown) c.in-15.is)
    (c.meet_under.ensures words c.args.code.now.interval s ∙ ap (λ (t : Active). answered (program_of cells) words (chosen c.args.code.now.interval) s (value_of v.result.kind v.result.num) t
    (forks_of c.args.rows.now.records t.depth) meet) c.count-t.ensures)

pub push_of-requires : goal.push_of-requires
push_of-requires c =
    let cells = c.args.code.now.program.cells.now in
    let own = hand_side c.args.self c.args.rows.now.records c.args.rows.now.registers in
    let can = c.requires.0 in
    let z : Sized c.args.rows.now.registers.nums c.args.rows.now.registers.kinds = search rules in
    let x = c.instruction-x in
    let v = c.operand_pair-v in
    let ev = v_is cells c.args.code.now.program.accepted own can z x.result x.ensures v.ensures in
    let fit = v_fits cells c.args.code.now.program.accepted own can z x.result x.ensures ev in (
      label_small cells c.args.code.now.program.accepted own can z x.result x.ensures v.result.kind v.result.num fit,
      omega (arith, ap (λ (t : Active). t.pc) c.count-t.ensures, place-below cells c.args.code.now.program.accepted own can),
    )

pub returns-in-16 : goal.returns-in-16
returns-in-16 c =
    let cells = c.args.code.now.program.cells.now in
    let own = hand_side c.args.self c.args.rows.now.records c.args.rows.now.registers in
    let can = c.requires.0 in
    let z : Sized c.args.rows.now.registers.nums c.args.rows.now.registers.kinds = search rules in
    let x = c.instruction-x in
    let v = c.operand_pair-v in
    let es = s_is cells c.args.code.now.program.accepted own can z x.result x.ensures in
    let ev = v_is cells c.args.code.now.program.accepted own can z x.result x.ensures v.ensures in
    let words = c.args.code.now.words.now in
    let s = value_of (get_or c.args.rows.now.registers.kinds x.result.s 0) (get_or c.args.rows.now.registers.nums x.result.s 0) in
    executes cells c.args.code.now.program.accepted own can z x.result x.ensures es ev words (chosen c.args.code.now.interval) push (ap (λ n. get_or opcodes n unknown) c.in-16.is)
    (c.push_of.ensures (program_of cells) words (chosen c.args.code.now.interval) s (forks_of c.args.rows.now.records c.count-t.result.depth)
    ∙ ap (λ (t : Active). answered (program_of cells) words (chosen c.args.code.now.interval) s (value_of v.result.kind v.result.num) t
    (forks_of c.args.rows.now.records t.depth) push) c.count-t.ensures)

pub pass-requires : goal.pass-requires
pass-requires c =
    let own = hand_side c.args.self c.args.rows.now.records c.args.rows.now.registers in
    omega (arith, ap (λ (t : Active). t.pc) c.count-t.ensures, place-below c.args.code.now.program.cells.now c.args.code.now.program.accepted own c.requires.0)

pub returns-in-17 : goal.returns-in-17
returns-in-17 c =
    let cells = c.args.code.now.program.cells.now in
    let own = hand_side c.args.self c.args.rows.now.records c.args.rows.now.registers in
    let can = c.requires.0 in
    let z : Sized c.args.rows.now.registers.nums c.args.rows.now.registers.kinds = search rules in
    let x = c.instruction-x in
    let v = c.operand_pair-v in
    let es = s_is cells c.args.code.now.program.accepted own can z x.result x.ensures in
    let ev = v_is cells c.args.code.now.program.accepted own can z x.result x.ensures v.ensures in
    let words = c.args.code.now.words.now in
    let s = value_of (get_or c.args.rows.now.registers.kinds x.result.s 0) (get_or c.args.rows.now.registers.nums x.result.s 0) in
    executes cells c.args.code.now.program.accepted own can z x.result x.ensures es ev words (chosen c.args.code.now.interval) pop (ap (λ n. get_or opcodes n unknown) c.in-17.is)
    (c.pass.ensures
    ∙ ap (λ (t : Active). answered (program_of cells) words (chosen c.args.code.now.interval) s (value_of v.result.kind v.result.num) t
    (forks_of c.args.rows.now.records t.depth) pop) c.count-t.ensures)

pub returns-in_default-opcode : goal.returns-in_default-opcode
returns-in_default-opcode c =
    let cells = c.args.code.now.program.cells.now in
    let own = hand_side c.args.self c.args.rows.now.records c.args.rows.now.registers in
    let can = c.requires.0 in
    let z : Sized c.args.rows.now.registers.nums c.args.rows.now.registers.kinds = search rules in
    let x = c.instruction-x in
    let v = c.operand_pair-v in
    let es = s_is cells c.args.code.now.program.accepted own can z x.result x.ensures in
    let ev = v_is cells c.args.code.now.program.accepted own can z x.result x.ensures v.ensures in
    let words = c.args.code.now.words.now in
    let s = value_of (get_or c.args.rows.now.registers.kinds x.result.s 0) (get_or c.args.rows.now.registers.nums x.result.s 0) in
    let eo = ap (λ (y : Instruction). y.opcode) x.ensures in
    let n12 : x.result.opcode ≡ 12 → ⊥ = search rules in
    let n15 : x.result.opcode ≡ 15 → ⊥ = search rules in
    let n16 : x.result.opcode ≡ 16 → ⊥ = search rules in
    let n17 : x.result.opcode ≡ 17 → ⊥ = search rules in
    let halts = eo ∙ left_in _ _ c.requires.2 c.in_default.not-Fault c.requires.3.left_there (λ q. n12 (eo ∙ q)) (λ q. n15 (eo ∙ q)) (λ q. n16 (eo ∙ q)) (λ q. n17 (eo ∙ q)) in
    executes cells c.args.code.now.program.accepted own can z x.result x.ensures es ev words (chosen c.args.code.now.interval) halt (ap (λ n. get_or opcodes n unknown) halts)
    (c.halt.ensures (program_of cells) words (chosen c.args.code.now.interval) s (value_of v.result.kind v.result.num)
    (forks_of c.args.rows.now.records c.count-t.result.depth)
    ∙ ap (λ (t : Active). answered (program_of cells) words (chosen c.args.code.now.interval) s (value_of v.result.kind v.result.num) t
    (forks_of c.args.rows.now.records t.depth) halt) c.count-t.ensures)
