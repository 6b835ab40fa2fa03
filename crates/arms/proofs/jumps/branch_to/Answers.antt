-- `branch_to` meets its contract.
use Rattle.std.proofs.Common.{rules}
use Rattle.arms.specs.Registers.{Sized}
use Rattle.std.proofs.Common.{◌-◌, ◌/◌}
use Rattle.arms.specs.Registers.{value_of}
use Rattle.arms.specs.Arms.{active}
use mathlib.Core.Path.{◌∙◌}
use native.Mathlib.Omega.{arith}
use Rattle.image.proofs.Accepted.{accepted}
use Rattle.arms.proofs.LeadLaws.{leads_on, stays, branch_other, branch_taken, falls_through, jump_label, jump-other}
use Rattle.arms.proofs.jumps.branch_to.Goals as goal

pub returns-then-registers-s-ne0 : goal.returns-then-registers-s-ne0
returns-then-registers-s-ne0 c =
    let sized : Sized c.args.registers.now.nums c.args.registers.now.kinds = search rules in
    let v = value_of c.args.kind c.args.num in
    λ depth w o.
    let t = active c.args.task.places (c.args.task.pc / 4) (c.args.task.beat - c.args.task.left) depth in
    stays c.args.code.now.program.cells.now 31 c.args.task.pc c.args.task.beat c.args.task.left (omega arith)
    (branch_other c.args.registers.now.nums c.args.registers.now.kinds c.args.s sized c.requires.2 c.args.code.now.program.cells.now w c.args.code.now.interval v t o c.if-registers-s-ne0.true)
    c.requires.3 c.requires.1

pub overflow_add-result : goal.overflow_add-result
overflow_add-result c = omega (arith, (accepted c.args.code.now.program.cells.now c.args.code.now.program.accepted).few_instructions, c.requires.3, c.requires.4)

pub returns-then-registers-s-ne0-2 : goal.returns-then-registers-s-ne0-2
returns-then-registers-s-ne0-2 c =
    let sized : Sized c.args.registers.now.nums c.args.registers.now.kinds = search rules in
    let v = value_of c.args.kind c.args.num in
    λ depth w o.
    let t = active c.args.task.places (c.args.task.pc / 4) (c.args.task.beat - c.args.task.left) depth in
    leads_on c.args.code.now.program.cells.now c.args.task.pc c.args.task.beat c.args.task.left c.requires.3 c.requires.4 c.requires.1
    (falls_through c.args.registers.now.nums c.args.registers.now.kinds c.args.s sized c.requires.2 c.args.code.now.program.cells.now w c.args.code.now.interval v t o c.if-registers-s-ne0.false c.if-registers-s-ne0-2.true)

pub returns-then-kind-ne1 : goal.returns-then-kind-ne1
returns-then-kind-ne1 c =
    let sized : Sized c.args.registers.now.nums c.args.registers.now.kinds = search rules in
    let v = value_of c.args.kind c.args.num in
    λ depth w o.
    let t = active c.args.task.places (c.args.task.pc / 4) (c.args.task.beat - c.args.task.left) depth in
    stays c.args.code.now.program.cells.now 34 c.args.task.pc c.args.task.beat c.args.task.left (omega arith)
    (branch_taken c.args.registers.now.nums c.args.registers.now.kinds c.args.s sized c.requires.2 c.args.code.now.program.cells.now w c.args.code.now.interval v t o c.if-registers-s-ne0.false c.if-registers-s-ne0-2.false
    ∙ jump-other c.args.code.now.program.cells.now w c.args.code.now.interval v t o c.args.kind c.args.num c.if-kind-ne1.true) c.requires.3 c.requires.1

pub returns : goal.returns
returns c =
    let sized : Sized c.args.registers.now.nums c.args.registers.now.kinds = search rules in
    let v = value_of c.args.kind c.args.num in
    λ depth w o.
    let t = active c.args.task.places (c.args.task.pc / 4) (c.args.task.beat - c.args.task.left) depth in
    rw (branch_taken c.args.registers.now.nums c.args.registers.now.kinds c.args.s sized c.requires.2 c.args.code.now.program.cells.now w c.args.code.now.interval v t o c.if-registers-s-ne0.false
    c.if-registers-s-ne0-2.false ∙ jump_label c.args.code.now.program.cells.now w c.args.code.now.interval v t o c.args.kind c.args.num c.if-kind-ne1.false) (c.enter.ensures (c.args.task.pc / 4) depth)
