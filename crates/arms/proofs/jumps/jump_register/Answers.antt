-- `jump_register` meets its contract.
use Rattle.std.proofs.Common.{rules}
use Rattle.arms.specs.Registers.{Sized}
use Rattle.std.proofs.Common.{◌-◌, ◌/◌}
use Rattle.image.specs.Layout.{program_of}
use Rattle.task.specs.Choices.{chosen}
use Rattle.task.specs.Effect.{jump}
use Rattle.task.specs.Formed.{value_fits}
use Rattle.arms.specs.Arms.{active}
use mathlib.Core.Path.{sym, ap, ◌∙◌}
use native.Mathlib.Omega.{arith}
use lib.ListN.{get_or}
use Rattle.task.specs.Execute.{answered}
use Rattle.arms.proofs.RegisterLaws.{value-at}
use Rattle.arms.proofs.LeadLaws.{stays, jump_label, jump-other, label_inside}
use Rattle.arms.proofs.jumps.jump_register.Goals as goal

pub returns-then-registers-v-ne1 : goal.returns-then-registers-v-ne1
returns-then-registers-v-ne1 c =
    let nums = c.args.registers.now.nums in
    let kinds = c.args.registers.now.kinds in
    let sized : Sized nums kinds = search rules in
    let cells = c.args.code.now.program.cells.now in
    λ s depth w o.
    let t = active c.args.task.places (c.args.task.pc / 4) (c.args.task.beat - c.args.task.left) depth in
    stays cells 34 c.args.task.pc c.args.task.beat c.args.task.left (omega arith)
    (ap (λ u. answered (program_of cells) w (chosen c.args.code.now.interval) s u t o jump) (value-at nums kinds c.args.v sized c.requires.1)
    ∙ jump-other cells w c.args.code.now.interval s t o (get_or kinds c.args.v 0) (get_or nums c.args.v 0) c.if-registers-v-ne1.true) c.requires.2 c.requires.0

pub enter-requires : goal.enter-requires
enter-requires c =
    let nums = c.args.registers.now.nums in
    let kinds = c.args.registers.now.kinds in
    let sized : Sized nums kinds = search rules in
    let cells = c.args.code.now.program.cells.now in
    let fits = sym (ap (value_fits (program_of cells)) (value-at nums kinds c.args.v sized c.requires.1)) ∙ c.requires.3 in
    (label_inside cells (get_or kinds c.args.v 0) (get_or nums c.args.v 0) c.if-registers-v-ne1.false fits, c.requires.0)

pub returns : goal.returns
returns c =
    let nums = c.args.registers.now.nums in
    let kinds = c.args.registers.now.kinds in
    let sized : Sized nums kinds = search rules in
    let cells = c.args.code.now.program.cells.now in
    λ s depth w o.
    let t = active c.args.task.places (c.args.task.pc / 4) (c.args.task.beat - c.args.task.left) depth in
    rw (ap (λ u. answered (program_of cells) w (chosen c.args.code.now.interval) s u t o jump) (value-at nums kinds c.args.v sized c.requires.1)
    ∙ jump_label cells w c.args.code.now.interval s t o (get_or kinds c.args.v 0) (get_or nums c.args.v 0) c.if-registers-v-ne1.false) (c.enter.ensures (c.args.task.pc / 4) depth)
