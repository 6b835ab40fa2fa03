-- `allocate_register` meets its contract.
use Rattle.std.proofs.Common.{rules}
use Rattle.arms.specs.Registers.{Sized}
use Rattle.image.specs.Layout.{program_of}
use Rattle.task.specs.Effect.{jralloc}
use Rattle.task.specs.Formed.{value_fits}
use Rattle.arms.specs.Registers.{registers_of}
use mathlib.Core.Path.{ap, sym, ◌∙◌}
use native.Mathlib.Omega.{arith}
use lib.ListN.{get_or}
use Rattle.task.specs.Effect.{effect_of}
use Rattle.arms.proofs.RegisterLaws.{value-at, label_at}
use Rattle.arms.proofs.SetLaws.{unset, no_label}
use Rattle.arms.proofs.LeadLaws.{label_inside}
use Rattle.arms.proofs.moves.allocate_register.Goals as goal

pub returns-then-registers-v-ne1 : goal.returns-then-registers-v-ne1
returns-then-registers-v-ne1 c =
    let nums = c.args.registers.now.nums in
    let kinds = c.args.registers.now.kinds in
    let sized : Sized nums kinds = search rules in
    λ w k s. (
      sized,
      λ t o q. unset 35 (omega arith) (ap (λ u. effect_of (program_of c.args.code.now.program.cells.now) w k (s (registers_of c.args.registers.now.nums c.args.registers.now.kinds)) u t o jralloc) (value-at nums kinds c.args.v sized c.requires.2)
          ∙ no_label (program_of c.args.code.now.program.cells.now) w k (s (registers_of c.args.registers.now.nums c.args.registers.now.kinds)) t o (get_or kinds c.args.v 0) (get_or nums c.args.v 0) c.if-registers-v-ne1.true),
    )

pub allocate_label-requires : goal.allocate_label-requires
allocate_label-requires c =
    let nums = c.args.registers.now.nums in
    let kinds = c.args.registers.now.kinds in
    let sized : Sized nums kinds = search rules in
    let fits = sym (ap (value_fits (program_of c.args.code.now.program.cells.now)) (value-at nums kinds c.args.v sized c.requires.2)) ∙ c.requires.3 in
    (label_inside c.args.code.now.program.cells.now (get_or kinds c.args.v 0) _ c.if-registers-v-ne1.false fits, c.requires.0, c.requires.1)

pub returns : goal.returns
returns c =
    let nums = c.args.registers.now.nums in
    let kinds = c.args.registers.now.kinds in
    let sized : Sized nums kinds = search rules in
    let one = c.allocate_label.ensures in
    λ w k s. ((one w k s).0, λ t o q. rw (label_at nums kinds c.args.v sized c.requires.2 c.if-registers-v-ne1.false) ((one w k s).1 t o q))
