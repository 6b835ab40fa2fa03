-- `allocate_label` meets its contract.
use Rattle.std.proofs.Common.{rules}
use Rattle.arms.specs.Registers.{Sized}
use Rattle.image.specs.Layout.{program_of}
use Rattle.arms.specs.Registers.{registers_of}
use mathlib.Core.Path.{refl, sym, ◌∙◌}
use native.Mathlib.Omega.{arith}
use Rattle.image.proofs.Accepted.{accepted}
use Rattle.arms.proofs.RegisterLaws.{still_sized}
use Rattle.arms.proofs.ValueLaws.{pair_record}
use Rattle.arms.proofs.SetLaws.{unset, sets, no_target, gives_record}
use Rattle.arms.proofs.moves.allocate_label.Goals as goal

pub returns-then-annotation-ne2 : goal.returns-then-annotation-ne2
returns-then-annotation-ne2 c =
    let sized : Sized c.args.registers.now.nums c.args.registers.now.kinds = search rules in
    λ w k s. (
      sized,
      λ t o q. unset 35 (omega arith) (no_target (program_of c.args.code.now.program.cells.now) w k (s (registers_of c.args.registers.now.nums c.args.registers.now.kinds)) t o c.args.v (λ z. c.if-annotation-ne2.true (c.annotation.ensures ∙ z))),
    )

pub overflow_mul-v : goal.overflow_mul-v
overflow_mul-v c = omega (arith, c.requires.0, (accepted c.args.code.now.program.cells.now c.args.code.now.program.accepted).few_blocks)

pub overflow_add-v : goal.overflow_add-v
overflow_add-v c = omega (arith, c.requires.0, c.requires.1, (accepted c.args.code.now.program.cells.now c.args.code.now.program.accepted).few_blocks)

pub returns : goal.returns
returns c =
    let nums = c.args.registers.now.nums in
    let kinds = c.args.registers.now.kinds in
    let sized : Sized nums kinds = search rules in
    let put = c.put.ensures in
    λ w k s. (
      still_sized nums kinds c.args.r _ _ sized put.nums_after put.kinds_after,
      λ t o q. sets nums kinds c.args.r _ 2 _ (pair_record c.args.v c.args.depth (omega (arith, c.requires.1)) refl)
          (gives_record (program_of c.args.code.now.program.cells.now) w k (s (registers_of c.args.registers.now.nums c.args.registers.now.kinds)) t o c.args.v c.args.depth
          (sym c.annotation.ensures ∙ c.if-annotation-ne2.false) q) put.nums_after put.kinds_after,
    )
