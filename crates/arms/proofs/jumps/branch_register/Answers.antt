-- `branch_register` meets its contract.
use Rattle.std.proofs.Common.{rules}
use Rattle.arms.specs.Registers.{Sized}
use Rattle.image.specs.Layout.{program_of}
use Rattle.task.specs.Formed.{value_fits}
use mathlib.Core.Path.{sym, ap, ◌∙◌}
use Rattle.arms.proofs.RegisterLaws.{value-at}
use Rattle.arms.proofs.jumps.branch_register.Goals as goal

pub branch_to-requires : goal.branch_to-requires
branch_to-requires c =
    let sized : Sized c.args.registers.now.nums c.args.registers.now.kinds = search rules in
    let e = value-at c.args.registers.now.nums c.args.registers.now.kinds c.args.v sized c.requires.5 in
    (sym (ap (value_fits (program_of c.args.code.now.program.cells.now)) e) ∙ c.requires.0, c.requires.1, c.requires.2, c.requires.3, c.requires.4)

pub returns : goal.returns
returns c =
    let sized : Sized c.args.registers.now.nums c.args.registers.now.kinds = search rules in
    rw (value-at c.args.registers.now.nums c.args.registers.now.kinds c.args.v sized c.requires.5) c.branch_to.ensures
