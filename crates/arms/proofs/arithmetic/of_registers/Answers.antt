-- `of_registers` meets its contract.
use Rattle.std.proofs.Common.{rules}
use mathlib.Core.Path.{sym, subst}
use Rattle.arms.specs.declared.Way.TheVariants.{Fault}
use Rattle.arms.specs.Registers.{Sized, registers_of}
use Rattle.arms.specs.Arms.{Sets}
use Rattle.arms.proofs.RegisterLaws.{integer-at}
use Rattle.arms.proofs.SetLaws.{right-other}
use Rattle.arms.proofs.arithmetic.of_registers.Goals as goal

pub returns-then-registers-v-ne0 : goal.returns-then-registers-v-ne0
returns-then-registers-v-ne0 g c =
    let m = c.args.registers.now in
    let sized : Sized m.nums m.kinds = search rules in
    let before = registers_of m.nums m.kinds in
    λ x suits. (sized, λ t o q. subst (Sets (Fault 31) c.args.r before before) (sym (g.met.O.Operation.as_table x.program x.words x.choices _ _ t o)) (right-other m.nums m.kinds c.args.v sized c.requires.2 c.if-registers-v-ne0.true _ _))

pub returns : goal.returns
returns g c =
    let m = c.args.registers.now in
    let sized : Sized m.nums m.kinds = search rules in
    λ x suits. rw (integer-at m.nums m.kinds c.args.v sized c.requires.2 c.if-registers-v-ne0.false) (c.of_number.ensures x suits)
