-- `of_number` meets its contract.
use Rattle.std.proofs.Common.{rules}
use mathlib.Core.Path.{sym, subst}
use Rattle.arms.specs.declared.Way.TheVariants.{On, Fault}
use Rattle.arms.specs.Registers.{Sized, registers_of}
use Rattle.arms.specs.Arms.{Sets}
use Rattle.arms.proofs.RegisterLaws.{still_sized}
use Rattle.arms.proofs.SetLaws.{left_other, sets_computed, by_zero}
use Rattle.arms.proofs.arithmetic.of_number.Goals as goal

pub returns-then-registers-s-ne0 : goal.returns-then-registers-s-ne0
returns-then-registers-s-ne0 g c =
    let m = c.args.registers.now in
    let sized : Sized m.nums m.kinds = search rules in
    let before = registers_of m.nums m.kinds in
    λ x suits. (sized, λ t o q. subst (Sets (Fault 31) c.args.r before before) (sym (g.met.O.Operation.as_table x.program x.words x.choices _ _ t o)) (left_other m.nums m.kinds c.args.s sized c.requires.1 c.if-registers-s-ne0.true _))

pub returns-in-Some : goal.returns-in-Some
returns-in-Some g c =
    let m = c.args.registers.now in
    let sized : Sized m.nums m.kinds = search rules in
    let before = registers_of m.nums m.kinds in
    let put = c.put.ensures in
    λ x suits. (
      still_sized m.nums m.kinds c.args.r _ 0 sized put.nums_after put.kinds_after,
      λ t o q. subst (Sets On c.args.r before _) (sym (g.met.O.Operation.as_table x.program x.words x.choices _ _ t o))
          (sets_computed m.nums m.kinds c.args.r c.args.s c.args.v sized c.requires.1 c.if-registers-s-ne0.false (g.O.Operation.after x.choices) _ put.nums_after put.kinds_after (c.in-Some.ensures x.choices suits)),
    )

pub returns-in-None : goal.returns-in-None
returns-in-None g c =
    let m = c.args.registers.now in
    let sized : Sized m.nums m.kinds = search rules in
    let before = registers_of m.nums m.kinds in
    λ x suits. (
      sized,
      λ t o q. subst (Sets (Fault 32) c.args.r before before) (sym (g.met.O.Operation.as_table x.program x.words x.choices _ _ t o))
          (by_zero m.nums m.kinds c.args.r c.args.s c.args.v sized c.requires.1 c.if-registers-s-ne0.false (g.O.Operation.after x.choices) (c.in-None.ensures x.choices suits)),
    )
