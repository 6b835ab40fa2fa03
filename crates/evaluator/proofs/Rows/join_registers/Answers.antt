-- `join_registers` meets its contract.
use mathlib.Core.Path.{sym, subst}
use Rattle.arms.specs.declared.Registers.{Registers}
use Rattle.arms.specs.Registers.{Sized}
use Rattle.evaluator.proofs.Rows.join_registers.Goals as goal

pub merge-requires : goal.merge-requires
merge-requires c = subst (λ (x : Registers). Sized x.nums x.kinds) (sym c.copy.ensures) (c.requires.0.banks_sized c.args.at c.requires.1)
