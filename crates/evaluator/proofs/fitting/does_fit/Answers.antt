-- `does_fit` meets its contract.
use Rattle.task.specs.Effect.{fits}
use mathlib.Core.Path.{sym}
use native.Mathlib.Omega.{arith}
use borrow.Author.Tests.{lt-leb}
use Rattle.evaluator.proofs.ForkLaws.{own_depth, by-innermost}
use Rattle.evaluator.proofs.fitting.does_fit.Goals as goal

pub returns-then-depth-low : goal.returns-then-depth-low
unfolding fits
returns-then-depth-low c = rw (lt-leb _ _ c.if-depth-low.true)

pub returns-then-depth-low-2 : goal.returns-then-depth-low-2
returns-then-depth-low-2 c =
    sym (own_depth c.args.records.now c.args.under c.args.depth c.if-depth-low-2.true)

pub returns : goal.returns
returns c =
    by-innermost c.args.records.now c.args.under c.args.depth (omega (arith, c.if-depth-low.false, c.if-depth-low-2.false)) c.requires.1
