-- `does_fit` meets its contract.
use Rattle.std.proofs.Common.{◌∙◌, rules}
use Rattle.task.proofs.Sizes.{length-by}
use Rattle.task.proofs.Belonging.{does_fit}
use Rattle.task.proofs.forking.does_fit.Goals as goal

pub returns-then-under-depth : goal.returns-then-under-depth
returns-then-under-depth c =
    let a = c.args in
    c.all_belong.ensures ∙ does_fit a.under a.depth a.forks (search (rules, length-by)) c.requires c.if-under-depth.true
