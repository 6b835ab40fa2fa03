-- `counts_fit` meets its contract.
use Rattle.std.proofs.Common.{◌&&◌, ◌∙◌, leb, rules}
use Rattle.task.specs.declared.Task.{Task}
use Rattle.task.specs.Frames.{no_task}
use Rattle.task.proofs.Sizes.{length-by}
use Rattle.shape.proofs.AllLaws.{every_of_all}
use Rattle.shape.proofs.tasks.counts_fit.Goals as goal

pub returns : goal.returns
returns c = λ registers stack.
    let a = c.args in
    c.all_within.ensures ∙ every_of_all (λ (t : Task). leb t.counter a.work && leb t.span a.work) no_task a.tasks 64 (search (rules, length-by))
