-- `write_task` meets its contract.
use Rattle.std.proofs.Common.{ap, get_or}
use Rattle.state.proofs.StateLaws.{task-placed}
use Rattle.state.proofs.writer.write_task.Goals as goal

pub returns : goal.returns
returns c =
    let e = c.status_numbers.ensures in
    task-placed c.args.t.now c.args.out.now _ _ _ _ c.args.at _ _
    (ap (λ xs. get_or xs 0 0) e) (ap (λ xs. get_or xs 1 0) e)
    c.write_numbers.ensures c.write_numbers-2.ensures c.write_numbers-3.ensures c.write_forks.ensures
