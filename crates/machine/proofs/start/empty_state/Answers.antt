-- `empty_state` meets its contract.
use Rattle.machine.proofs.start.empty_state.Goals as goal

pub returns : goal.returns
returns c = rw c.vacant_task-vacant.ensures
