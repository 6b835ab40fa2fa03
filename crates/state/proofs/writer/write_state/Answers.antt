-- `write_state` meets its contract.
use Rattle.state.proofs.StateLaws.{state_placed}
use Rattle.state.proofs.writer.write_state.Goals as goal

pub returns : goal.returns
returns c = state_placed c.args.m.now c.args.out.now _ _ c.requires c.write_numbers.ensures c.write_slots.ensures
