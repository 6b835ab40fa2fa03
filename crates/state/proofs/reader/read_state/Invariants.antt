-- What the loop of `read_state` keeps.
use Rattle.state.proofs.SlotsRead.{SlotsRead}
use Rattle.state.proofs.reader.read_state.Given as goal

abbrev pub invariant-loop-k : goal.invariant-loop-k
invariant-loop-k l = SlotsRead l.bytes l.k l.m
