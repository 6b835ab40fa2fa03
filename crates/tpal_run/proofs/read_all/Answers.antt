-- One more read: what it put into the buffer comes after what stood there.
use Rattle.std.proofs.Common.{arith}
use Rattle.tpal_run.proofs.Reading.{one_more}
use Rattle.tpal_run.proofs.read_all.Goals as goal

pub loop-done-preserved : goal.loop-done-preserved
loop-done-preserved g c = record {
  room = omega (arith, c.in_ok-more.ensures.room);
  same_length = omega arith;
  bytes = one_more _ _ _ _ _ _ _ c.in_ok-more.ensures.kept c.loop-done.invariant.bytes c.in_ok-more.ensures.bytes;
}
