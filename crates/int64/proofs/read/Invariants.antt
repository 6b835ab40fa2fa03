-- What the loop of `int64::read` keeps: the last i bytes' number.
use Rattle.std.proofs.Common.{◌+◌, ◌-◌}
use Rattle.int64.specs.Little.{NumberAt}
use Rattle.int64.proofs.read.Given as goal

abbrev pub invariant-loop-i : goal.invariant-loop-i
invariant-loop-i g l = NumberAt l.i l.bytes (l.at + (l.i-end - l.i)) l.x
