-- What the loop of `read_integers` keeps.
use Rattle.std.proofs.Common.{◌≡◌}
use lib.Seq.{sets}
use Rattle.state.specs.Numbers.{integers_in}
use Rattle.state.proofs.numbers.read_integers.Given as goal

abbrev pub invariant-loop-i : goal.invariant-loop-i
invariant-loop-i l = l.out ≡ sets l.initial.out 0 (integers_in l.bytes l.at l.i)
