-- What the loop of `write_numbers` keeps.
use Rattle.std.proofs.Common.{◌≡◌, take}
use lib.Seq.{sets}
use Rattle.state.specs.Numbers.{in_bytes}
use Rattle.state.proofs.numbers.write_numbers.Given as goal

abbrev pub invariant-loop-i : goal.invariant-loop-i
invariant-loop-i g l = l.out ≡ sets l.initial.out l.at (in_bytes (take l.i l.n-items))
