-- What the loop of `is_rising` keeps.
use mathlib.Core.Path.{◌≡◌}
use Prim.Native.Nat.{◌+◌, ◌-◌}
use Rattle.image.specs.Questions.{rising}
use Rattle.image.proofs.questions.is_rising.Given as goal

abbrev pub invariant-loop-pair : goal.invariant-loop-pair
invariant-loop-pair l = rising l.pairs l.packed ≡ rising (l.pairs + 1 - l._pair) l.rest
