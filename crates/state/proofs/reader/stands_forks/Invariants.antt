-- What the loop of `stands_forks` keeps.
use Rattle.std.proofs.Common.{◌≡◌, ℕ, ◌+◌, ◌*◌, ◌-◌, Bool, List}
use Rattle.task.specs.Formed.{every}
use Rattle.state.specs.Reading.{stands_fork}
use Rattle.state.proofs.reader.stands_forks.Given as goal

abbrev test : List ℕ → ℕ → ℕ → Bool
test bytes at i = stands_fork bytes (at + 16 * i)

abbrev pub invariant-loop-i : goal.invariant-loop-i
invariant-loop-i l = every (test l.bytes l.at) 6 0 ≡ every (test l.bytes l.at) (6 - l.i) l.i
