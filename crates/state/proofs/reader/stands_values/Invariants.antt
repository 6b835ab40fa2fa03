-- What the loop of `stands_values` keeps.
use Rattle.std.proofs.Common.{◌≡◌, ℕ, ◌+◌, ◌*◌, ◌-◌, Bool, List}
use Rattle.task.specs.Formed.{every}
use Rattle.state.specs.Reading.{stands_value}
use Rattle.state.proofs.reader.stands_values.Given as goal

abbrev test : List ℕ → ℕ → ℕ → Bool
test bytes at i = stands_value bytes (at + 24 * i)

abbrev pub invariant-loop-i : goal.invariant-loop-i
invariant-loop-i l = every (test l.bytes l.at) l.n 0 ≡ every (test l.bytes l.at) (l.n - l.i) l.i
