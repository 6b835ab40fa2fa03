-- What the loop of `read_forks` keeps.
use Rattle.std.proofs.Common.{ℕ, ◌+◌, ◌*◌, List}
use Rattle.task.specs.declared.Fork.{Fork}
use Rattle.state.specs.Reading.{fork_in}
use Rattle.state.proofs.Filling.{Filled}
use Rattle.state.proofs.reader.read_forks.Given as goal

abbrev entry : List ℕ → ℕ → ℕ → Fork
entry bytes at i = fork_in bytes (at + 16 * i)

abbrev pub invariant-loop-i : goal.invariant-loop-i
invariant-loop-i l = Filled (entry l.bytes l.at) 6 l.i l.f-items
