-- What the loop of `write_forks` keeps.
use Rattle.std.proofs.Common.{ℕ, List, get_or}
use Rattle.task.specs.declared.Fork.{Fork}
use Rattle.task.specs.Frames.{zero_fork}
use Rattle.state.specs.Numbers.{in_bytes}
use Rattle.state.specs.State.{fork_numbers}
use Rattle.state.proofs.Laying.{Laid}
use Rattle.state.proofs.writer.write_forks.Given as goal

abbrev fork_bytes : List Fork → ℕ → List ℕ
fork_bytes forks i = in_bytes (fork_numbers (get_or forks i zero_fork))

abbrev pub invariant-loop-i : goal.invariant-loop-i
invariant-loop-i l = Laid (fork_bytes l.forks) 6 l.initial.out l.at l.i l.out
