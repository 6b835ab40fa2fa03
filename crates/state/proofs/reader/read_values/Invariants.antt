-- What the loop of `read_values` keeps.
use Rattle.std.proofs.Common.{ℕ, ◌+◌, ◌*◌, List, length}
use Rattle.task.specs.declared.Register.{Register}
use Rattle.state.specs.Reading.{register_in}
use Rattle.state.proofs.Filling.{Filled}
use Rattle.state.proofs.reader.read_values.Given as goal

abbrev entry : List ℕ → ℕ → ℕ → Register
entry bytes at i = register_in bytes (at + 24 * i)

abbrev pub invariant-loop-i : goal.invariant-loop-i
invariant-loop-i l = Filled (entry l.bytes l.at) (length l.initial.values) l.i l.values
