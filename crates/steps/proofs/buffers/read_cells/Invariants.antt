-- What the loop of `read_cells` keeps.
use Prim.Native.Nat.{ℕ, ◌*◌}
use lib.ListN.{length}
use Rattle.state.specs.Reading.{number_at}
use Rattle.state.proofs.Filling.{Filled}
use Rattle.steps.proofs.buffers.read_cells.Given as goal

abbrev pub invariant-loop-i : goal.invariant-loop-i
invariant-loop-i l = Filled (λ (k : ℕ). number_at l.bytes (8 * k)) (length l.initial.out) l.i l.out
