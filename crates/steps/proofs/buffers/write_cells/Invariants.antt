-- What the loop of `write_cells` keeps.
use mathlib.Core.Path.{◌≡◌}
use Prim.Native.Nat.{◌≤◌}
use lib.ListN.{length, take}
use lib.Seq.{sets}
use Rattle.state.specs.Numbers.{in_bytes}
use Rattle.steps.proofs.buffers.write_cells.Given as goal

abbrev pub invariant-loop-i : goal.invariant-loop-i
invariant-loop-i l = (l.i ≤ length l.cells) × (length l.out ≡ length l.initial.out) × (l.out ≡ sets l.initial.out 0 (in_bytes (take l.i l.cells)))
