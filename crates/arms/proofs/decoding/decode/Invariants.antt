-- What the loop of `decode` keeps.
use mathlib.Core.Path.{◌≡◌}
use Prim.Native.Nat.{ℕ, ◌<◌}
use lib.ListN.{length}
use Rattle.arms.specs.Code.{DecodedAt}
use Rattle.arms.proofs.decoding.decode.Given as goal

abbrev pub invariant-loop-i : goal.invariant-loop-i
invariant-loop-i l =
    (length l.code ≡ length l.initial.code) × ((j : ℕ) → j < l.i → DecodedAt l.program.cells.now l.code j)
