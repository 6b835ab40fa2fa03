-- What the loop of `bits_of` keeps.
use mathlib.Core.Path.{◌≡◌}
use Prim.Native.Nat.{ℕ, ◌<◌}
use mir.Syntax.{w64}
use mir.Val.{to_z}
use lib.IntN.{pos}
use lib.ListN.{length, get_or}
use Rattle.job.proofs.evaluating.bits_of.Given as goal

abbrev pub invariant-loop-i : goal.invariant-loop-i
invariant-loop-i l =
    (length l.nums ≡ length l.initial.nums) × ((j : ℕ) → j < l.i → to_z w64 (get_or l.nums j 0) ≡ get_or l.registers j (pos 0))
