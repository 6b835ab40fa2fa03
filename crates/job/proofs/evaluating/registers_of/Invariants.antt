-- What the loop of `registers_of` keeps.
use mathlib.Core.Path.{◌≡◌}
use Prim.Native.Nat.{ℕ, ◌<◌}
use lib.ListN.{length, get_or}
use Rattle.task.specs.Frames.{zero_register}
use Rattle.job.proofs.PlainRun.{register_at}
use Rattle.job.proofs.evaluating.registers_of.Given as goal

abbrev pub invariant-loop-i : goal.invariant-loop-i
invariant-loop-i l =
    (length l.r-items ≡ 16) × ((j : ℕ) → j < l.i → get_or l.r-items j zero_register ≡ register_at l.rows.nums l.rows.kinds j)
