-- What the loop of `largest` keeps.
use Rattle.std.proofs.Common.{◌≡◌, ℕ, ◌/◌, ◌%◌, ◌<◌, length, get_or}
use Rattle.task.specs.Frames.{zero_register}
use Rattle.shape.specs.Codes.{LargestSlots}
use Rattle.shape.proofs.marks.largest.Given as goal

abbrev pub invariant-loop-j : goal.invariant-loop-j
invariant-loop-j g l = (of : ℕ → ℕ)
    → ((j r : ℕ) → j < length l.all → goal.F-post g l.mark (get_or l.all j zero_register).value (j % g.row.WIDTH) r → r ≡ of j)
    → LargestSlots (λ j. j / g.row.WIDTH) of l.j l.marks
