-- What the loop of `next_listed` keeps: what is listed from the loop's place on has the same next slot as all that was left; and where nothing was
-- left, it stays where it began.
use Rattle.std.proofs.Common.{◌≡◌, ◌≤◌, length, drop}
use Rattle.turns.specs.Stretches.{next_listed}
use Rattle.turns.proofs.course.next_listed.Given as goal

abbrev pub invariant-loop-at : goal.invariant-loop-at
invariant-loop-at l =
    (next_listed (drop l.begun l.order) l.begun l.places l.work ≡ next_listed (drop l.at l.order) l.at l.places l.work)
    × (length l.order ≤ l.begun → l.at ≡ l.begun)
