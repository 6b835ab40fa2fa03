-- What the loop over the slots leaves of a state, along each course.
use Rattle.std.specs.Prelude.{Bool, true, ◌&&◌, List, ℕ, ltb, leb, ℤ}
use Rattle.turns.specs.declared.course.Course.{Course}
use Rattle.turns.specs.declared.course.Course.TheVariants.{Passes, Listed, Rounds}
use Rattle.drive.specs.declared.State.{State}
use Rattle.drive.specs.Driven.{Driven}
use Rattle.drive.specs.Courses.{Run}
use Rattle.drive.specs.Passes.{run_from}
use Rattle.drive.specs.Listing.{list_from}
use Rattle.drive.specs.Rounds.{Rounding, rounds_from}

-- passes begin at a slot of the state, and a round has 1 to 8 lanes
abbrev pub starts_in : Course → State → Bool
starts_in (Passes slot picks) m = ltb slot m.places
starts_in Listed m = true
starts_in (Rounds lanes budget) m = ltb 0 lanes && leb lanes 8

abbrev pub left : {C : Type 0} → Run C → Driven
left r = record { state = r.state; picks = r.picks; rounds = 0 }

abbrev pub left_rounds : Run Rounding → Driven
left_rounds r = record { state = r.state; picks = r.picks; rounds = r.kept.done }

abbrev pub driven : List ℕ → List ℤ → State → List ℕ → Course → Driven
driven cells words m order (Passes slot picks) = left (run_from cells words m slot picks)
driven cells words m order Listed = left (list_from cells words m order)
driven cells words m order (Rounds lanes budget) = left_rounds (rounds_from cells words m lanes budget)
