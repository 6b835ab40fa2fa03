-- The shape test of question 20, for the program handed in.
use Rattle.std.specs.Prelude.{Bool, ◌&&◌}
use Rattle.agreement.specs.Shape.{shaped}
use Rattle.image.specs.Program.{Program}
use Rattle.task.specs.Formed.{every, formed, is_vacant, within}
use Rattle.drive.specs.declared.State.{State}
use Rattle.drive.specs.Slots.{at, slots_of}
use Rattle.drive.specs.Settings.{rank, places_allowed, interval_allowed}

-- P and the interval are allowed; the live tasks tile the slots below P, no two sides of one fork have both ended, and all other slots are
-- vacant; each slot's counter and span are at most the work
unfoldable pub shape : Program → State → Bool
shape program m =
    let D = rank m.places in
    places_allowed m.places
    && (interval_allowed m.interval
    && (shaped (slots_of program) (record { is_vacant = is_vacant; is_formed = formed program D }) D m
    && every (λ i. within m.work (at m i)) 64 0))
