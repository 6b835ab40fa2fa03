-- Two parts of the shape test, by name.
use mathlib.Core.Bool.{Bool}
use Prim.Native.Nat.{ℕ}
use Rattle.agreement.specs.Shape.{Tests}
use Rattle.image.specs.Program.{Program}
use Rattle.task.specs.declared.Frame.{Frame}
use Rattle.task.specs.Formed.{every, formed, is_vacant, within}
use Rattle.drive.specs.declared.State.{State}
use Rattle.drive.specs.Slots.{at}

-- the tests of one slot's frame, in a job of 2 ^ D places
abbrev pub tests_of : Program → ℕ → Tests Frame
tests_of program D = record { is_vacant = is_vacant; is_formed = formed program D }

-- each slot's counter and span are at most the work
abbrev pub counts_fit : State → Bool
counts_fit m = every (λ i. within m.work (at m i)) 64 0
