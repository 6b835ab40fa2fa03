-- What the loop of `stands_slots` keeps.
use Rattle.std.proofs.Common.{◌≡◌, ℕ, ◌-◌, Bool, List}
use Rattle.task.specs.Formed.{every}
use Rattle.state.specs.Places.{slot_place}
use Rattle.state.specs.Reading.{stands_slot}
use Rattle.state.proofs.reader.stands_slots.Given as goal

abbrev test : List ℕ → ℕ → Bool
test bytes k = stands_slot bytes (slot_place k)

abbrev pub invariant-loop-k : goal.invariant-loop-k
invariant-loop-k l = every (test l.bytes) 64 0 ≡ every (test l.bytes) (64 - l.k) l.k
