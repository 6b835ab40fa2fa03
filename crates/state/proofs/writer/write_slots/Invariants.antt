-- What the loop of `write_slots` keeps.
use Rattle.std.proofs.Common.{ℕ, List}
use Rattle.drive.specs.declared.State.{State}
use Rattle.state.specs.Numbers.{in_bytes}
use Rattle.state.specs.State.{slot_numbers}
use Rattle.state.proofs.Laying.{Laid}
use Rattle.state.proofs.writer.write_slots.Given as goal

abbrev slots_bytes : State → ℕ → List ℕ
slots_bytes m k = in_bytes (slot_numbers m k)

abbrev pub invariant-loop-k : goal.invariant-loop-k
invariant-loop-k l = Laid (slots_bytes l.m) 64 l.initial.out 24 l.k l.out
