-- What the loops of `frame_at` keep: i elements are copied, registers, and then a stack's values.
use Rattle.std.proofs.Common.{◌≡◌, ℕ, ◌*◌, List}
use Rattle.std.proofs.lemmas.List.Edits.{sets}
use Rattle.task.specs.declared.Register.{Register}
use Rattle.task.specs.Frames.{zero_register, zeros, empty_stack}
use Rattle.task.specs.Stretches.{reads}
use Rattle.drive.proofs.slots.frame_at.Given as goal

abbrev pub Copied : List Register → List Register → ℕ → ℕ → List Register → Type 0
Copied empty from a i l = l ≡ sets empty 0 (reads zero_register from a i)

abbrev pub invariant-loop-i : goal.invariant-loop-i
invariant-loop-i l = Copied zeros l.m.bank (16 * l.k) l.i l.registers

abbrev pub invariant-loop-j : goal.invariant-loop-j
invariant-loop-j l = Copied empty_stack l.m.stacks (32 * l.k) l.j l.stack
