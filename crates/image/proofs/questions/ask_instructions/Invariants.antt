-- What the loop of `ask_instructions` keeps.
use mathlib.Core.Path.{◌≡◌}
use Prim.Native.Nat.{◌-◌}
use Rattle.image.specs.Layout.{instruction_count}
use Rattle.image.specs.Questions.{first_no, instruction_no}
use Rattle.image.proofs.questions.ask_instructions.Given as goal

abbrev pub invariant-loop-i : goal.invariant-loop-i
invariant-loop-i l = first_no (instruction_no l.cells) (instruction_count l.cells) 0 ≡ first_no (instruction_no l.cells) (instruction_count l.cells - l.i) l.i
