-- What the loop of `ask_blocks` keeps.
use mathlib.Core.Path.{◌≡◌}
use Prim.Native.Nat.{◌-◌}
use Rattle.image.specs.Questions.{first_no, block_no}
use Rattle.image.specs.Layout.{block_count}
use Rattle.image.specs.Marks.{Marked}
use Rattle.image.proofs.questions.ask_blocks.Given as goal

abbrev pub invariant-loop-b : goal.invariant-loop-b
invariant-loop-b l = (first_no (block_no l.cells) (block_count l.cells) 0 ≡ first_no (block_no l.cells) (block_count l.cells - l.b) l.b) × Marked l.cells l.b l.marks
