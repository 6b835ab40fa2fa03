-- What the loop of `code_slots` keeps.
use Rattle.std.proofs.Common.{◌≡◌, ℕ, ◌<◌, length, get_or}
use Rattle.image.specs.Layout.{program_of}
use Rattle.task.specs.Frames.{no_task}
use Rattle.shape.specs.Codes.{Answers, code_of}
use Rattle.shape.proofs.slots.code_slots.Given as goal

abbrev pub invariant-loop-k : goal.invariant-loop-k
invariant-loop-k l =
    (length l.codes ≡ 64)
    × ((j : ℕ) → j < l.k
    → Answers (program_of l.cells) (code_of (program_of l.cells) l.rank) (get_or l.tasks j no_task) (get_or l.grades j 0) (get_or l.reaches j 0) (get_or l.codes j 0))
