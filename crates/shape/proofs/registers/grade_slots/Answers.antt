-- `grade_slots` meets its contract.
use Rattle.std.proofs.Common.{rules}
use Rattle.image.specs.Layout.{program_of}
use Rattle.task.proofs.Sizes.{length-by}
use Rattle.shape.proofs.GradeLaws.{grade_at, largest_is_grade}
use Rattle.shape.proofs.registers.grade_slots.Goals as goal

pub returns : goal.returns
returns c =
    let a = c.args in
    largest_is_grade (program_of a.cells.now) a.bank c.largest.result _ (search (rules, length-by))
    (c.largest.ensures (grade_at (program_of a.cells.now) a.bank) (λ j r p k. search rules))
