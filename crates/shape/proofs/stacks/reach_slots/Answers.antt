-- `reach_slots` meets its contract.
use Rattle.std.proofs.Common.{rules}
use Rattle.image.specs.Layout.{program_of}
use Rattle.task.proofs.Sizes.{length-by}
use Rattle.shape.proofs.ReachLaws.{reach_at, largest_is_reach}
use Rattle.shape.proofs.stacks.reach_slots.Goals as goal

pub returns : goal.returns
returns c =
    let a = c.args in
    largest_is_reach (program_of a.cells.now) a.stacks c.largest.result _ (search (rules, length-by))
    (c.largest.ensures (reach_at (program_of a.cells.now) a.stacks) (λ j r p k. search rules))
