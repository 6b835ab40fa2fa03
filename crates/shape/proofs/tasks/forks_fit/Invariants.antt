-- What the loop of `forks_fit` keeps.
use Rattle.std.proofs.Common.{◌≡◌, ◌-◌, ltb, get_or}
use Rattle.image.specs.Layout.{program_of}
use Rattle.task.specs.Frames.{zero_fork}
use Rattle.task.specs.Formed.{every, fork_fits}
use Rattle.shape.proofs.tasks.forks_fit.Given as goal

abbrev pub invariant-loop-i : goal.invariant-loop-i
invariant-loop-i l =
    every (λ i. fork_fits (program_of l.cells) (ltb i l.depth) (get_or l.fn.forks i zero_fork)) 6 0
    ≡ every (λ i. fork_fits (program_of l.cells) (ltb i l.depth) (get_or l.fn.forks i zero_fork)) (6 - l.i) l.i
