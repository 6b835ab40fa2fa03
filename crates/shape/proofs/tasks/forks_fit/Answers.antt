-- `forks_fit` meets its contract.
use Rattle.std.proofs.Common.{ℕ, Bool, List, get_or, ltb, sym, ◌∙◌, rules}
use Rattle.image.specs.Layout.{program_of}
use Rattle.image.specs.Program.{Program}
use Rattle.task.specs.declared.Fork.{Fork}
use Rattle.task.specs.Frames.{zero_fork}
use Rattle.task.specs.Formed.{fork_fits}
use Rattle.task.proofs.EveryLaws.{every-goes-on, every-stops, every-ends}
use Rattle.task.proofs.Sizes.{length-by}
use Rattle.shape.proofs.tasks.forks_fit.Goals as goal

abbrev fits : Program → ℕ → List Fork → ℕ → Bool
fits program depth forks i = fork_fits program (ltb i depth) (get_or forks i zero_fork)

pub returns-then-not-fork_fits : goal.returns-then-not-fork_fits
returns-then-not-fork_fits c =
    let a = c.args in
    let l = c.loop-i in
    let closed = every-stops (fits (program_of a.cells.now) a.depth a.forks) 6 l.i c.loop-i-test.true (sym c.fork_fits.ensures ∙ c.if-not-fork_fits.true) in
    (sym (l.invariant ∙ closed), search (rules, length-by))

pub loop-i-preserved : goal.loop-i-preserved
loop-i-preserved c =
    let a = c.args in
    let l = c.loop-i in
    l.invariant
    ∙ every-goes-on (fits (program_of a.cells.now) a.depth a.forks) 6 l.i c.loop-i-test.true (sym c.fork_fits.ensures ∙ c.if-not-fork_fits.false)

pub returns : goal.returns
returns c =
    let a = c.args in
    let l = c.loop-i in
    (sym (l.invariant ∙ every-ends (fits (program_of a.cells.now) a.depth a.forks) 6 l.i c.loop-i-test.false), search (rules, length-by))
