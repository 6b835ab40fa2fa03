-- `run_on` meets its contract.
use Rattle.std.proofs.Common.{◌∙◌}
use Rattle.steps.proofs.going.run_on.Goals as goal
use Rattle.steps.proofs.Cells.{program_read, integers_read}

pub returns : goal.returns
returns c =
    let a = c.args in
    let cells = c.read_cells.ensures ∙ program_read a.program.now c.requires.0 in
    let held = c.read_integers.ensures ∙ integers_read a.words.now _ c.requires.1 in
    rw (← cells, ← held) c.run.ensures
