-- `start_on` meets its contract.
use Rattle.std.proofs.Common.{◌∙◌}
use Rattle.steps.proofs.starting.start_on.Goals as goal
use Rattle.steps.proofs.Cells.{program_read, integers_read}

pub returns : goal.returns
returns c =
    let a = c.args in
    let p = c.requires in
    let cells = c.read_cells.ensures ∙ program_read a.program.now p.0 in
    let first = c.read_integers.ensures ∙ integers_read a.registers.now 16 p.1 in
    let held = c.read_integers-2.ensures ∙ integers_read a.words.now _ p.2 in
    rw (← cells, ← first, ← held) c.start.ensures
