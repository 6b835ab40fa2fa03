-- `ask_start` meets its contract.
use Rattle.std.proofs.Common.{sym, ap, ◌∙◌}
use Rattle.std.proofs.lemmas.Result.{err_from_is_err_and}
use Rattle.machine.specs.Starting.{start_no_by, settings_no}
use Rattle.steps.proofs.starting.ask_start.Goals as goal
use Rattle.image.proofs.Asked.{or_else_yes}
use Rattle.image.proofs.Refusals.{no_decides}
use Rattle.steps.proofs.Answers.{count-cells}

pub returns-in_err-ask_cells : goal.returns-in_err-ask_cells
unfolding start_no_by
returns-in_err-ask_cells c =
    let p = err_from_is_err_and c.from_residual.result c.from_residual.ensures.1 in
    rw (p.1, p.2) (sym (no_decides c.in_err-ask_cells.field-0.0 _ _ c.in_err-ask_cells.ensures))

pub returns : goal.returns
unfolding start_no_by
returns c =
    let a = c.args in
    c.ask_settings.ensures
    ∙ ap (settings_no a.places a.interval a.registers a.words) (sym (count-cells a.program.now))
    ∙ sym (or_else_yes _ _ (sym c.in_ok-ask_cells.ensures))
