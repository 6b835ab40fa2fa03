-- `ask_program` meets its contract.
use Rattle.image.specs.Layout.{block_count, instruction_count}
use Rattle.image.specs.Questions.{counts_no, records_no, program_no}
use Rattle.image.proofs.questions.ask_program.Goals as goal
use mathlib.Core.Path.{sym, ◌∙◌}
use Rattle.image.proofs.Refusals.{exit_decides}
use Rattle.image.proofs.Asked.{or_else_yes}
use Rattle.image.proofs.Counts.{version-passes, empty-buffer, short-buffer}

pub returns-then-cells-lt1 : goal.returns-then-cells-lt1
returns-then-cells-lt1 c = sym (empty-buffer c.args.cells.now c.if-cells-lt1.true)

pub returns-in_err-ask_version : goal.returns-in_err-ask_version
unfolding program_no
returns-in_err-ask_version c = exit_decides c.from_residual.result c.in_err-ask_version.field-0.0 _ _ c.from_residual.ensures.1 c.in_err-ask_version.ensures

pub returns-then-cells-lt3 : goal.returns-then-cells-lt3
returns-then-cells-lt3 c = sym (short-buffer c.args.cells.now (sym c.in_ok-ask_version.ensures) c.if-cells-lt3.true)

pub returns-in_err-ask_counts : goal.returns-in_err-ask_counts
returns-in_err-ask_counts c =
    let cells = c.args.cells.now in
    exit_decides c.from_residual-in_err-ask_counts.result c.in_err-ask_counts.field-0.0 _ (records_no cells) c.from_residual-in_err-ask_counts.ensures.1 c.in_err-ask_counts.ensures
    ∙ sym (version-passes cells (sym c.in_ok-ask_version.ensures))

pub returns : goal.returns
returns c =
    let cells = c.args.cells.now in
    let known = sym c.in_ok-ask_version.ensures in
    c.ask_records.ensures ∙ sym (version-passes cells known
    ∙ or_else_yes (counts_no (block_count cells) (instruction_count cells)) (records_no cells) (sym c.in_ok-ask_counts.ensures))
