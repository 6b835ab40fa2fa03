-- `read` meets its contract.
use Rattle.image.specs.Doors.{image_no, read_no, unless_refused}
use Rattle.image.proofs.reader.read.Goals as goal
use mathlib.Core.Path.{refl, sym, ◌∙◌}
use borrow.Author.Tests.{eq-eqb, ne_eqb}
use Rattle.std.proofs.lemmas.Result.{err_from_is_err_and}
use Rattle.image.proofs.Asked.{or_else_yes}
use Rattle.image.proofs.Refusals.{no_decides, refused_keeps}
use Rattle.image.proofs.Walked.{scanned-accepted}

pub returns-in_err-scan : goal.returns-in_err-scan
unfolding read_no
returns-in_err-scan c =
    let p = err_from_is_err_and c.from_residual.result c.from_residual.ensures.1 in
    let refusal = c.in_err-scan.field-0.0 in
    rw (p.1, p.2) (record {
      value = sym (no_decides refusal _ _ c.in_err-scan.ensures.value);
      cells_after = sym (refused_keeps refusal _ _);
    })

pub returns-then-cells-ne-PROGRAM_CELLS : goal.returns-then-cells-ne-PROGRAM_CELLS
unfolding read_no unless_refused
returns-then-cells-ne-PROGRAM_CELLS c =
    let no = image_no c.args.image.now in
    record {
      value = sym (or_else_yes no _ (sym c.in_ok-scan.ensures.value) ∙ rw (ne_eqb _ _ c.if-cells-ne-PROGRAM_CELLS.true));
      cells_after = refl;
    }

pub returns : goal.returns
unfolding read_no unless_refused
returns c =
    let image = c.args.image.now in
    let accepted = sym c.in_ok-scan.ensures.value in
    record {
      value = sym (or_else_yes (image_no image) _ accepted ∙ rw (eq-eqb _ _ c.if-cells-ne-PROGRAM_CELLS.false));
      cells_after = c.copy_from_slice.ensures.after ∙ c.in_ok-scan.ensures.cells_after ∙ scanned-accepted image accepted;
    }
