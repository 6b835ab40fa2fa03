-- `write` meets its contract.
use Rattle.image.specs.Doors.{write_no, unless_refused}
use Rattle.image.proofs.writer.write.Goals as goal
use mathlib.Core.Path.{refl, sym, ◌∙◌}
use borrow.Author.Tests.{eq-eqb, ne_eqb}
use Rattle.std.proofs.lemmas.Result.{err_from_is_err_and}
use Rattle.image.proofs.Asked.{or_else_yes}
use Rattle.image.proofs.Refusals.{no_decides, refused_keeps}
use Rattle.image.proofs.Counts.{counted, program-counted}
use Rattle.image.specs.Questions.{program_no}

pub returns-in_err-ask_program : goal.returns-in_err-ask_program
unfolding write_no
returns-in_err-ask_program c =
    let p = err_from_is_err_and c.from_residual.result c.from_residual.ensures.1 in
    let refusal = c.in_err-ask_program.field-0.0 in
    rw (p.1, p.2) (record {
      value = sym (no_decides refusal _ _ c.in_err-ask_program.ensures);
      image_after = sym (refused_keeps refusal _ _);
    })

pub returns-then-cells-ne-PROGRAM_CELLS : goal.returns-then-cells-ne-PROGRAM_CELLS
unfolding write_no unless_refused
returns-then-cells-ne-PROGRAM_CELLS c =
    record {
      value = sym (or_else_yes (program_no c.args.cells.now) _ (sym c.in_ok-ask_program.ensures) ∙ rw (ne_eqb _ _ c.if-cells-ne-PROGRAM_CELLS.true));
      image_after = refl;
    }

pub image_length-size-requires : goal.image_length-size-requires
image_length-size-requires c =
    let cells = c.args.cells.now in
    let k = counted _ _ (program-counted cells (sym c.in_ok-ask_program.ensures)) in
    (k.blocks_fit, k.instructions_fit)

pub returns-then-image-size : goal.returns-then-image-size
unfolding write_no unless_refused
returns-then-image-size c =
    let cells = c.args.cells.now in
    record {
      value = sym (or_else_yes (program_no cells) _ (sym c.in_ok-ask_program.ensures)
          ∙ rw (eq-eqb _ _ c.if-cells-ne-PROGRAM_CELLS.false, ← c.image_length-size.ensures, ne_eqb _ _ c.if-image-size.true));
      image_after = refl;
    }

pub encode-requires : goal.encode-requires
encode-requires c = (
  c.if-cells-ne-PROGRAM_CELLS.false,
  program-counted c.args.cells.now (sym c.in_ok-ask_program.ensures),
  c.if-image-size.false ∙ c.image_length-size.ensures,
)

pub returns : goal.returns
unfolding write_no unless_refused
returns c =
    let cells = c.args.cells.now in
    record {
      value = sym (or_else_yes (program_no cells) _ (sym c.in_ok-ask_program.ensures)
          ∙ rw (eq-eqb _ _ c.if-cells-ne-PROGRAM_CELLS.false, ← c.image_length-size.ensures, eq-eqb _ _ c.if-image-size.false));
      image_after = c.encode.ensures;
    }
