-- `write_program` meets its contract.
use Rattle.std.proofs.Common.{length, sym, ◌∙◌}
use Rattle.std.proofs.lemmas.Result.{err_from_is_err_and}
use Rattle.steps.proofs.program.write_program.Goals as goal
use Rattle.image.specs.declared.refusal.Refusal.TheVariants.{Buffer}
use Rattle.steps.proofs.Cells.{program_read}
use Rattle.steps.proofs.Answers.{call_refused, write_refused, write_too_long, write_answered}

pub returns-in_err-ask_cells : goal.returns-in_err-ask_cells
returns-in_err-ask_cells c =
    let p = err_from_is_err_and c.from_residual.result c.from_residual.ensures.1 in
    let r = c.in_err-ask_cells.field-0.0 in
    let answer = write_refused c.args.program.now (length c.args.image.now) r c.in_err-ask_cells.ensures in
    rw (p.1, p.2) (record {
      value = answer;
      image_after = call_refused r _ _ answer;
    })

pub returns-then-program-ne-PROGRAM_BYTES : goal.returns-then-program-ne-PROGRAM_BYTES
returns-then-program-ne-PROGRAM_BYTES c =
    let a = c.args in
    let answer = write_too_long a.program.now (length a.image.now) (sym c.in_ok-ask_cells.ensures) c.if-program-ne-PROGRAM_BYTES.true in
    record {
      value = answer;
      image_after = call_refused Buffer _ _ answer;
    }

pub returns : goal.returns
returns c =
    let a = c.args in
    let whole = c.if-program-ne-PROGRAM_BYTES.false in
    let read = c.read_cells.ensures ∙ program_read a.program.now whole in
    let answer = write_answered a.program.now _ a.image.now _ _ whole read c.write.ensures.value c.write.ensures.image_after in
    record {
      value = answer.0;
      image_after = answer.1;
    }
