-- `read_program` meets its contract.
use Rattle.std.proofs.Common.{length, sym, ap, ◌∙◌}
use Rattle.std.proofs.lemmas.Result.{err_from_is_err_and}
use Rattle.steps.proofs.program.read_program.Goals as goal
use Rattle.image.specs.Doors.{unless_refused}
use Rattle.state.specs.Numbers.{in_bytes}
use Rattle.steps.proofs.Answers.{call_refused, call_accepted, read_refused, read_too_long, read_accepted}
use Rattle.image.specs.declared.refusal.Refusal.TheVariants.{Buffer}

pub returns-in_err-read : goal.returns-in_err-read
returns-in_err-read c =
    let p = err_from_is_err_and c.from_residual.result c.from_residual.ensures.1 in
    let r = c.in_err-read.field-0.0 in
    let answer = read_refused c.args.image.now (length c.args.program.now) r c.in_err-read.ensures.value in
    rw (p.1, p.2) (record {
      value = answer;
      program_after = call_refused r _ _ answer;
    })

pub returns-then-program-ne-PROGRAM_BYTES : goal.returns-then-program-ne-PROGRAM_BYTES
returns-then-program-ne-PROGRAM_BYTES c =
    let answer = read_too_long c.args.image.now (length c.args.program.now) c.in_ok-read.ensures.value c.if-program-ne-PROGRAM_BYTES.true in
    record {
      value = answer;
      program_after = call_refused Buffer _ _ answer;
    }

pub returns : goal.returns
unfolding unless_refused
returns c =
    let accepted = read_accepted c.args.image.now (length c.args.program.now) c.in_ok-read.ensures.value c.if-program-ne-PROGRAM_BYTES.false in
    record {
      value = sym accepted;
      program_after = call_accepted _ _ _ accepted (c.write_cells.ensures ∙ ap in_bytes c.in_ok-read.ensures.cells_after);
    }
