-- `start` meets its contract.
use Rattle.std.proofs.Common.{length, sym, ap, ◌∙◌}
use Rattle.std.proofs.lemmas.Result.{err_from_is_err_and}
use Rattle.steps.proofs.starting.start.Goals as goal
use Rattle.image.specs.declared.refusal.Refusal.TheVariants.{Buffer}
use Rattle.image.specs.Refusals.{no_of}
use Rattle.machine.specs.Starting.{started}
use Rattle.state.specs.State.{state_bytes}
use Rattle.steps.specs.Buffers.{cells_of, integers_of}
use Rattle.steps.proofs.Answers.{call_refused, call_accepted}
use Rattle.steps.proofs.StartAnswers.{Fit, fit, counts-asked, start-refused, start_too_long, start-whole}

pub returns-in_err-ask_start : goal.returns-in_err-ask_start
returns-in_err-ask_start c =
    let a = c.args in
    let p = err_from_is_err_and c.from_residual.result c.from_residual.ensures.1 in
    let r = c.in_err-ask_start.field-0.0 in
    let asked = c.in_err-ask_start.ensures ∙ counts-asked a.program.now a.places a.interval a.registers.now a.words.now (length a.lent.now) in
    let answer = start-refused a.program.now a.places a.interval a.registers.now a.words.now (length a.lent.now) r asked in
    rw (p.1, p.2) (record {
      value = answer;
      lent_after = call_refused r _ _ answer;
    })

pub returns-then-not-lengths_fit : goal.returns-then-not-lengths_fit
returns-then-not-lengths_fit c =
    let a = c.args in
    let asked = c.in_ok-ask_start.ensures ∙ counts-asked a.program.now a.places a.interval a.registers.now a.words.now (length a.lent.now) in
    let long = sym c.lengths_fit.ensures ∙ c.if-not-lengths_fit.true in
    let answer = start_too_long a.program.now a.places a.interval a.registers.now a.words.now (length a.lent.now) (sym asked) long in
    record {
      value = answer;
      lent_after = call_refused Buffer _ _ answer;
    }

pub returns-in_err-answer : goal.returns-in_err-answer
returns-in_err-answer c =
    let a = c.args in
    let p = err_from_is_err_and c.from_residual-in_err-answer.result c.from_residual-in_err-answer.ensures.1 in
    let r = c.in_err-answer.field-0.0 in
    let answer = start-refused a.program.now a.places a.interval a.registers.now a.words.now (length a.lent.now) r
    (ap no_of (sym c.in_err-answer.was) ∙ c.start_on-answer.ensures.value) in
    rw (p.1, p.2) (record {
      value = answer;
      lent_after = call_refused r _ _ answer;
    })

pub returns : goal.returns
returns c =
    let a = c.args in
    let f : Fit a.program.now a.registers.now a.words.now (length a.lent.now) =
    fit a.program.now a.registers.now a.words.now (length a.lent.now) (sym c.lengths_fit.ensures ∙ c.if-not-lengths_fit.false) in
    let made = c.start_on-answer.ensures in
    let accepted = start-whole a.program.now a.places a.interval a.registers.now a.words.now (length a.lent.now) f ∙ sym made.value ∙ ap no_of c.in_ok-answer.was in
    let state =
    made.state_value
    ∙ ap (λ m. started m (cells_of a.program.now) a.places a.interval (integers_of a.registers.now) (integers_of a.words.now)) c.blank.ensures in
    record {
      value = sym accepted;
      lent_after = call_accepted _ _ _ accepted (c.write_state.ensures ∙ ap state_bytes state);
    }
