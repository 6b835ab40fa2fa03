-- `run` meets its contract.
use Rattle.std.proofs.Common.{length, sym, ap, ◌∙◌}
use Rattle.std.proofs.lemmas.Result.{err_from_is_err_and}
use Rattle.steps.proofs.going.run.Goals as goal
use Rattle.image.proofs.Refusals.{no_decides}
use Rattle.report.specs.Report.{report_of, report_bytes}
use Rattle.state.specs.State.{state_bytes}
use Rattle.machine.specs.Running.{outcome, outcome_of}
use Rattle.steps.specs.Buffers.{cells_of, integers_of}
use Rattle.steps.specs.Calls.{ran_no, lent_no, is_ready}
use Rattle.steps.proofs.Answers.{call_refused, call_accepted}
use Rattle.steps.proofs.LentAnswers.{run_number, when_ready}

pub returns-in_err-ask_lent : goal.returns-in_err-ask_lent
unfolding ran_no
returns-in_err-ask_lent c =
    let p = err_from_is_err_and c.from_residual.result c.from_residual.ensures.1 in
    let r = c.in_err-ask_lent.field-0.0 in
    let asked = c.in_err-ask_lent.ensures.refused ∙ ap (λ t. lent_no c.args.program.now c.args.words.now t c.args.lent.now) c.both_fit.ensures in
    let answer = sym (no_decides r _ _ asked) in
    rw (p.1, p.2) (record {
      value = answer;
      lent_after = call_refused r _ _ answer;
      out_after = call_refused r _ _ answer;
    })

pub returns-in_err-ran : goal.returns-in_err-ran
returns-in_err-ran c =
    let a = c.args in
    let p = err_from_is_err_and c.from_residual-in_err-ran.result c.from_residual-in_err-ran.ensures.1 in
    let r = c.in_err-ran.field-0.0 in
    let found = ap (λ t. is_ready a.program.now a.words.now t a.lent.now) (sym c.both_fit.ensures) ∙ c.in_ok-ask_lent.ensures.ready in
    let answer =
    ap (λ answer. (outcome_of c.run_on-answer.result.machine answer).no) (sym c.in_err-ran.was)
    ∙ ap (λ o. o.no) c.run_on-answer.ensures
    ∙ ap (λ m. (outcome (cells_of a.program.now) (integers_of a.words.now) m a.budget).no) c.read_state.ensures
    ∙ run_number a.program.now a.words.now a.lent.now (length a.out.now) a.budget (when_ready a.program.now a.words.now a.lent.now _ found) in
    rw (p.1, p.2) (record {
      value = answer;
      lent_after = call_refused r _ _ answer;
      out_after = call_refused r _ _ answer;
    })

pub returns : goal.returns
returns c =
    let a = c.args in
    let found = ap (λ t. is_ready a.program.now a.words.now t a.lent.now) (sym c.both_fit.ensures) ∙ c.in_ok-ask_lent.ensures.ready in
    let came = ap (λ m. outcome (cells_of a.program.now) (integers_of a.words.now) m a.budget) c.read_state.ensures in
    let ran = ap (outcome_of c.run_on-answer.result.machine) (sym c.in_ok-ran.was) ∙ c.run_on-answer.ensures ∙ came in
    let answer =
    ap (λ o. o.no) ran
    ∙ run_number a.program.now a.words.now a.lent.now (length a.out.now) a.budget (when_ready a.program.now a.words.now a.lent.now _ found) in
    let machine = ap (λ o. o.machine) ran in
    let picks = ap (λ o. o.picks) ran in
    let report = c.report_of-r.ensures ∙ (λ i. report_of (machine i).state (picks i)) in
    record {
      value = answer;
      lent_after = call_accepted _ _ _ (sym answer) (c.write_state.ensures ∙ ap (λ m. state_bytes m.state) machine);
      out_after = call_accepted _ _ _ (sym answer) (c.write_report.ensures ∙ ap report_bytes report);
    }
