-- `pick` meets its contract.
use Rattle.std.proofs.Common.{sym, ap, ◌∙◌}
use Rattle.std.proofs.lemmas.Result.{err_from_is_err_and}
use Rattle.state.specs.State.{state_bytes}
use Rattle.steps.proofs.going.pick.Goals as goal
use Rattle.image.specs.Refusals.{no_of}
use Rattle.image.proofs.Refusals.{no_decides}
use Rattle.machine.specs.Picking.{pick_no, picked}
use Rattle.steps.specs.Buffers.{cells_of, integers_of}
use Rattle.steps.specs.Calls.{picked_no}
use Rattle.steps.proofs.Answers.{call_refused, call_accepted}
use Rattle.steps.proofs.LentAnswers.{pick-ready, when_ready}

pub returns-in_err-ask_lent : goal.returns-in_err-ask_lent
unfolding picked_no
returns-in_err-ask_lent c =
    let p = err_from_is_err_and c.from_residual.result c.from_residual.ensures.1 in
    let r = c.in_err-ask_lent.field-0.0 in
    let answer = sym (no_decides r _ _ c.in_err-ask_lent.ensures.refused) in
    rw (p.1, p.2) (record {
      value = answer;
      lent_after = call_refused r _ _ answer;
    })

pub returns-in_err-answer : goal.returns-in_err-answer
returns-in_err-answer c =
    let a = c.args in
    let p = err_from_is_err_and c.from_residual-in_err-answer.result c.from_residual-in_err-answer.ensures.1 in
    let r = c.in_err-answer.field-0.0 in
    let ready = when_ready a.program.now a.words.now a.lent.now _ c.in_ok-ask_lent.ensures.ready in
    let answer =
    ap no_of (sym c.in_err-answer.was) ∙ c.pick_on-answer.ensures.value
    ∙ ap (λ m. pick_no (cells_of a.program.now) (integers_of a.words.now) m a.slot) c.read_state.ensures
    ∙ sym (pick-ready a.program.now a.words.now a.lent.now a.slot ready) in
    rw (p.1, p.2) (record {
      value = answer;
      lent_after = call_refused r _ _ answer;
    })

pub returns : goal.returns
returns c =
    let a = c.args in
    let ready = when_ready a.program.now a.words.now a.lent.now _ c.in_ok-ask_lent.ensures.ready in
    let accepted =
    pick-ready a.program.now a.words.now a.lent.now a.slot ready
    ∙ ap (λ m. pick_no (cells_of a.program.now) (integers_of a.words.now) m a.slot) (sym c.read_state.ensures)
    ∙ sym c.pick_on-answer.ensures.value ∙ ap no_of c.in_ok-answer.was in
    let state =
    c.pick_on-answer.ensures.state_value
    ∙ ap (λ m. picked (cells_of a.program.now) (integers_of a.words.now) m a.slot) c.read_state.ensures in
    record {
      value = sym accepted;
      lent_after = call_accepted _ _ _ accepted (c.write_state.ensures ∙ ap state_bytes state);
    }
