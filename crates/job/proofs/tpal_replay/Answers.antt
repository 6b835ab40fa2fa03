-- `tpal_replay` meets its contract.
use Rattle.std.proofs.Common.{refl, sym, ap, ◌∙◌, arith}
use Rattle.std.proofs.lemmas.Result.{err_from_is_err_and}
use lib.IntN.{pos}
use Rattle.image.specs.Doors.{unless_refused}
use Rattle.state.specs.State.{state_bytes}
use Rattle.job.specs.Job.{job_no}
use Rattle.job.specs.Replay.{replay_no, replay_of}
use Rattle.job.proofs.tpal_replay.Goals as goal
use borrow.Author.Tests.{eq-eqb, ne_eqb}
use Rattle.image.proofs.Asked.{or_else_yes}
use Rattle.image.proofs.Refusals.{number_positive, no_decides, refused_keeps}
use Rattle.steps.proofs.Cells.{front_length}
use Rattle.job.proofs.Replaying.{few_words, whatever_the_order}

pub returns-in_err-job : goal.returns-in_err-job
unfolding replay_no
returns-in_err-job c =
    let p = err_from_is_err_and c.from_residual.result c.from_residual.ensures.1 in
    let r = c.in_err-job.field-0.0 in
    rw (p.1, p.2) (record {
      value = sym (no_decides r _ _ c.in_err-job.ensures.value);
      state_after = sym (refused_keeps r _ _);
      whatever_the_order = λ e. absurd (omega (arith, number_positive r, e));
    })

pub returns-then-state-ne-STATE_BYTES : goal.returns-then-state-ne-STATE_BYTES
unfolding replay_no unless_refused
returns-then-state-ne-STATE_BYTES c =
    let accepted = sym c.in_ok-job.ensures.value in
    record {
      value = sym (or_else_yes (job_no c.args.job.now) _ accepted ∙ rw (ne_eqb _ _ c.if-state-ne-STATE_BYTES.true));
      state_after = refl;
      whatever_the_order = λ e. absurd (omega arith);
    }

pub slice_bounds-words-end : goal.slice_bounds-words-end
slice_bounds-words-end c =
    let job = c.in_ok-job.job in omega (arith, c.word_count-count.ensures.0, few_words job.input.bytes.now job.accepted)

pub slice_bounds-carry_out-end : goal.slice_bounds-carry_out-end
slice_bounds-carry_out-end c =
    let job = c.in_ok-job.job in
    sym (front_length 4096 c.word_count-count.result (pos 0) (omega (arith, c.word_count-count.ensures.0, few_words job.input.bytes.now job.accepted)))

pub carry_out-last-requires : goal.carry_out-last-requires
carry_out-last-requires c =
    let job = c.in_ok-job.job in
    let counted = c.word_count-count.ensures.0 in
    front_length 4096 c.word_count-count.result (pos 0) (omega (arith, counted, few_words job.input.bytes.now job.accepted)) ∙ counted

pub returns : goal.returns
unfolding replay_no unless_refused
returns c =
    let ok = c.in_ok-job.ensures in
    let order = c.args.order.now in
    record {
      value = sym (or_else_yes (job_no c.args.job.now) _ (sym ok.value) ∙ rw (eq-eqb _ _ c.if-state-ne-STATE_BYTES.false));
      state_after = c.write_state.ensures ∙ ap state_bytes (c.carry_out-last.ensures ∙ ap (λ b. replay_of b order) ok.same);
      whatever_the_order = λ e. whatever_the_order c.args.job.now (sym ok.value) order;
    }
