-- `tpal_job_dispatch` meets its contract.
use Rattle.std.proofs.Common.{refl, sym, ap, ap₂, ◌∙◌, arith}
use Rattle.std.proofs.lemmas.Result.{err_from_is_err_and}
use lib.IntN.{pos}
use Rattle.image.specs.Doors.{unless_refused}
use Rattle.job.specs.Job.{job_no}
use Rattle.job.specs.Dispatch.{dispatch_job_no, rounds_in}
use Rattle.job.proofs.tpal_job_dispatch.Goals as goal
use borrow.Author.Tests.{eq-eqb, ne_eqb}
use Rattle.image.proofs.Asked.{or_else_yes}
use Rattle.image.proofs.Refusals.{no_decides, refused_keeps}
use Rattle.report.specs.Report.{report_of, rounds_report_bytes}
use Rattle.steps.proofs.Cells.{front_length}
use Rattle.job.proofs.Replaying.{few_words}

pub returns-in_err-job : goal.returns-in_err-job
unfolding dispatch_job_no
returns-in_err-job c =
    let p = err_from_is_err_and c.from_residual.result c.from_residual.ensures.1 in
    let r = c.in_err-job.field-0.0 in
    rw (p.1, p.2) (record {
      value = sym (no_decides r _ _ c.in_err-job.ensures.value);
      out_after = sym (refused_keeps r _ _);
    })

pub returns-then-out-ne-ROUNDS_REPORT_BYTES : goal.returns-then-out-ne-ROUNDS_REPORT_BYTES
unfolding dispatch_job_no unless_refused
returns-then-out-ne-ROUNDS_REPORT_BYTES c =
    let accepted = sym c.in_ok-job.ensures.value in
    record {
      value = sym (or_else_yes (job_no c.args.job.now) _ accepted ∙ rw (ne_eqb _ _ c.if-out-ne-ROUNDS_REPORT_BYTES.true));
      out_after = refl;
    }

pub returns-then-not-allows_lanes : goal.returns-then-not-allows_lanes
unfolding dispatch_job_no unless_refused
returns-then-not-allows_lanes c =
    let accepted = sym c.in_ok-job.ensures.value in
    record {
      value = sym (or_else_yes (job_no c.args.job.now) _ accepted
          ∙ rw (eq-eqb _ _ c.if-out-ne-ROUNDS_REPORT_BYTES.false, ← c.allows_lanes.ensures, c.if-not-allows_lanes.true));
      out_after = refl;
    }

pub slice_bounds-words-end : goal.slice_bounds-words-end
slice_bounds-words-end c =
    let job = c.in_ok-job.job in omega (arith, c.word_count-count.ensures.0, few_words job.input.bytes.now job.accepted)

pub slice_bounds-dispatch_job-end : goal.slice_bounds-dispatch_job-end
slice_bounds-dispatch_job-end c =
    let job = c.in_ok-job.job in
    sym (front_length 4096 c.word_count-count.result (pos 0) (omega (arith, c.word_count-count.ensures.0, few_words job.input.bytes.now job.accepted)))

pub dispatch_job-r-requires : goal.dispatch_job-r-requires
dispatch_job-r-requires c =
    let job = c.in_ok-job.job in
    let counted = c.word_count-count.ensures.0 in (
      front_length 4096 c.word_count-count.result (pos 0) (omega (arith, counted, few_words job.input.bytes.now job.accepted)) ∙ counted,
      sym c.allows_lanes.ensures ∙ c.if-not-allows_lanes.false,
    )

pub returns : goal.returns
unfolding dispatch_job_no unless_refused
returns c =
    let a = c.args in
    let ok = c.in_ok-job.ensures in
    let came = ap (λ b. rounds_in b a.lanes a.rounds) ok.same in
    let report = c.dispatch_job-r.ensures.0 ∙ ap (λ o. report_of o.state o.picks) came in
    let rounds = c.dispatch_job-r.ensures.1 ∙ ap (λ o. o.kept.done) came in
    record {
      value = sym (or_else_yes (job_no a.job.now) _ (sym ok.value)
          ∙ rw (eq-eqb _ _ c.if-out-ne-ROUNDS_REPORT_BYTES.false, ← c.allows_lanes.ensures, c.if-not-allows_lanes.false));
      out_after = c.write_rounds_report.ensures ∙ ap₂ rounds_report_bytes report rounds;
    }
