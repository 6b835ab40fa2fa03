-- `tpal_job_run` meets its contract.
use Rattle.std.proofs.Common.{refl, sym, ap, ◌∙◌}
use Rattle.std.proofs.lemmas.Result.{err_from_is_err_and}
use Rattle.image.specs.Doors.{unless_refused}
use Rattle.job.specs.Job.{job_no}
use Rattle.report.specs.Report.{report_bytes}
use Rattle.job.specs.Run.{run_no, report_in}
use Rattle.job.proofs.tpal_job_run.Goals as goal
use borrow.Author.Tests.{eq-eqb, ne_eqb}
use Rattle.image.proofs.Asked.{or_else_yes}
use Rattle.image.proofs.Refusals.{no_decides, refused_keeps}

pub returns-in_err-job : goal.returns-in_err-job
unfolding run_no
returns-in_err-job c =
    let p = err_from_is_err_and c.from_residual.result c.from_residual.ensures.1 in
    let r = c.in_err-job.field-0.0 in
    rw (p.1, p.2) (record {
      value = sym (no_decides r _ _ c.in_err-job.ensures.value);
      out_after = sym (refused_keeps r _ _);
    })

pub returns-then-out-ne-REPORT_BYTES : goal.returns-then-out-ne-REPORT_BYTES
unfolding run_no unless_refused
returns-then-out-ne-REPORT_BYTES c =
    let accepted = sym c.in_ok-job.ensures.value in
    record {
      value = sym (or_else_yes (job_no c.args.job.now) _ accepted ∙ rw (ne_eqb _ _ c.if-out-ne-REPORT_BYTES.true));
      out_after = refl;
    }

pub returns : goal.returns
unfolding run_no unless_refused
returns c =
    let ok = c.in_ok-job.ensures in
    record {
      value = sym (or_else_yes (job_no c.args.job.now) _ (sym ok.value) ∙ rw (eq-eqb _ _ c.if-out-ne-REPORT_BYTES.false));
      out_after = c.write_report.ensures ∙ ap report_bytes (c.run_accepted-r.ensures ∙ ap (λ b. report_in b c.args.budget) ok.same);
    }
