-- `tpal_job_text` meets its contract.
use Rattle.std.proofs.Common.{refl, sym, ap, ◌∙◌}
use Rattle.job.specs.Run.{report_in}
use Rattle.report.specs.Text.{refused_text}
use Rattle.facts.proofs.Tests.{clash}
use lib.ListN.{length}
use lib.Seq.{sets}
use Rattle.job.proofs.tpal_job_text.Goals as goal
use Rattle.job.proofs.Running.{no_text, refusal_given, report_given}

pub returns-then-out-ne-TEXT_BYTES : goal.returns-then-out-ne-TEXT_BYTES
returns-then-out-ne-TEXT_BYTES c =
    let other = c.if-out-ne-TEXT_BYTES.true in
    let answer = no_text c.args.job.now c.args.budget c.args.out.now other in
    record {
      value = answer.0;
      none = (λ z. other, λ z. refl);
      out_after = answer.1;
    }

pub returns-in-Err : goal.returns-in-Err
returns-in-Err c =
    let out = c.args.out.now in
    let room = c.if-out-ne-TEXT_BYTES.false in
    let written = c.write_refused.ensures in
    let no = c.number-no.ensures in
    let answer =
    refusal_given c.args.job.now c.args.budget out room c.in-Err.refusal c.in-Err.ensures.value
    (written.0 ∙ ap (λ n. length (refused_text n)) no) (written.1 ∙ ap (λ n. sets out 0 (refused_text n)) no) in
    record {
      value = answer.0;
      none = (λ z. clash refl z, λ other. absurd (other room));
      out_after = answer.1;
    }

pub returns : goal.returns
returns c =
    let ok = c.in-Ok.ensures in
    let room = c.if-out-ne-TEXT_BYTES.false in
    let written = c.write_text.ensures in
    let answer =
    report_given c.args.job.now c.args.budget c.args.out.now room _ (sym ok.value)
    (c.run_accepted-r.ensures ∙ ap (λ b. report_in b c.args.budget) ok.same) written.0 written.1 in
    record {
      value = answer.0;
      none = (λ z. clash refl z, λ other. absurd (other room));
      out_after = answer.1;
    }
