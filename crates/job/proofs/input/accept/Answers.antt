-- `accept` meets its contract.
use Rattle.std.proofs.Common.{sym, ap, ◌∙◌}
use Rattle.image.specs.Layout.{cells_in}
use Rattle.job.specs.Job.{job_image, job_no}
use Rattle.job.proofs.input.accept.Goals as goal
use Rattle.job.proofs.Asking.{asked-program}

pub invariant_of-result : goal.invariant_of-result
invariant_of-result c =
    let ok = c.in_ok-input.ensures in record {
      accepted = ap job_no ok.same ∙ sym ok.value;
      read = ok.cells_after ∙ asked-program c.args.bytes.now (sym ok.value) ∙ ap (λ b. cells_in (job_image b)) (sym ok.same);
    }
