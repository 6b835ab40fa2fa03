-- What was printed is what stands at the front of the text's buffer.
use Rattle.std.proofs.Common.{replicate, arith, sym, ap, ◌∙◌}
use Rattle.std.specs.Prelude.{unwrap_or}
use Rattle.tpal_run.proofs.Text.{text_front, printed, zeros}
use Rattle.tpal_run.proofs.run.Goals as goal

pub returns : goal.returns
returns g c =
    let counted = ap (λ o. unwrap_or o 0) (sym c.in_ok-written.ensures.ok_part) ∙ c.tpal_job_text.ensures.value in
    printed c.print.result _ _ _ _ _
    (λ room. text_front _ (replicate 1024 0) _ _ _ (zeros 1024) counted c.tpal_job_text.ensures.out_after (omega arith)) c.print.ensures.room c.print.ensures.bytes
