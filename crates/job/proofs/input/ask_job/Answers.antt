-- `ask_job` meets its contract.
use Rattle.std.proofs.Common.{sym, ap, ◌∙◌, arith}
use Rattle.std.proofs.lemmas.Result.{err_from_is_err_and}
use Rattle.job.specs.Job.{job_image, job_places, job_interval, word_count}
use Rattle.job.proofs.input.ask_job.Goals as goal
use Rattle.image.specs.Questions.{program_no}
use Rattle.image.specs.Doors.{image_no}
use Rattle.image.specs.Walked.{scanned}
use Rattle.image.proofs.Refusals.{number_positive}
use Rattle.image.proofs.Walked.{scanned-accepted}
use Rattle.job.proofs.Asking.{scanned-none, scanned-image, refused_by_length, refused_by_image, answered-by-start, read_program, settings_left}

pub returns-in_err-input : goal.returns-in_err-input
returns-in_err-input c =
    let bytes = c.args.bytes.now in
    let p = err_from_is_err_and c.from_residual.result c.from_residual.ensures.1 in
    let r = c.in_err-input.field-0.0 in
    let e = c.in_err-input.ensures.value in
    rw (p.1, p.2) (record {
      value = refused_by_length bytes r e;
      cells_after = c.requires ∙ sym (scanned-none bytes (λ z. omega (arith, number_positive r, e, z)));
      same = tt;
    })

pub returns-in_err-scan : goal.returns-in_err-scan
returns-in_err-scan c =
    let bytes = c.args.bytes.now in
    let p = err_from_is_err_and c.from_residual-in_err-scan.result c.from_residual-in_err-scan.ensures.1 in
    let fits = sym c.in_ok-input.ensures.value in
    let image = c.image.ensures ∙ ap job_image c.in_ok-input.ensures.same in
    rw (p.1, p.2) (record {
      value = refused_by_image bytes fits c.in_err-scan.field-0.0 (c.in_err-scan.ensures.value ∙ ap image_no image);
      cells_after = c.in_err-scan.ensures.cells_after ∙ ap scanned image ∙ sym (scanned-image bytes fits);
      same = tt;
    })

pub returns-in_err-ask_settings : goal.returns-in_err-ask_settings
returns-in_err-ask_settings c =
    let bytes = c.args.bytes.now in
    let p = err_from_is_err_and c.from_residual-in_err-ask_settings.result c.from_residual-in_err-ask_settings.ensures.1 in
    let fits = sym c.in_ok-input.ensures.value in
    let same = c.in_ok-input.ensures.same in
    let image = c.image.ensures ∙ ap job_image same in
    let passed = sym (c.in_ok-scan.ensures.value ∙ ap image_no image) in
    let held = c.in_ok-scan.ensures.cells_after ∙ ap scanned image in
    let read = held ∙ scanned-accepted (job_image bytes) passed in
    let program = ap program_no read ∙ read_program (job_image bytes) passed in
    rw (p.1, p.2) (record {
      value = answered-by-start bytes fits _ _ _ _ _ passed read (c.places-places.ensures ∙ ap job_places same)
          (c.interval-interval.ensures ∙ ap job_interval same) (c.word_count.ensures.0 ∙ ap word_count same)
          (c.in_err-ask_settings.ensures ∙ settings_left _ _ _ 16 _ program);
      cells_after = held ∙ sym (scanned-image bytes fits);
      same = tt;
    })

pub returns : goal.returns
returns c =
    let bytes = c.args.bytes.now in
    let fits = sym c.in_ok-input.ensures.value in
    let same = c.in_ok-input.ensures.same in
    let image = c.image.ensures ∙ ap job_image same in
    let passed = sym (c.in_ok-scan.ensures.value ∙ ap image_no image) in
    let held = c.in_ok-scan.ensures.cells_after ∙ ap scanned image in
    let read = held ∙ scanned-accepted (job_image bytes) passed in
    let program = ap program_no read ∙ read_program (job_image bytes) passed in
    record {
      value = answered-by-start bytes fits _ _ _ _ _ passed read (c.places-places.ensures ∙ ap job_places same)
          (c.interval-interval.ensures ∙ ap job_interval same) (c.word_count.ensures.0 ∙ ap word_count same)
          (c.in_ok-ask_settings.ensures ∙ settings_left _ _ _ 16 _ program);
      cells_after = held ∙ sym (scanned-image bytes fits);
      same = same;
    }
