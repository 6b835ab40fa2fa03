-- `rewrite` meets its contract.
use Rattle.image.specs.Doors.{rewrite_no, unless_refused, image_no}
use Rattle.image.proofs.rewrite.Goals as goal
use mathlib.Core.Path.{refl, sym, ap, ◌∙◌}
use borrow.Author.Tests.{eq-eqb, ne_eqb}
use Rattle.std.proofs.lemmas.Result.{err_from_is_err_and}
use Rattle.image.proofs.Asked.{or_else_yes}
use Rattle.image.proofs.Refusals.{no_decides, refused_keeps}
use Rattle.image.specs.Layout.{image_of}
use Rattle.image.proofs.Header.{cells_in_version, cells_in_blocks, cells_in_instructions, cells_in_counts, cells_in_length}
use Rattle.image.proofs.Walked.{scanned-accepted}
use Rattle.image.proofs.RoundTrip.{image_accepted, same_bytes_lem}

pub returns-in_err-scan : goal.returns-in_err-scan
unfolding rewrite_no
returns-in_err-scan c =
    let p = err_from_is_err_and c.from_residual.result c.from_residual.ensures.1 in
    let refusal = c.in_err-scan.field-0.0 in
    rw (p.1, p.2) (record {
      value = sym (no_decides refusal _ _ c.in_err-scan.ensures.value);
      out_after = sym (refused_keeps refusal _ _);
    })

pub returns-then-out-image : goal.returns-then-out-image
unfolding rewrite_no unless_refused
returns-then-out-image c =
    let no = image_no c.args.image.now in
    record {
      value = sym (or_else_yes no _ (sym c.in_ok-scan.ensures.value) ∙ rw (ne_eqb _ _ c.if-out-image.true));
      out_after = refl;
    }

pub encode-requires : goal.encode-requires
encode-requires c =
    let image = c.args.image.now in
    let accepted = sym c.in_ok-scan.ensures.value in
    let h = (image_accepted image accepted).0 in
    rw (c.in_ok-scan.ensures.cells_after ∙ scanned-accepted image accepted) (
      cells_in_length image,
      cells_in_counts image h.counts,
      rw (cells_in_version image, cells_in_blocks image, cells_in_instructions image) (c.if-out-image.false ∙ h.size),
    )

pub returns : goal.returns
unfolding rewrite_no unless_refused
returns c =
    let image = c.args.image.now in
    let accepted = sym c.in_ok-scan.ensures.value in
    record {
      value = sym (or_else_yes (image_no image) _ accepted ∙ rw (eq-eqb _ _ c.if-out-image.false));
      out_after = c.encode.ensures ∙ ap image_of (c.in_ok-scan.ensures.cells_after ∙ scanned-accepted image accepted) ∙
          same_bytes_lem image accepted (λ i. (c.shared_slice_known-1.given i).fits);
    }
