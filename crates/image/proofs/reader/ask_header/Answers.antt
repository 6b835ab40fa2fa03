-- `ask_header` meets its contract.
use Rattle.image.specs.Doors.{header_no}
use Rattle.image.proofs.reader.ask_header.Goals as goal
use mathlib.Core.Path.{sym}
use borrow.Author.Tests.{le-leb, lt-leb, eq-eqb, ne_eqb, not-true, not-false}
use Rattle.image.proofs.Asked.{or_else_yes}
use Rattle.image.proofs.Refusals.{exit_decides}
use Rattle.image.proofs.Counts.{counted}

pub returns-then-image-lt8 : goal.returns-then-image-lt8
unfolding header_no
returns-then-image-lt8 c = rw (lt-leb _ _ c.if-image-lt8.true)

pub returns-then-not-is_marked : goal.returns-then-not-is_marked
unfolding header_no
returns-then-not-is_marked c = rw (le-leb _ _ c.if-image-lt8.false, ← c.is_marked.ensures, not-true c.is_marked.result c.if-not-is_marked.true-raw)

pub returns-in_err-ask_version : goal.returns-in_err-ask_version
unfolding header_no
returns-in_err-ask_version c =
    rw (
      le-leb _ _ c.if-image-lt8.false,
      ← c.is_marked.ensures,
      not-false c.is_marked.result c.if-not-is_marked.false-raw,
      ← c.read_u16-version.ensures.equal,
    )
    (exit_decides c.from_residual.result c.in_err-ask_version.field-0.0 _ _ c.from_residual.ensures.1 c.in_err-ask_version.ensures)

pub returns-in_err-ask_counts : goal.returns-in_err-ask_counts
unfolding header_no
returns-in_err-ask_counts c =
    rw (
      le-leb _ _ c.if-image-lt8.false,
      ← c.is_marked.ensures,
      not-false c.is_marked.result c.if-not-is_marked.false-raw,
      ← c.read_u16-version.ensures.equal,
      or_else_yes _ _ (sym c.in_ok-ask_version.ensures),
      ← c.from-blocks.ensures,
      ← c.read_u16-instructions.ensures.equal,
    )
    (exit_decides c.from_residual-in_err-ask_counts.result c.in_err-ask_counts.field-0.0 _ _ c.from_residual-in_err-ask_counts.ensures.1 c.in_err-ask_counts.ensures)

pub image_length-requires : goal.image_length-requires
image_length-requires c =
    let k = counted _ _ (sym c.in_ok-ask_counts.ensures) in
    (k.blocks_fit, k.instructions_fit)

pub returns-then-image-image_length : goal.returns-then-image-image_length
unfolding header_no
returns-then-image-image_length c =
    rw (
      le-leb _ _ c.if-image-lt8.false,
      ← c.is_marked.ensures,
      not-false c.is_marked.result c.if-not-is_marked.false-raw,
      ← c.read_u16-version.ensures.equal,
      or_else_yes _ _ (sym c.in_ok-ask_version.ensures),
      ← c.from-blocks.ensures,
      ← c.read_u16-instructions.ensures.equal,
      or_else_yes _ _ (sym c.in_ok-ask_counts.ensures),
      ← c.image_length.ensures,
      ne_eqb _ _ c.if-image-image_length.true,
    )

pub returns : goal.returns
unfolding header_no
returns c =
    rw (
      le-leb _ _ c.if-image-lt8.false,
      ← c.is_marked.ensures,
      not-false c.is_marked.result c.if-not-is_marked.false-raw,
      ← c.read_u16-version.ensures.equal,
      or_else_yes _ _ (sym c.in_ok-ask_version.ensures),
      ← c.from-blocks.ensures,
      ← c.read_u16-instructions.ensures.equal,
      or_else_yes _ _ (sym c.in_ok-ask_counts.ensures),
      ← c.image_length.ensures,
      eq-eqb _ _ c.if-image-image_length.false,
    )
