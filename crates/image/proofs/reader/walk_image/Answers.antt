-- `walk_image` meets its contract.
use Rattle.std.proofs.Common.{◌≡◌, length, ℕ}
use Rattle.image.specs.Layout.{program_cells, cells_in}
use Rattle.image.specs.Doors.{header_no, image_no}
use Rattle.image.proofs.reader.walk_image.Goals as goal
use mathlib.Core.Path.{◌≡◌, sym, ap, ◌∙◌}
use Prim.Native.Nat.{ℕ}
use lib.ListN.{length, length-replicate}
use native.Mathlib.Omega.{arith}
use Rattle.image.specs.Questions.{records_no}
use Rattle.image.proofs.Asked.{or_else_no, or_else_yes}
use Rattle.image.proofs.Refusals.{refused}
use Rattle.image.proofs.Header.{header}
use Rattle.image.proofs.Offset.{offset_unread}
use Rattle.image.proofs.Walked.{scanned-none, scanned-records}

pub returns-in-Err : goal.returns-in-Err
unfolding image_no
returns-in-Err c =
    let image = c.args.image.now in
    let asked = c.in-Err.ensures in
    let refused : header_no image ≡ 0 → ⊥ = λ e. refused c.in-Err.refusal (asked ∙ e) in
    record {
      no_value = asked ∙ sym (or_else_no (header_no image) (records_no (cells_in image)) refused);
      at_value = sym (offset_unread image refused);
      cells_after = scanned-none image c.args.lays c.args.cells.now c.requires refused;
    }

pub lay_head-requires : goal.lay_head-requires
lay_head-requires c = (
  (header c.args.image.now (sym c.in_default.ensures)).long,
  λ t.
      (omega (arith, ap length (c.requires t), length-replicate {A = ℕ} program_cells 0)),
)

pub returns : goal.returns
unfolding image_no
returns c =
    let image = c.args.image.now in
    let w = c.walk_records.ensures in
    let accepted = sym c.in_default.ensures in
    record {
      no_value = w.no_value ∙ sym (or_else_yes (header_no image) (records_no (cells_in image)) accepted);
      at_value = w.at_value;
      cells_after = scanned-records image c.args.lays c.args.cells.now c.requires _ _ accepted c.lay_head.ensures w.cells_after;
    }
