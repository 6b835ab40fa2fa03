-- `walk_records` meets its contract.
use Rattle.std.proofs.Common.{◌≡◌}
use Rattle.image.specs.Layout.{blocks_in, instructions_in, cells_in, block_cell, block_cells_in}
use Rattle.image.specs.Questions.{first_no, block_no, last_opcode, instruction_no}
use Rattle.image.specs.Offset.{blocks_passed}
use Rattle.image.proofs.walk.walk_records.Goals as goal
use mathlib.Core.Path.{◌≡◌, sym, ap, ◌∙◌, subst}
use native.Mathlib.Omega.{arith}
use Prim.Native.Nat.{ℕ}
use Rattle.image.specs.Limits.{Limited}
use Rattle.image.proofs.Asked.{or_else_no, or_else_yes}
use Rattle.std.proofs.lemmas.Result.{err_from_is_err_and}
use Rattle.image.proofs.Refusals.{refused}
use Rattle.image.proofs.Counts.{counted}
use Rattle.image.proofs.Header.{header}
use Rattle.image.proofs.Marking.{marked_none}
use Rattle.image.proofs.Walking.{laid_length}
use Rattle.image.proofs.Offset.{records-no, offset_at_block, offset_past-blocks, past-blocks}
use Rattle.image.proofs.Walked.{walked-to_block, walked-past-blocks}
use Rattle.image.proofs.Walks.{end_marked}

pub walk_blocks-requires : goal.walk_blocks-requires
walk_blocks-requires c =
    (c.requires.0, marked_none (cells_in c.args.image.now), c.requires.1)

pub returns-in_err-start : goal.returns-in_err-start
returns-in_err-start c =
    let image = c.args.image.now in
    let ok = c.requires.0 in
    let e = c.in_err-start.ensures in
    let stopped = c.in_err-start.field-0.0 in
    let p = err_from_is_err_and c.from_residual.result c.from_residual.ensures.1 in
    let some : first_no (block_no (cells_in image)) (blocks_in image) 0 ≡ 0 → ⊥ = λ z. refused stopped.refusal (e.no_value ∙ z) in
    rw (p.1, p.2) (record {
      no_value = e.no_value ∙ sym (records-no image ∙ or_else_no (first_no (block_no (cells_in image)) (blocks_in image) 0)
          (first_no (instruction_no (cells_in image)) (instructions_in image) 0) some);
      at_value = e.at_value ∙ sym (offset_at_block image ok some);
      cells_after = walked-to_block image c.args.lays c.args.cells.now _ some e.cells_after;
    })

pub read_u16-end-requires : goal.read_u16-end-requires
read_u16-end-requires c =
    omega (arith, (header c.args.image.now c.requires.0).long)

pub bounds-marks-end : goal.bounds-marks-end
bounds-marks-end c =
    omega (arith, c.read_u16-end.ensures.equal, (counted _ _ (header c.args.image.now c.requires.0).counts).instructions_fit)

pub bounds-image-5 : goal.bounds-image-5
bounds-image-5 c =
    omega (arith, (header c.args.image.now c.requires.0).long)

pub bounds_of-bounds-requires : goal.bounds_of-bounds-requires
bounds_of-bounds-requires c =
    omega (arith, c.from.ensures, (counted _ _ (header c.args.image.now c.requires.0).counts).some_block)

pub read_u16-requires : goal.read_u16-requires
read_u16-requires c =
    omega (arith, (header c.args.image.now c.requires.0).long)

pub walk_instructions-requires : goal.walk_instructions-requires
walk_instructions-requires c =
    let image = c.args.image.now in
    let ok = c.requires.0 in
    let e = c.in_ok-start.ensures in
    let all : first_no (block_no (cells_in image)) (blocks_in image) 0 ≡ 0 = sym e.no_value in
    let b = c.bounds_of-bounds in (
      ok,
      b.ensures.opcodes ∙ ap last_opcode c.read_u16.ensures.equal,
      subst (λ (n : ℕ). Limited b.result.opcodes n b.result.largest) c.from.ensures b.ensures.limited,
      end_marked image ok _ c.read_u16-end.result all e.marked c.read_u16-end.ensures.equal,
      e.at_value ∙ past-blocks image all,
      λ t. laid_length c.args.lays c.args.cells.now _ (block_cells_in image (blocks_passed image)) (block_cell 0) e.cells_after ∙
          c.requires.1 t,
    )

pub returns : goal.returns
returns c =
    let w = c.walk_instructions.ensures in
    let image = c.args.image.now in
    let e = c.in_ok-start.ensures in
    let all : first_no (block_no (cells_in image)) (blocks_in image) 0 ≡ 0 = sym e.no_value in
    record {
      no_value = w.no_value ∙ sym (records-no image ∙ or_else_yes (first_no (block_no (cells_in image)) (blocks_in image) 0)
          (first_no (instruction_no (cells_in image)) (instructions_in image) 0) all);
      at_value = w.at_value ∙ sym (offset_past-blocks image c.requires.0 all);
      cells_after = walked-past-blocks image c.args.lays c.args.cells.now _ _ all e.cells_after w.cells_after;
    }
