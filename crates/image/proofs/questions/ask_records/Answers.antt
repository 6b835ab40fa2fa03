-- `ask_records` meets its contract.
use Rattle.image.specs.Layout.{block_count, instruction_count}
use Rattle.image.specs.Questions.{block_no, first_no, instruction_no, records_no}
use Rattle.image.proofs.questions.ask_records.Goals as goal
use mathlib.Core.Path.{refl, sym, ◌∙◌}
use native.Mathlib.Omega.{arith}
use Rattle.image.proofs.Asked.{or_else_yes}
use Rattle.image.proofs.Refusals.{exit_decides}
use Rattle.image.proofs.Marking.{marked_none, ended}
use Rattle.image.proofs.Counts.{counted, three-cells}

pub ask_blocks-requires : goal.ask_blocks-requires
ask_blocks-requires c =
    let cells = c.args.cells.now in
    let ok = c.requires in
    let k = counted (block_count cells) (instruction_count cells) ok in
    (three-cells cells ok, k.blocks_fit, k.instructions_fit, marked_none cells)

pub returns-in_err-ask_blocks : goal.returns-in_err-ask_blocks
unfolding records_no
returns-in_err-ask_blocks c =
    exit_decides c.from_residual.result c.in_err-ask_blocks.field-0.0 _ _ c.from_residual.ensures.1 c.in_err-ask_blocks.ensures.value

pub bounds-cells-2 : goal.bounds-cells-2
bounds-cells-2 c =
    three-cells c.args.cells.now c.requires

pub bounds-marks-end : goal.bounds-marks-end
bounds-marks-end c =
    let cells = c.args.cells.now in
    let ok = c.requires in
    omega (arith, (counted (block_count cells) (instruction_count cells) ok).instructions_fit)

pub bounds-cells-1 : goal.bounds-cells-1
bounds-cells-1 c =
    omega (arith, three-cells c.args.cells.now c.requires)

pub bounds_of-bounds-requires : goal.bounds_of-bounds-requires
bounds_of-bounds-requires c =
    let cells = c.args.cells.now in
    let ok = c.requires in
    (counted (block_count cells) (instruction_count cells) ok).some_block

pub bounds-cells-0 : goal.bounds-cells-0
bounds-cells-0 c =
    omega (arith, three-cells c.args.cells.now c.requires)

pub ask_instructions-requires : goal.ask_instructions-requires
ask_instructions-requires c =
    let cells = c.args.cells.now in
    let ok = c.requires in
    let k = counted (block_count cells) (instruction_count cells) ok in (
      c.bounds_of-bounds.ensures.opcodes,
      c.bounds_of-bounds.ensures.limited,
      three-cells cells ok,
      k.instructions_fit,
      ended cells _ (c.in_ok-ask_blocks.ensures.marked refl) k.instructions_fit,
    )

pub returns : goal.returns
unfolding records_no
returns c =
    let cells = c.args.cells.now in
    c.ask_instructions.ensures ∙ sym (or_else_yes (first_no (block_no cells) (block_count cells) 0)
    (first_no (instruction_no cells) (instruction_count cells) 0) (sym c.in_ok-ask_blocks.ensures.value))
