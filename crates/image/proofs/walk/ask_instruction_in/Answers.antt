-- `ask_instruction_in` meets its contract.
use Rattle.image.specs.Layout.{blocks_in, instruction_in, cells_in, program_of}
use Rattle.image.proofs.walk.ask_instruction_in.Goals as goal
use mathlib.Core.Path.{ap, ◌∙◌}
use native.Mathlib.Omega.{arith}
use Rattle.image.specs.Questions.{last_in_block}
use Rattle.image.specs.Records.{instruction_record_no}
use Rattle.image.proofs.Counts.{counted}
use Rattle.image.proofs.Header.{header, instruction-asked, cells_in_instructions}
use Rattle.image.proofs.Limiting.{asked_by}

pub instruction_in-x-requires : goal.instruction_in-x-requires
instruction_in-x-requires c =
    omega (arith, (header c.args.image.now c.requires.0).size)

pub bounds-marks-i : goal.bounds-marks-i
bounds-marks-i c =
    let k = counted _ _ (header c.args.image.now c.requires.0).counts in omega (arith, c.requires.3.sized, c.requires.4)

pub returns : goal.returns
returns c =
    let image = c.args.image.now in
    let i = c.args.i in
    let opcodes = c.args.bounds.now.opcodes in
    c.ask_instruction.ensures
    ∙ asked_by (cells_in image) c.args.marks.now opcodes (blocks_in image) c.args.bounds.now.largest c.requires.2
    c.requires.3 i (omega (arith, c.requires.4, cells_in_instructions image)) c.instruction_in-x.result
    ∙ ap (instruction_record_no opcodes (blocks_in image) (last_in_block (program_of (cells_in image)) i))
    (c.instruction_in-x.ensures ∙ ap (instruction_in image) c.requires.5)
    ∙ instruction-asked image (header image c.requires.0) opcodes i c.requires.1 c.requires.4
