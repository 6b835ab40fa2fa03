-- `ask_instructions` meets its contract.
use Rattle.image.specs.Layout.{block_count, instruction_count, program_of}
use Rattle.image.specs.Questions.{instruction_no, last_in_block}
use Rattle.image.specs.Records.{instruction_record_no}
use Rattle.image.proofs.questions.ask_instructions.Goals as goal
use mathlib.Core.Path.{sym, ap, ◌∙◌}
use native.Mathlib.Omega.{arith}
use Rattle.image.proofs.Asked.{its_goes_on, decides, no_more}
use Rattle.image.proofs.Limiting.{asked_by, asked-held, not-held}
use Rattle.image.proofs.Refusals.{exit_refused, exit_no}

pub returns-in_err-ask_instruction : goal.returns-in_err-ask_instruction
returns-in_err-ask_instruction c =
    let cells = c.args.cells.now in
    let l = c.loop-i in
    let held = c.instructions_held-held.ensures in
    let refused = exit_refused c.from_residual.result c.in_err-ask_instruction.field-0.0 c.from_residual.ensures.1 in
    let no = exit_no c.from_residual.result c.in_err-ask_instruction.field-0.0 c.from_residual.ensures.1
    ∙ c.in_err-ask_instruction.ensures ∙ asked_by cells c.args.marks.now c.args.bounds.now.opcodes (block_count cells)
    c.args.bounds.now.largest c.requires.1 c.requires.4 l.i (omega (arith, held.0))
    c.instruction_of-x.result ∙ ap (instruction_record_no c.args.bounds.now.opcodes (block_count cells) (last_in_block (program_of cells) l.i))
    c.instruction_of-x.ensures ∙ asked-held cells c.args.bounds.now.opcodes l.i c.requires.0
    (held.1 l.i (omega arith)) in
    no ∙ sym (l.invariant ∙ decides (instruction_no cells) (instruction_count cells) l.i (omega (arith, held.0)) (λ e. refused (no ∙ e)))

pub loop-i-preserved : goal.loop-i-preserved
loop-i-preserved c =
    let cells = c.args.cells.now in
    let l = c.loop-i in
    let held = c.instructions_held-held.ensures in
    let no = c.in_ok-ask_instruction.ensures ∙ asked_by cells c.args.marks.now c.args.bounds.now.opcodes (block_count cells)
    c.args.bounds.now.largest c.requires.1 c.requires.4 l.i (omega (arith, held.0))
    c.instruction_of-x.result ∙ ap (instruction_record_no c.args.bounds.now.opcodes (block_count cells) (last_in_block (program_of cells) l.i))
    c.instruction_of-x.ensures ∙ asked-held cells c.args.bounds.now.opcodes l.i c.requires.0
    (held.1 l.i (omega arith)) in
    l.invariant ∙ its_goes_on (instruction_no cells) (instruction_count cells) l.i (omega (arith, held.0)) (sym no)

pub returns-then-held-cells : goal.returns-then-held-cells
returns-then-held-cells c =
    let cells = c.args.cells.now in
    let l = c.loop-i in
    let short = not-held cells l.i (omega (arith, c.instructions_held-held.ensures.2 c.if-held-cells.true)) in
    sym (l.invariant ∙ decides (instruction_no cells) (instruction_count cells) l.i (omega arith) (λ e. (omega (arith, short, e))) ∙ short)

pub returns : goal.returns
returns c =
    sym (c.loop-i.invariant ∙ no_more (instruction_no c.args.cells.now) (instruction_count c.args.cells.now) c.loop-i.i (omega arith))
