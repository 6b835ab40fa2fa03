-- Every case of the table is right: antt computes the test of each, and the test is enough.
use mathlib.Core.Path.{◌≡◌, refl}
use mathlib.Core.Bool.{true}
use lib.ListN.{length, set}
use Rattle.int64.specs.Little.{little, bytes_of}
use Rattle.image.specs.Layout.{rows, buffer, cells_in}
use Rattle.image.specs.Questions.{or_else, first_no, version_no, counts_no, rising, unjoined, joined, annotated, block_no, register, operand_fits, laid_out, starts_at, last_in_block, instruction_no, records_no}
use Rattle.image.specs.Doors.{mark_in, header_no, image_no}
use Rattle.image.specs.Offset.{passed, blocks_offset, instructions_offset, offset_in}
use Rattle.agreement.specs.Plain.{eval}
use Rattle.agreement.specs.Slots.{settle, carry}
use Rattle.agreement.specs.Picks.{pick, play}
use Rattle.task.specs.Effect.{asked, belong, fits}
use Rattle.task.specs.Step.{operand, promotes, step, copied, join}
use Rattle.task.specs.Stretches.{reads}
use Rattle.drive.specs.Settings.{rank}
use Rattle.machine.specs.Starting.{fresh}
use Rattle.cases.specs.Assembly.{assembled}
use Rattle.cases.specs.ProgramF.{forking, program_f, image_f, two_faults, halt_in_side}
use Rattle.cases.specs.Figure2.{product}
use Rattle.cases.specs.Calls.{calling, pop_in_sides, pushing}
use Rattle.cases.specs.Table.{case_f, one_place, either_fault, side_halts, product2, product3, product4, on_interval, below_interval}
use Rattle.cases.specs.Table.{toward_zero, least_negated, true_is_zero, sum_wraps, call_returns, child_pops, one_push_more, table, StarredCases}
use Rattle.cases.proofs.Test.{every, passes}
use Rattle.cases.proofs.Enough.{every-at, right}

-- computed for each case: the reader's questions, start's own, the plain evaluation with its outcome, and that the orders end the job
pub all_pass : every passes table ≡ true
unfolding table image_f case_f one_place either_fault side_halts product2 product3 product4 on_interval below_interval toward_zero least_negated
    true_is_zero sum_wraps call_returns child_pops one_push_more assembled forking two_faults halt_in_side product calling pop_in_sides pushing bytes_of little rows buffer cells_in
    image_no mark_in header_no or_else first_no version_no counts_no rising unjoined joined annotated block_no register operand_fits laid_out starts_at
    last_in_block instruction_no records_no
    eval step operand asked promotes belong fits copied join
    play pick carry settle reads rank fresh
all_pass = refl

-- F's bytes are those of its listing, 156 of them
pub f-assembled : assembled 1 program_f ≡ image_f
unfolding assembled program_f forking image_f bytes_of
f-assembled = refl

pub f_bytes : length image_f ≡ 156
unfolding image_f
f_bytes = refl

-- the reader's offset after F's last record; at its block 2, with an annotation that there is not; at its instruction 5, with such an opcode
pub f_offsets : (offset_in image_f ≡ 156) × (offset_in (set image_f 30 3) ≡ 28) × (offset_in (set image_f 108 16) ≡ 108)
unfolding image_f offset_in blocks_offset instructions_offset passed
    little rows buffer cells_in mark_in header_no or_else first_no version_no counts_no rising unjoined joined annotated block_no register operand_fits laid_out
    starts_at last_in_block instruction_no
f_offsets = (refl, refl, refl)

pub starred_cases : StarredCases
starred_cases x h = right x (every-at passes table all_pass x h)
