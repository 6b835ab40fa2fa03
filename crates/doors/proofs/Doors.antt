-- Every row of the table is right: antt computes the test of each, and the test is enough.
use mathlib.Core.Path.{◌≡◌, refl}
use mathlib.Core.Bool.{Bool, true}
use mathlib.Core.List.{List, [], ◌∷◌, ◌++◌}
use Rattle.facts.proofs.Tests.{both_true}
use Rattle.int64.specs.Little.{little, bytes_of}
use Rattle.image.specs.Layout.{rows, buffer, cells_in}
use Rattle.image.specs.Questions.{or_else, first_no, version_no, counts_no, rising, unjoined, joined, annotated, block_no}
use Rattle.image.specs.Questions.{register, operand_fits, laid_out, starts_at, last_in_block, instruction_no, records_no, program_no}
use Rattle.image.specs.Doors.{mark_in, header_no, image_no, read_no, rewrite_no, write_no, unless_refused}
use Rattle.agreement.specs.Slots.{settle, carry}
use Rattle.agreement.specs.Shape.{hollow, tiles}
use Rattle.task.specs.Effect.{asked, belong, fits}
use Rattle.task.specs.Step.{operand, promotes, step, copied, join}
use Rattle.task.specs.Formed.{every as every_slot, is_target, formed, is_vacant}
use Rattle.task.specs.Stretches.{reads}
use Rattle.drive.specs.Settings.{rank}
use Rattle.machine.specs.Starting.{start_no_by, fresh}
use Rattle.drive.specs.Issue.{slot_no}
use Rattle.machine.specs.Picking.{state_no_by}
use Rattle.machine.specs.Dispatching.{dispatch_no_by, dispatched}
use Rattle.drive.specs.Rounds.{taken, rounds}
use Rattle.job.specs.Dispatch.{dispatch_job_no}
use Rattle.doors.specs.Lanes.{lane_rows, round_rows}
use Rattle.drive.specs.Courses.{follows}
use Rattle.drive.specs.Passes.{first_running, next_pick, passes as passing}
use Rattle.machine.specs.Running.{outcome}
use Rattle.state.specs.Numbers.{integers_in, in_bytes}
use Rattle.state.specs.Reading.{table}
use Rattle.report.specs.Words.{digits}
use Rattle.report.specs.Text.{register_line, register_lines, text_of}
use Rattle.steps.specs.Buffers.{cells_of}
use Rattle.steps.specs.Calls as steps
use Rattle.job.specs.Job.{ends_exactly, job_no}
use Rattle.job.specs.Replay.{replay_no}
use Rattle.job.specs.Run.{run_no, text_in}
use Rattle.cases.specs.ProgramF.{forking, image_f}
use Rattle.cases.specs.ProgramF.{program_f as listed_f}
use Rattle.cases.specs.Calls.{calling, pop_in_sides, pushing}
use Rattle.cases.specs.Assembly.{assembled}
use Rattle.cases.proofs.Test.{every}
use Rattle.cases.proofs.Enough.{every-at}
use Rattle.doors.specs.Fields.{fields}
use Rattle.doors.specs.Images.{second_f, headers, records, second_records, some_records, at_check, at_readers, image_rows}
use Rattle.doors.specs.Programs.{program_f, only_halt, buffers, versions, writes, program_rows}
use Rattle.doors.specs.Starts.{start_rows}
use Rattle.doors.specs.Picks.{lent_rows, shape_rows, stack_rows, slot_rows, run_rows, pick_rows}
use Rattle.doors.specs.Jobs.{job_f, at_jobs, own_rows, job_rows}
use Rattle.doors.specs.Bytes.{short, short_buffers, lent_bytes, byte_rows}
use Rattle.doors.specs.Faults.{going_on, ending, operations, others, on_stacks, fault_rows}
use Rattle.doors.specs.Texts.{text_rows}
use Rattle.doors.specs.Table.{doors, EveryDoor}
use Rattle.doors.proofs.Walk.{front, passes_all, frames_of}
use Rattle.doors.proofs.Test.{passes, right}

-- ---- Computed, door by door

headers_pass : every passes (at_check headers) ≡ true
unfolding headers image_f second_f assembled listed_f forking bytes_of
    or_else first_no version_no counts_no rising unjoined joined annotated block_no register operand_fits laid_out starts_at last_in_block instruction_no
    records_no little rows buffer cells_in mark_in header_no image_no read_no rewrite_no steps.read_no
headers_pass = refl

records_pass : every passes (at_check records) ≡ true
unfolding records image_f
    or_else first_no version_no counts_no rising unjoined joined annotated block_no register operand_fits laid_out starts_at last_in_block instruction_no
    records_no little rows buffer cells_in mark_in header_no image_no read_no rewrite_no steps.read_no
records_pass = refl

seconds_pass : every passes (at_check second_records) ≡ true
unfolding second_records image_f second_f assembled listed_f forking bytes_of
    or_else first_no version_no counts_no rising unjoined joined annotated block_no register operand_fits laid_out starts_at last_in_block instruction_no
    records_no little rows buffer cells_in mark_in header_no image_no read_no rewrite_no steps.read_no
seconds_pass = refl

fields_pass : every passes (at_check fields) ≡ true
unfolding fields
    or_else first_no version_no counts_no rising unjoined joined annotated block_no register operand_fits laid_out starts_at last_in_block instruction_no
    records_no little rows buffer cells_in mark_in header_no image_no read_no rewrite_no steps.read_no
fields_pass = refl

header-reads_pass : every passes (at_readers headers) ≡ true
unfolding headers image_f second_f assembled listed_f forking bytes_of
    or_else first_no version_no counts_no rising unjoined joined annotated block_no register operand_fits laid_out starts_at last_in_block instruction_no
    records_no little rows buffer cells_in mark_in header_no image_no read_no rewrite_no steps.read_no
header-reads_pass = refl

record_reads_pass : every passes (at_readers some_records) ≡ true
unfolding some_records image_f second_f assembled listed_f forking bytes_of
    or_else first_no version_no counts_no rising unjoined joined annotated block_no register operand_fits laid_out starts_at last_in_block instruction_no
    records_no little rows buffer cells_in mark_in header_no image_no read_no rewrite_no steps.read_no
record_reads_pass = refl

programs_pass : every passes program_rows ≡ true
unfolding program_rows buffers versions some_records writes program_f only_halt image_f second_f assembled listed_f forking bytes_of
    or_else first_no version_no counts_no rising unjoined joined annotated block_no register operand_fits laid_out starts_at last_in_block instruction_no
    records_no little rows buffer cells_in program_no write_no start_no_by rank state_no_by outcome
programs_pass = refl

starts_pass : every passes start_rows ≡ true
unfolding start_rows program_f image_f
    or_else first_no version_no counts_no rising unjoined joined annotated block_no register operand_fits laid_out starts_at last_in_block instruction_no
    records_no little rows buffer cells_in program_no start_no_by rank
starts_pass = refl

lent_pass : every passes lent_rows ≡ true
unfolding lent_rows program_f only_halt image_f
    or_else first_no version_no counts_no rising unjoined joined annotated block_no register operand_fits laid_out starts_at last_in_block instruction_no
    records_no little rows buffer cells_in program_no slot_no
    rank front passes_all frames_of tiles hollow every_slot is_target formed is_vacant reads fresh
    operand asked belong fits promotes step copied join settle carry
lent_pass = refl

shapes_pass : every passes shape_rows ≡ true
unfolding shape_rows program_f image_f
    or_else first_no version_no counts_no rising unjoined joined annotated block_no register operand_fits laid_out starts_at last_in_block instruction_no
    records_no little rows buffer cells_in program_no slot_no
    rank front passes_all frames_of tiles hollow every_slot is_target formed is_vacant reads fresh
    operand asked belong fits promotes step copied join settle carry
shapes_pass = refl

stacks_pass : every passes stack_rows ≡ true
unfolding stack_rows program_f image_f
    or_else first_no version_no counts_no rising unjoined joined annotated block_no register operand_fits laid_out starts_at last_in_block instruction_no
    records_no little rows buffer cells_in program_no slot_no
    rank front passes_all frames_of tiles hollow every_slot is_target formed is_vacant reads fresh
    operand asked belong fits promotes step copied join settle carry
stacks_pass = refl

slots_pass : every passes slot_rows ≡ true
unfolding slot_rows program_f image_f
    or_else first_no version_no counts_no rising unjoined joined annotated block_no register operand_fits laid_out starts_at last_in_block instruction_no
    records_no little rows buffer cells_in program_no slot_no
    rank front passes_all frames_of tiles hollow every_slot is_target formed is_vacant reads fresh
    operand asked belong fits promotes step copied join settle carry
slots_pass = refl

runs_pass : every passes run_rows ≡ true
unfolding run_rows program_f image_f
    or_else first_no version_no counts_no rising unjoined joined annotated block_no register operand_fits laid_out starts_at last_in_block instruction_no
    records_no little rows buffer cells_in program_no slot_no
    rank front passes_all frames_of tiles hollow every_slot is_target formed is_vacant reads fresh
    first_running next_pick passing follows
    operand asked belong fits promotes step copied join settle carry
runs_pass = refl

header_jobs_pass : every passes (at_jobs headers) ≡ true
unfolding headers image_f second_f assembled listed_f forking bytes_of
    or_else first_no version_no counts_no rising unjoined joined annotated block_no register operand_fits laid_out starts_at last_in_block instruction_no
    records_no little rows buffer cells_in mark_in header_no image_no program_no start_no_by rank
    ends_exactly job_no replay_no run_no
header_jobs_pass = refl

record_jobs_pass : every passes (at_jobs some_records) ≡ true
unfolding some_records image_f second_f assembled listed_f forking bytes_of
    or_else first_no version_no counts_no rising unjoined joined annotated block_no register operand_fits laid_out starts_at last_in_block instruction_no
    records_no little rows buffer cells_in mark_in header_no image_no program_no start_no_by rank
    ends_exactly job_no replay_no run_no
record_jobs_pass = refl

own_jobs_pass : every passes own_rows ≡ true
unfolding own_rows job_f image_f
    or_else first_no version_no counts_no rising unjoined joined annotated block_no register operand_fits laid_out starts_at last_in_block instruction_no
    records_no little rows buffer cells_in mark_in header_no image_no program_no start_no_by rank
    ends_exactly job_no replay_no run_no
own_jobs_pass = refl

bytes_pass : every passes byte_rows ≡ true
unfolding byte_rows short_buffers lent_bytes short only_halt
    or_else first_no version_no counts_no rising unjoined joined annotated block_no register operand_fits laid_out starts_at last_in_block instruction_no
    records_no little bytes_of rows buffer cells_in program_no write_no start_no_by rank
    in_bytes integers_in table cells_of steps.written_no steps.started_no steps.lent_no steps.picked_no steps.ran_no
bytes_pass = refl

faults_pass : every passes fault_rows ≡ true
unfolding fault_rows operations others on_stacks going_on ending assembled bytes_of little rows buffer cells_in operand asked belong fits promotes step
faults_pass = refl

lanes_pass : every passes lane_rows ≡ true
unfolding lane_rows program_f image_f job_f
    or_else first_no version_no counts_no rising unjoined joined annotated block_no register operand_fits laid_out starts_at last_in_block instruction_no
    records_no little rows buffer cells_in mark_in header_no image_no program_no start_no_by dispatch_no_by dispatched
    ends_exactly job_no dispatch_job_no
    rank front passes_all frames_of tiles hollow every_slot is_target formed is_vacant reads fresh
    follows rounds taken operand asked belong fits promotes step copied join settle carry
lanes_pass = refl

rounds_pass : every passes round_rows ≡ true
unfolding round_rows program_f image_f
    or_else first_no version_no counts_no rising unjoined joined annotated block_no register operand_fits laid_out starts_at last_in_block instruction_no
    records_no little rows buffer cells_in program_no dispatch_no_by dispatched
    rank front passes_all frames_of tiles hollow every_slot is_target formed is_vacant reads fresh
    follows rounds taken operand asked belong fits promotes step copied join settle carry
rounds_pass = refl

texts_pass : every passes text_rows ≡ true
unfolding text_rows job_f image_f assembled calling pop_in_sides pushing bytes_of
    or_else first_no version_no counts_no rising unjoined joined annotated block_no register operand_fits laid_out starts_at last_in_block instruction_no
    records_no little rows buffer cells_in mark_in header_no image_no program_no start_no_by rank
    ends_exactly job_no integers_in reads fresh unless_refused
    first_running next_pick passing follows operand asked belong fits promotes step copied join settle carry
    digits register_line register_lines text_of text_in
texts_pass = refl

-- ---- All of them

every_append : {A : Type 0} (test : A → Bool) (xs ys : List A) → every test xs ≡ true → every test ys ≡ true → every test (xs ++ ys) ≡ true
every_append test [] ys e h = h
every_append test (x ∷ xs) ys e h =
    let p = both_true (test x) (every test xs) e in rw p.0 (every_append test xs ys p.1 h)

images_pass : every passes image_rows ≡ true
unfolding image_rows
images_pass =
    every_append passes (at_check headers) _ headers_pass
    (every_append passes (at_check records) _ records_pass
    (every_append passes (at_check second_records) _ seconds_pass
    (every_append passes (at_check fields) _ fields_pass (every_append passes (at_readers headers) _ header-reads_pass record_reads_pass))))

jobs_pass : every passes job_rows ≡ true
unfolding job_rows
jobs_pass = every_append passes (at_jobs headers) _ header_jobs_pass (every_append passes (at_jobs some_records) _ record_jobs_pass own_jobs_pass)

picks_pass : every passes pick_rows ≡ true
unfolding pick_rows
picks_pass =
    every_append passes lent_rows _ lent_pass
    (every_append passes shape_rows _ shapes_pass
    (every_append passes stack_rows _ stacks_pass (every_append passes slot_rows _ slots_pass runs_pass)))

all_pass : every passes doors ≡ true
unfolding doors
all_pass =
    every_append passes image_rows _ images_pass
    (every_append passes program_rows _ programs_pass
    (every_append passes start_rows _ starts_pass
    (every_append passes pick_rows _ picks_pass
    (every_append passes job_rows _ jobs_pass
    (every_append passes byte_rows _ bytes_pass
    (every_append passes fault_rows _ faults_pass
    (every_append passes lane_rows _ lanes_pass (every_append passes round_rows _ rounds_pass texts_pass))))))))

pub every_door : EveryDoor
every_door x h = right x (every-at passes doors all_pass x h)
