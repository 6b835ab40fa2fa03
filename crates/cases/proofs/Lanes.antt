-- The rows on lanes are right: antt computes the rounds of each from a fresh start, which is what start hands back.
use mathlib.Core.Path.{◌≡◌, refl, subst⁻¹}
use mathlib.Core.Bool.{Bool, true, not, ◌&&◌}
use Prim.Native.Nat.{ℕ, ◌-◌}
use lib.Dec.{eqb}
use borrow.Author.Tests.{eqb-true, not-true}
use Rattle.facts.proofs.Tests.{both_true}
use Rattle.int64.specs.Little.{little, bytes_of}
use Rattle.image.specs.Layout.{rows, buffer, cells_in}
use Rattle.image.specs.Questions.{or_else, first_no, version_no, counts_no, rising, unjoined, joined, annotated, block_no, register, operand_fits, laid_out, starts_at, last_in_block, instruction_no, records_no}
use Rattle.image.specs.Doors.{mark_in, header_no, image_no}
use Rattle.agreement.specs.Plain.{eval}
use Rattle.agreement.specs.Slots.{settle, carry}
use Rattle.agreement.specs.Picks.{pick, play}
use Rattle.task.specs.Effect.{asked, belong, fits}
use Rattle.task.specs.Step.{operand, promotes, step, copied, join}
use Rattle.task.specs.Stretches.{reads}
use Rattle.drive.specs.declared.State.{State}
use Rattle.drive.specs.Settings.{rank}
use Rattle.drive.specs.Ending.{job_ended}
use Rattle.drive.specs.Courses.{Run, follows}
use Rattle.drive.specs.Rounds.{Rounding, taken, rounds}
use Rattle.machine.specs.Starting.{fresh}
use Rattle.orders.proofs.Plays.{fresh_job, started_job}
use Rattle.cases.specs.Assembly.{assembled}
use Rattle.cases.specs.Cases.{job_of}
use Rattle.cases.specs.ProgramF.{forking, image_f}
use Rattle.cases.specs.Table.{case_f}
use Rattle.cases.specs.Lanes.{LaneRow, lane_rows, rounds_of, Takes, LaneCases}
use Rattle.cases.proofs.Test.{every, passes}
use Rattle.cases.proofs.Enough.{every-at, right}

abbrev fresh_rounds : LaneRow → ℕ → Run Rounding
fresh_rounds row budget = rounds_of row (fresh_job (job_of row.case)) budget

abbrev lane_test : LaneRow → Bool
lane_test row =
    passes row.case
    && (eqb (fresh_rounds row row.rounds).kept.done row.rounds
    && (job_ended (fresh_rounds row row.rounds).state && not (job_ended (fresh_rounds row (row.rounds - 1)).state)))

lanes_pass : every lane_test lane_rows ≡ true
unfolding lane_rows image_f case_f assembled forking bytes_of little rows buffer cells_in
    image_no mark_in header_no or_else first_no version_no counts_no rising unjoined joined annotated block_no register operand_fits laid_out starts_at
    last_in_block instruction_no records_no
    eval step operand asked promotes belong fits copied join
    play pick carry settle reads rank fresh
    follows rounds taken
lanes_pass = refl

pub lane_cases : LaneCases
lane_cases row h m =
    let t = every-at lane_test lane_rows lanes_pass row h in
    let a = both_true (passes row.case) _ t in
    let b = both_true (eqb (fresh_rounds row row.rounds).kept.done row.rounds) _ a.1 in
    let c = both_true (job_ended (fresh_rounds row row.rounds).state) _ b.1 in
    let j = job_of row.case in
    subst⁻¹ (λ (n : State). Takes row n) (started_job j (right row.case a.0).start_accepted m) (record {
      counted = eqb-true _ row.rounds b.0;
      ended = c.0;
      not_before = not-true (job_ended (fresh_rounds row (row.rounds - 1)).state) c.1;
    })
