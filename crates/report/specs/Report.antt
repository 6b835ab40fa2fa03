-- The report of a run, and its bytes: 53 numbers of 64 bits, little-endian.
use Rattle.std.specs.Prelude.{Bool, true, false, List, ◌∷◌, [], ◌++◌, ℕ, get_or}
use Rattle.image.specs.Layout.{rows}
use Rattle.task.specs.Frames.{zero_register, zeros}
use Rattle.drive.specs.declared.State.{State}
use Rattle.drive.specs.declared.End.{End}
use Rattle.drive.specs.declared.End.TheVariants.{NotEnded, Halt, Fault}
use Rattle.drive.specs.Slots.{at}
use Rattle.drive.specs.Ending.{ending, job_ended}
use Rattle.report.specs.declared.Report.{Report}
use Rattle.state.specs.Numbers.{value_numbers, in_bytes}

-- a job that has ended reports the span and the registers of slot 0; one that has not is spent, and reports the work alone
abbrev pub report_by : Bool → State → ℕ → Report
report_by true m picks = record {
  end = ending m;
  picks = picks;
  work = m.work;
  span = (at m 0).task.span;
  registers = (at m 0).registers;
}
report_by false m picks = record { end = ending m; picks = picks; work = m.work; span = 0; registers = zeros }

-- of the state after a run, and the picks that the run carried out
abbrev pub report_of : State → ℕ → Report
report_of m picks = report_by (job_ended m) m picks

-- ---- Its bytes

abbrev pub end_number : End → ℕ
end_number NotEnded = 0
end_number Halt = 1
end_number (Fault n) = 2

-- 0 where the job has not ended with a fault
abbrev pub end_fault : End → ℕ
end_fault NotEnded = 0
end_fault Halt = 0
end_fault (Fault n) = n

-- end, fault number, picks, work, span, then the 16 registers
unfoldable pub report_numbers : Report → List ℕ
report_numbers r =
    end_number r.end ∷ end_fault r.end ∷ r.picks ∷ r.work ∷ r.span
    ∷ rows (λ i. value_numbers (get_or r.registers i zero_register).value) 16

abbrev pub report_length : ℕ
report_length = 424

abbrev pub report_bytes : Report → List ℕ
report_bytes r = in_bytes (report_numbers r)

-- ---- The report of rounds: the same, and then how many were begun

abbrev pub rounds_report_length : ℕ
rounds_report_length = 432

abbrev pub rounds_report_bytes : Report → ℕ → List ℕ
rounds_report_bytes r rounds = in_bytes (report_numbers r ++ (rounds ∷ []))
