-- What the loop of `write_registers` keeps.
use Rattle.std.proofs.Common.{ℕ, List, length, get_or}
use Rattle.task.specs.declared.Register.{Register}
use Rattle.task.specs.Frames.{zero_register}
use Rattle.state.specs.Numbers.{value_numbers, in_bytes}
use Rattle.state.proofs.Laying.{Laid}
use Rattle.state.proofs.numbers.write_registers.Given as goal

abbrev value_at : List Register → ℕ → List ℕ
value_at registers i = in_bytes (value_numbers (get_or registers i zero_register).value)

abbrev pub invariant-loop-i : goal.invariant-loop-i
invariant-loop-i l = Laid (value_at l.registers) (length l.registers) l.initial.out l.at l.i l.out
