-- What the loop of `write_registers` keeps.
use Rattle.std.proofs.Common.{◌*◌}
use Rattle.report.specs.Words.{Written}
use Rattle.report.specs.Text.{register_lines}
use Rattle.report.proofs.text.write_registers.Given as goal

abbrev pub invariant-loop-i : goal.invariant-loop-i
invariant-loop-i l = Written (50 * l.i) l.initial.out l.at (register_lines l.registers l.i) l.out l.next
