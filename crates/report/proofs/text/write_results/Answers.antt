-- `write_results` meets its contract.
use Rattle.report.proofs.Writing.{written_then}
use Rattle.report.proofs.text.write_results.Goals as goal

pub returns : goal.returns
returns c = written_then c.write_line-next.ensures c.write_registers.ensures
