-- `write_record` meets its contract.
use Rattle.report.proofs.text.write_record.Goals as goal
use Rattle.report.proofs.Writing.{written_then}

pub returns : goal.returns
returns c =
    written_then (written_then (written_then c.write_word-first.ensures c.write_decimal-space.ensures) c.write_word-second.ensures)
    c.write_decimal.ensures
