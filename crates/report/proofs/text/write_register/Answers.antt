-- `write_register` meets its contract.
use Rattle.report.specs.Text.{register_line}
use Rattle.report.proofs.text.write_register.Goals as goal
use Rattle.report.proofs.Writing.{written_then}

pub returns : goal.returns
unfolding register_line
returns c =
    written_then (written_then (written_then c.write_word-index.ensures c.write_index-value.ensures) c.write_value-end.ensures)
    c.write_word.ensures
