-- `write_line` meets its contract.
use Rattle.report.proofs.words.write_line.Goals as goal
use mathlib.Core.Path.{refl}
use Prim.Native.Nat.{◌+◌}
use native.Mathlib.Omega.{arith}
use lib.ListN.{length}
use Rattle.report.proofs.Writing.{written_then, written_as}

pub returns : goal.returns
returns c =
    let a = c.args in
    written_as (length a.word.now + 21) _
    (written_then (written_then c.write_word-number.ensures c.write_decimal-end.ensures) c.write_word.ensures)
    refl
    (omega arith)
