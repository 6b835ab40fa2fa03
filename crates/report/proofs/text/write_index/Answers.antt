-- `write_index` meets its contract.
use Rattle.report.proofs.text.write_index.Goals as goal
use native.Mathlib.Omega.{arith}
use Rattle.report.proofs.Decimals.{index_short}

pub returns : goal.returns
returns c =
    let w = c.write_decimal.ensures in
    record { stored = w.stored; ends = w.ends; short = omega (arith, w.ends, index_short c.args.i c.requires.1) }
