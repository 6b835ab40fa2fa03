-- `int64::write` meets its contract: the first N of eight bytes are the N low bytes.
use Rattle.std.proofs.Common.{ap, ◌∙◌, take}
use Rattle.int64.proofs.Little.{number-written}
use Rattle.int64.proofs.write.Goals as goal

pub returns : goal.returns
returns g c =
    number-written g.row.N c.args.bytes.now c.copy_from_slice.new.self c.args.at c.args.x c.requires.inside c.requires.size
    (c.copy_from_slice.ensures.after ∙ ap (take g.row.N) c.to_le_bytes-low.ensures)
