-- `write_word` meets its contract.
use Rattle.std.proofs.Common.{refl}
use Rattle.report.proofs.Writing.{word_written}
use Rattle.report.proofs.words.write_word.Goals as goal

pub returns : goal.returns
returns c =
    let a = c.args in
    word_written a.out.now c.copy_from_slice.new.self a.word.now a.at _ refl c.requires c.copy_from_slice.ensures.after
