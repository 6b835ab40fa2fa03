-- `fetch` meets its contract.
use Rattle.std.proofs.Common.{rules, ◌∙◌, arith}
use Rattle.task.proofs.Computing.{index_negative, index_past, gives-word}
use Rattle.task.proofs.arithmetic.fetch.Goals as goal

pub returns-in_default-try_from : goal.returns-in_default-try_from
returns-in_default-try_from c = λ p k s o.
    c.fault-in_default-try_from.ensures
    ∙ index_negative p k c.args.words.now s c.args.v c.args.t o c.in-Int.is (search rules) c.in_default-try_from.ensures

pub returns-in_default-get : goal.returns-in_default-get
returns-in_default-get c = λ p k s o.
    c.fault-in_default-get.ensures
    ∙ index_past p k c.args.words.now s c.args.v c.args.t o c.in-Int.is (search rules) c.in-Ok.ensures (omega (arith, c.in_default-get.ensures))

pub returns : goal.returns
returns c = λ p k s o.
    c.store.ensures
    ∙ gives-word p k c.args.words.now s c.args.v c.args.t o c.in-Int.is (search rules) c.in-Ok.ensures (omega (arith, c.in-Some.ensures))
    (search rules)
