-- `is_rising` meets its contract.
use Rattle.std.proofs.Common.{◌+◌, ◌-◌, ◌/◌, ◌≡◌}
use Rattle.image.specs.Questions.{rising}
use Rattle.image.proofs.questions.is_rising.Goals as goal
use mathlib.Core.Path.{sym, ap, ◌∙◌}
use native.Mathlib.Omega.{arith}
use Rattle.image.proofs.Pairs.{rising_falls, rising-goes-on, rising_none, rising-one}

pub returns-then-rest : goal.returns-then-rest
returns-then-rest c =
    let l = c.loop-pair in
    sym (l.invariant ∙ rising_falls (c.args.pairs + 1 - l._pair) l.rest (omega arith) c.if-rest.true)

pub loop-pair-preserved : goal.loop-pair-preserved
loop-pair-preserved c =
    let l = c.loop-pair in
    let less : c.args.pairs + 1 - l._pair - 1 ≡ c.args.pairs + 1 - (l._pair + 1) = omega arith in
    l.invariant ∙ rising-goes-on (c.args.pairs + 1 - l._pair) l.rest (omega arith) c.if-rest.false ∙ ap (λ n. rising n (l.rest / 256)) less

pub returns-then-pairs-eq0 : goal.returns-then-pairs-eq0
returns-then-pairs-eq0 c = sym (c.loop-pair.invariant ∙ rising_none (c.args.pairs + 1 - c.loop-pair._pair) c.loop-pair.rest (omega arith))

pub returns : goal.returns
returns c = sym (c.loop-pair.invariant ∙ rising-one (c.args.pairs + 1 - c.loop-pair._pair) c.loop-pair.rest (omega arith) (λ e. omega arith))
