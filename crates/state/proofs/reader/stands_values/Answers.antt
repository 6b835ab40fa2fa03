-- `stands_values` meets its contract.
use Rattle.std.proofs.Common.{sym, ap, ◌∙◌, not}
use Rattle.task.proofs.EveryLaws.{every-goes-on, every-stops, every-ends}
use Rattle.state.proofs.Rooms.{some_if}
use Rattle.state.proofs.Zeros.{values_zero}
use Rattle.state.proofs.reader.stands_values.Goals as goal

pub returns-then-is_clear : goal.returns-then-is_clear
returns-then-is_clear c =
    let a = c.args in
    sym (values_zero a.bytes.now a.at a.n (sym c.is_clear.ensures ∙ c.if-is_clear.true))

pub returns-then-is_none : goal.returns-then-is_none
returns-then-is_none c =
    let l = c.loop-i in
    let no = sym (some_if _ _ _ c.value_in.ensures) ∙ c.is_none.ensures ∙ ap not c.if-is_none.true in
    sym (l.invariant ∙ every-stops _ c.args.n l.i c.loop-i-test.true no)

pub loop-i-preserved : goal.loop-i-preserved
loop-i-preserved c =
    let l = c.loop-i in
    let yes = sym (some_if _ _ _ c.value_in.ensures) ∙ c.is_none.ensures ∙ ap not c.if-is_none.false in
    l.invariant ∙ every-goes-on _ c.args.n l.i c.loop-i-test.true yes

pub returns : goal.returns
returns c = let l = c.loop-i in sym (l.invariant ∙ every-ends _ c.args.n l.i c.loop-i-test.false)
