-- `stands_slots` meets its contract.
use Rattle.std.proofs.Common.{sym, ap, ◌∙◌}
use Rattle.task.proofs.EveryLaws.{every-goes-on, every-stops, every-ends}
use Rattle.state.specs.Reading.{stands_slot}
use Rattle.state.proofs.reader.stands_slots.Goals as goal

pub returns-then-not-stands_slot : goal.returns-then-not-stands_slot
returns-then-not-stands_slot c =
    let l = c.loop-k in
    let here = ap (stands_slot c.args.bytes.now) (sym c.slot_place.ensures.0) ∙ sym c.stands_slot.ensures in
    sym (l.invariant ∙ every-stops _ 64 l.k c.loop-k-test.true (here ∙ c.if-not-stands_slot.true))

pub loop-k-preserved : goal.loop-k-preserved
loop-k-preserved c =
    let l = c.loop-k in
    let here = ap (stands_slot c.args.bytes.now) (sym c.slot_place.ensures.0) ∙ sym c.stands_slot.ensures in
    l.invariant ∙ every-goes-on _ 64 l.k c.loop-k-test.true (here ∙ c.if-not-stands_slot.false)

pub returns : goal.returns
returns c = let l = c.loop-k in sym (l.invariant ∙ every-ends _ 64 l.k c.loop-k-test.false)
