-- `next_listed` meets its contract.
use Rattle.std.proofs.Common.{◌≡◌, ◌∙◌, ap, length, arith}
use Rattle.facts.proofs.Tests.{by-below}
use Rattle.turns.specs.declared.course.Position.{Position}
use Rattle.turns.specs.declared.course.Next.TheVariants.{First}
use Rattle.turns.specs.Stretches.{stretch_of, done}
use Rattle.turns.proofs.LeafLaws.{slot_past, slot_found, slots_out}
use Rattle.turns.proofs.course.next_listed.Goals as goal

pub returns-then-slot-places : goal.returns-then-slot-places
returns-then-slot-places c =
    ap (λ (p : Position). stretch_of (First p)) c.walking.ensures
    ∙ slot_found c.args.order.now c.loop-at.at c.args.places c.args.work _
    c.loop-at-test.true c.from-slot.ensures c.if-slot-places.true c.stop_at.ensures c.loop-at.invariant.0

pub loop-at-preserved : goal.loop-at-preserved
loop-at-preserved c = (
  slot_past c.args.order.now c.loop-at.at c.args.places c.args.work _
      c.loop-at-test.true c.from-slot.ensures c.if-slot-places.false c.loop-at.invariant.0,
  λ none. absurd (omega (arith, none, c.loop-at-test.true, c.loop-at.auto.at)),
)

pub returns : goal.returns
returns c =
    let last : c.max.result ≡ c.loop-at.at =
    by-below c.args.begun (length c.args.order.now)
    (λ some. omega (arith, c.max.ensures, c.loop-at-test.false, c.loop-at.auto.at-end (omega arith)))
    (λ none. omega (arith, c.max.ensures, c.loop-at.invariant.1 none)) in
    ap done last ∙ slots_out c.args.order.now c.loop-at.at c.args.places c.args.work c.loop-at-test.false c.loop-at.invariant.0
