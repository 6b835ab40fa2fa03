-- `is_tiled` meets its contract, by recursion on the height.
use Rattle.std.proofs.Common.{sym, ◌∙◌, ◌-◌, arith}
use lib.Pow.{pow_pos}
use Rattle.shape.proofs.TiledLaws.{halved, whole_way, no_way, lower_fails_way, upper_fails_way, parent-goes-on_way, child_decides_way}
use Rattle.shape.proofs.tiling.+is_tiled.Goals as goal

pub returns-then-stands_at : goal.returns-then-stands_at
returns-then-stands_at t c =
    let a = c.args in
    c.is_clear.ensures
    ∙ whole_way a.codes.now a.h a.base c.from-c.result c.from-c.ensures c.power.result c.power.ensures (sym c.stands_at.ensures ∙ c.if-stands_at.true)

pub returns-then-h-eq0 : goal.returns-then-h-eq0
returns-then-h-eq0 t c =
    let a = c.args in
    no_way a.codes.now a.h a.base c.from-c.result c.from-c.ensures c.if-h-eq0.true (sym c.stands_at.ensures ∙ c.if-stands_at.false)

pub is_tiled-requires : goal.is_tiled-requires
is_tiled-requires t c = (omega arith, (omega arith, omega (arith, c.power-2.ensures, halved c.args.h c.if-h-eq0.false)))

pub returns-then-not-is_tiled : goal.returns-then-not-is_tiled
returns-then-not-is_tiled t c =
    let a = c.args in
    lower_fails_way a.codes.now a.h a.base c.from-c.result c.from-c.ensures (a.h - 1) c.power-2.result (omega arith) c.power-2.ensures
    (sym c.stands_at.ensures ∙ c.if-stands_at.false)
    (sym c.is_tiled.ensures ∙ c.if-not-is_tiled.true)

pub is_tiled-requires-2 : goal.is_tiled-requires-2
is_tiled-requires-2 t c = (omega arith, (omega arith, omega (arith, c.power-2.ensures, halved c.args.h c.if-h-eq0.false)))

pub returns-then-not-is_tiled-2 : goal.returns-then-not-is_tiled-2
returns-then-not-is_tiled-2 t c =
    let a = c.args in
    upper_fails_way a.codes.now a.h a.base c.from-c.result c.from-c.ensures (a.h - 1) c.power-2.result (omega arith) c.power-2.ensures
    (sym c.stands_at.ensures ∙ c.if-stands_at.false)
    (sym c.is_tiled.ensures ∙ c.if-not-is_tiled.false)
    (sym c.is_tiled-2.ensures ∙ c.if-not-is_tiled-2.true)

pub returns-then-c-h : goal.returns-then-c-h
returns-then-c-h t c =
    let a = c.args in
    parent-goes-on_way a.codes.now a.h a.base c.from-c.result c.from-c.ensures (a.h - 1) c.power-2.result (omega arith) c.power-2.ensures
    (sym c.stands_at.ensures ∙ c.if-stands_at.false)
    (sym c.is_tiled.ensures ∙ c.if-not-is_tiled.false)
    (sym c.is_tiled-2.ensures ∙ c.if-not-is_tiled-2.false)
    c.if-c-h.true

pub bounds-codes-upper : goal.bounds-codes-upper
bounds-codes-upper t c = omega (arith, c.power-2.ensures, halved c.args.h c.if-h-eq0.false, pow_pos (c.args.h - 1))

pub returns : goal.returns
returns t c =
    let a = c.args in
    child_decides_way a.codes.now a.h a.base c.from-c.result c.from-c.ensures (a.h - 1) c.power-2.result (omega arith) c.power-2.ensures
    (sym c.stands_at.ensures ∙ c.if-stands_at.false)
    (sym c.is_tiled.ensures ∙ c.if-not-is_tiled.false)
    (sym c.is_tiled-2.ensures ∙ c.if-not-is_tiled-2.false)
    c.from.result c.from.ensures c.if-c-h.false
