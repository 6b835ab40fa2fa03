-- `read_values` meets its contract.
use Rattle.std.proofs.Common.{length, refl, sym, ◌∙◌, arith}
use Rattle.state.proofs.Rooms.{value-stands}
use Rattle.state.proofs.Zeros.{zeros_table}
use Rattle.state.proofs.Filling.{filled_none, filled_more, filled_all}
use Rattle.state.proofs.reader.read_values.Goals as goal

pub returns-then-is_clear : goal.returns-then-is_clear
returns-then-is_clear c =
    let a = c.args in
    c.requires.zero ∙ zeros_table a.bytes.now a.at (length a.values.now) (sym c.is_clear.ensures ∙ c.if-is_clear.true)

pub loop-i-init : goal.loop-i-init
loop-i-init c = filled_none _ _ _ refl

pub read_register-requires : goal.read_register-requires
read_register-requires c =
    let a = c.args in
    let l = c.loop-i in
    let below = c.loop-i-test.true in
    (omega (arith, c.requires.inside), value-stands a.bytes.now a.at (length a.values.now) c.requires.stand l.i below)

pub loop-i-preserved : goal.loop-i-preserved
loop-i-preserved c =
    let l = c.loop-i in
    filled_more _ _ l.values l.i _ l.invariant c.loop-i-test.true c.read_register.ensures

pub returns : goal.returns
returns c = let l = c.loop-i in filled_all _ _ l.values l.i l.invariant c.loop-i-test.false
