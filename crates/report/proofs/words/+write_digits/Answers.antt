-- The digits before the last stand where the call put them, and the last behind them.
use Rattle.std.proofs.Common.{◌≡◌, ◌+◌, arith}
use Rattle.report.proofs.Writing.{written_then, written_as}
use Rattle.report.proofs.Decimals.{no_fuel, one-digit, digits-before}
use Rattle.report.proofs.words.+write_digits.Goals as goal

pub returns-then-fuel-eq0 : goal.returns-then-fuel-eq0
returns-then-fuel-eq0 t c =
    let a = c.args in written_as (a.fuel + 1) _ c.write_digit.ensures (no_fuel a.fuel a.n c.if-fuel-eq0.true) (omega arith)

pub returns-then-n-lt10 : goal.returns-then-n-lt10
returns-then-n-lt10 t c =
    let a = c.args in written_as (a.fuel + 1) _ c.write_digit-then-n-lt10.ensures (one-digit a.fuel a.n c.if-n-lt10.true) (omega arith)

pub returns : goal.returns
returns t c =
    let a = c.args in
    let falls : a.fuel ≡ 0 → ⊥ = c.if-fuel-eq0.false in
    written_as (a.fuel + 1) _ (written_then c.write_digits-next.ensures c.write_digit-2.ensures)
    (digits-before a.fuel a.n falls c.if-n-lt10.false)
    (omega arith)
