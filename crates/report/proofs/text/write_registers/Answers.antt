-- `write_registers` meets its contract.
use Rattle.std.proofs.Common.{◌≡◌, ap, arith}
use Rattle.report.proofs.Writing.{written_as}
use Rattle.report.specs.Text.{register_lines}
use Rattle.report.proofs.Lines.{no_lines, line-more}
use Rattle.report.proofs.text.write_registers.Goals as goal

pub loop-i-init : goal.loop-i-init
loop-i-init c = no_lines _ _ _

pub loop-i-preserved : goal.loop-i-preserved
loop-i-preserved c =
    line-more c.args.registers.now c.loop-i.i c.loop-i.invariant c.write_register-next.ensures

pub returns : goal.returns
returns c =
    let l = c.loop-i in
    let e : l.i ≡ 16 = omega arith in
    written_as 800 _ l.invariant (ap (register_lines c.args.registers.now) e) (omega arith)
