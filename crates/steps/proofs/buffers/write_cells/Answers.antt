-- `write_cells` meets its contract.
use Rattle.steps.proofs.buffers.write_cells.Goals as goal
use mathlib.Core.Path.{refl, ◌∙◌}
use native.Mathlib.Omega.{arith}
use Rattle.steps.proofs.Cells.{written_none, written-more, written_all}

pub loop-i-init : goal.loop-i-init
loop-i-init c = (omega arith, refl, written_none _ c.args.cells.now)

pub loop-i-preserved : goal.loop-i-preserved
loop-i-preserved c =
    let a = c.args in
    let l = c.loop-i in
    let test = c.loop-i-test.true in (
      omega arith,
      c.write_u64.auto.bytes ∙ l.invariant.1,
      written-more a.out.now l.out _ a.cells.now l.i test l.invariant.2 c.write_u64.ensures,
    )

pub returns : goal.returns
returns c =
    let a = c.args in
    let l = c.loop-i in
    written_all a.out.now l.out a.cells.now l.i c.requires c.loop-i-test.false l.invariant.2
