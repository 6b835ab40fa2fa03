-- `branch_plain` meets its contract.
use Rattle.std.proofs.Common.{rules}
use Rattle.arms.specs.Registers.{Sized}
use Rattle.std.proofs.Common.{◌-◌, ◌/◌}
use Rattle.task.specs.declared.Value.TheVariants.{Label}
use Rattle.arms.specs.Arms.{active}
use native.Mathlib.Omega.{arith}
use Rattle.arms.proofs.LeadLaws.{leads_on, stays, enters_plain, branch_other, branch_taken, falls_through}
use Rattle.arms.proofs.jumps.branch_plain.Goals as goal

pub returns-then-registers-s-ne0 : goal.returns-then-registers-s-ne0
returns-then-registers-s-ne0 c =
    let sized : Sized c.args.registers.now.nums c.args.registers.now.kinds = search rules in
    λ cells interval places left b u p n l depth w o.
    let t = active places (c.args.pc / 4) (c.args.beat - left) depth in
    stays cells 31 c.args.pc c.args.beat left (omega arith)
    (branch_other c.args.registers.now.nums c.args.registers.now.kinds c.args.s sized c.requires.0 cells w interval (Label b) t o c.if-registers-s-ne0.true) p l

pub returns-then-registers-s-eq0 : goal.returns-then-registers-s-eq0
returns-then-registers-s-eq0 c =
    let sized : Sized c.args.registers.now.nums c.args.registers.now.kinds = search rules in
    λ cells interval places left b u p n l depth w o.
    rw (branch_taken c.args.registers.now.nums c.args.registers.now.kinds c.args.s sized c.requires.0 cells w interval (Label b) _ o c.if-registers-s-ne0.false c.if-registers-s-eq0.true)
    (enters_plain cells interval b places left c.args.beat c.args.v (c.args.pc / 4) depth u l)

pub returns : goal.returns
returns c =
    let sized : Sized c.args.registers.now.nums c.args.registers.now.kinds = search rules in
    λ cells interval places left b u p n l depth w o.
    leads_on cells c.args.pc c.args.beat left p n l
    (falls_through c.args.registers.now.nums c.args.registers.now.kinds c.args.s sized c.requires.0 cells w interval (Label b) _ o c.if-registers-s-ne0.false c.if-registers-s-eq0.false)
