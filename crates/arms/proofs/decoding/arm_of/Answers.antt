-- `arm_of` meets its contract.
use native.Mathlib.Omega.{arith}
use Rattle.image.proofs.Accepted.{accepted}
use Rattle.arms.proofs.decoding.arm_of.Goals as goal

pub annotation-requires : goal.annotation-requires
annotation-requires c = c.requires.2 (c.jumps_to_label.ensures c.if-jumps_to_label.true).0

pub first-first-requires : goal.first-first-requires
first-first-requires c = c.requires.2 (c.jumps_to_label.ensures c.if-jumps_to_label.true).0

pub overflow_mul-result : goal.overflow_mul-result
overflow_mul-result c =
    let k = c.jumps_to_label.ensures c.if-jumps_to_label.true in
    let p = accepted c.args.program.now.cells.now c.args.program.now.accepted in
    omega (arith, c.first-first.ensures, (p.block _ (c.requires.2 k.0)).first_below, p.few_instructions)
