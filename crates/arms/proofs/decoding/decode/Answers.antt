-- `decode` meets its contract.
use native.Mathlib.Omega.{arith}
use Rattle.image.proofs.Accepted.{accepted}
use Rattle.arms.proofs.decoding.decode.Goals as goal

pub instruction_count-n-requires : goal.instruction_count-n-requires
instruction_count-n-requires c =
    let k = accepted c.args.program.now.cells.now c.args.program.now.accepted in
    omega (arith, (k.instruction 0 (omega (arith, k.some_instruction))).is_stored)
