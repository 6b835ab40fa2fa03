-- `decode_one` meets its contract.
use Rattle.std.proofs.Common.{◌≡◌, ◌<◌, ◌≤◌}
use Rattle.image.specs.Layout.{block_count}
use mathlib.Core.Path.{sym, subst}
use Rattle.image.specs.declared.Instruction.{Instruction}
use Rattle.image.proofs.Accepted.{accepted}
use Rattle.arms.proofs.CodeLaws.{decodes_one, opcode-known}
use Rattle.arms.proofs.decoding.decode_one.Goals as goal

pub arm_of-arm-requires : goal.arm_of-arm-requires
arm_of-arm-requires c =
    let cells = c.args.program.now.cells.now in
    let i = (accepted cells c.args.program.now.accepted).instruction c.args.i c.requires.0 in
    let z =
    subst (λ (y : Instruction). (y.opcode ≤ 17) × (y.kind ≤ 3) × (y.kind ≡ 2 → y.operand < block_count cells)) (sym c.instruction-x.ensures)
    (opcode-known i, i.kind_known, i.label_below) in
    z

pub returns : goal.returns
returns c =
    let x = c.instruction-x in
    let r = c.arm_of-arm in
    decodes_one c.args.program.now.cells.now c.args.code.now c.args.i r.result.number r.result.operand x.result x.ensures r.ensures c.requires.1
