-- `enter` meets its contract.
use mathlib.Core.Path.{sym, ap, ◌∙◌}
use native.Mathlib.Omega.{arith}
use Rattle.image.specs.Layout.{block_of}
use Rattle.image.proofs.Accepted.{accepted}
use Rattle.arms.proofs.LeadLaws.{enters_handler, enters_block}
use Rattle.arms.proofs.jumps.enter.Goals as goal

pub first-first-requires : goal.first-first-requires
first-first-requires c =
    let k = accepted c.args.code.now.program.cells.now c.args.code.now.program.accepted in
    rw c.label-handler.ensures (k.block _ c.requires.0).label_below

pub overflow_mul-result : goal.overflow_mul-result
overflow_mul-result c =
    let k = accepted c.args.code.now.program.cells.now c.args.code.now.program.accepted in
    let f = (k.block _ (k.block _ c.requires.0).label_below).first_below in
    omega (arith, f, k.few_instructions, c.first-first.ensures ∙ ap (λ b. (block_of c.args.code.now.program.cells.now b).first) c.label-handler.ensures)

pub returns-then-is_promoted : goal.returns-then-is_promoted
returns-then-is_promoted c =
    let cells = c.args.code.now.program.cells.now in
    λ i depth.
    enters_handler cells c.args.code.now.program.accepted c.args.code.now.interval c.args.b c.args.task.places c.args.task.left c.args.task.beat c.first-first.result i depth
    c.requires.0
    c.requires.1 (sym c.is_promoted.ensures ∙ c.if-is_promoted.true)
    (c.first-first.ensures ∙ ap (λ b. (block_of cells b).first) c.label-handler.ensures)

pub overflow_mul-result-2 : goal.overflow_mul-result-2
overflow_mul-result-2 c =
    let k = accepted c.args.code.now.program.cells.now c.args.code.now.program.accepted in
    omega (arith, c.first-first-2.ensures, (k.block _ c.requires.0).first_below, k.few_instructions)

pub returns : goal.returns
returns c =
    λ i depth.
    enters_block c.args.code.now.program.cells.now c.args.code.now.program.accepted c.args.code.now.interval c.args.b c.args.task.places c.args.task.left c.args.task.beat
    c.first-first-2.result i depth
    c.requires.0 c.requires.1 (sym c.is_promoted.ensures ∙ c.if-is_promoted.false) c.first-first-2.ensures
