-- `evaluate_job` meets its contract.
use Rattle.std.proofs.Common.{length}
use Rattle.image.specs.Layout.{program_of}
use Rattle.task.specs.Frames.{work_limit}
use Rattle.task.specs.Choices.{chosen}
use Rattle.orders.specs.Demand.{evaluation_of}
use Rattle.outcomes.specs.Outcomes.{report_from}
use Rattle.job.proofs.evaluating.evaluate_job.Goals as goal
use mathlib.Core.Path.{ap, ◌∙◌}
use Rattle.job.proofs.PlainRun.{can_evaluate, found_is, can_report}

pub evaluate-z-requires : goal.evaluate-z-requires
evaluate-z-requires c =
    can_evaluate c.args.cells.now (length c.args.code.now) c.args.places c.args.n c.args.registers.now c.requires _ c.bits_of.ensures

pub report_from-requires : goal.report_from-requires
report_from-requires c =
    let z = c.evaluate-z in
    let found = found_is c.args.cells.now (length c.args.code.now) c.args.places c.args.n c.args.registers.now c.requires _
    c.bits_of.ensures
    c.args.words.now c.args.interval z.ensures.finds.1 in
    can_report c.args.cells.now c.args.n z.result z.ensures.finds.0 _ _
    (evaluation_of (program_of c.args.cells.now) (chosen c.args.interval) c.args.places c.args.registers.now c.args.words.now work_limit)
    c.requires.accepted_program c.requires.limited found z.ensures.left_value z.ensures.closes

pub returns : goal.returns
returns c =
    let z = c.evaluate-z in
    c.report_from.ensures z.ensures.finds.0
    ∙ ap (report_from c.args.n)
    (found_is c.args.cells.now (length c.args.code.now) c.args.places c.args.n c.args.registers.now c.requires _
    c.bits_of.ensures
    c.args.words.now c.args.interval z.ensures.finds.1)
