-- `run_job` meets its contract.
use Rattle.std.proofs.Common.{arith, ◌∙◌}
use lib.IntN.{pos}
use Rattle.job.proofs.run_job.Goals as goal
use Rattle.steps.proofs.Cells.{front_length}
use Rattle.job.proofs.PlainRun.{cells-stored, few_instructions}

pub instruction_count-requires : goal.instruction_count-requires
instruction_count-requires g c = let job = c.args.job.now in cells-stored job.input.bytes.now job.accepted job.read

pub whole_as_front-run_decoded : goal.whole_as_front-run_decoded
whole_as_front-run_decoded g c =
    (omega (arith, c.word_count-count.ensures.0, c.requires.0), omega (arith, c.requires.1))

pub whole_as_front-run_decoded-2 : goal.whole_as_front-run_decoded-2
whole_as_front-run_decoded-2 g c =
    (omega (arith, c.word_count-count.ensures.0, c.requires.0), omega (arith, c.requires.1))

pub run_decoded-requires : goal.run_decoded-requires
run_decoded-requires g c =
    let counted = c.word_count-count.ensures.0 in (
      front_length g.row.WORDS c.word_count-count.result (pos 0) (omega (arith, counted, c.requires.0)) ∙ counted,
      omega (arith, c.instruction_count.ensures, c.if-instruction_count-le-FEW_INSTRUCTIONS.true),
      omega arith,
    )

pub run_decoded-requires-2 : goal.run_decoded-requires-2
run_decoded-requires-2 g c =
    let job = c.args.job.now in
    let counted = c.word_count-count.ensures.0 in (
      front_length g.row.WORDS c.word_count-count.result (pos 0) (omega (arith, counted, c.requires.0)) ∙ counted,
      omega (arith, few_instructions job.input.bytes.now job.accepted job.read),
      omega arith,
    )
