-- `ask_blocks` meets its contract.
use Rattle.std.proofs.Common.{ℕ, ◌<◌}
use Rattle.image.specs.Layout.{block_count}
use Rattle.image.specs.Questions.{block_no}
use Rattle.image.specs.Marks.{Marked}
use Rattle.image.proofs.questions.ask_blocks.Goals as goal
use mathlib.Core.Path.{sym, ◌∙◌, subst}
use Rattle.image.proofs.Asked.{its_goes_on, decides, no_more}
use Rattle.image.proofs.Accepted.{block_is}
use Rattle.image.proofs.Marking.{marked_more}
use Rattle.image.proofs.Refusals.{exit_refused, exit_no}
use native.Mathlib.Omega.{arith}

pub returns-in_err-ask_block : goal.returns-in_err-ask_block
returns-in_err-ask_block c =
    let cells = c.args.cells.now in
    let refused = exit_refused c.from_residual.result c.in_err-ask_block.field-0.0 c.from_residual.ensures.1 in
    let asked = exit_no c.from_residual.result c.in_err-ask_block.field-0.0 c.from_residual.ensures.1 ∙ c.in_err-ask_block.ensures in
    record {
      value = asked ∙ sym (c.loop-b.invariant.0 ∙ decides (block_no cells) (block_count cells) c.loop-b.b (omega arith) (λ e. refused (asked ∙ e)));
      marked = λ e. absurd (refused e);
    }

pub bounds-cells-b : goal.bounds-cells-b
bounds-cells-b c = omega (arith, (block_is c.args.cells.now c.loop-b.b (omega arith) (sym c.in_ok-ask_block.ensures)).is_stored)

pub bounds-marks-first : goal.bounds-marks-first
bounds-marks-first c = omega (arith, (block_is c.args.cells.now c.loop-b.b (omega arith) (sym c.in_ok-ask_block.ensures)).first_below, c.loop-b.invariant.1.sized)

pub loop-b-preserved : goal.loop-b-preserved
loop-b-preserved c =
    let cells = c.args.cells.now in
    let passed = sym c.in_ok-ask_block.ensures in
    let below : c.loop-b.b < block_count cells = omega arith in (
      c.loop-b.invariant.0 ∙ its_goes_on (block_no cells) (block_count cells) c.loop-b.b below passed,
      marked_more cells c.loop-b.b c.loop-b.marks c.loop-b.invariant.1 (omega (arith, (block_is cells c.loop-b.b (omega arith) passed).first_below)),
    )

pub returns : goal.returns
returns c =
    let cells = c.args.cells.now in
    record {
      value = sym (c.loop-b.invariant.0 ∙ no_more (block_no cells) (block_count cells) c.loop-b.b (omega arith));
      marked = λ z. subst (λ (n : ℕ). Marked cells n c.loop-b.marks) (omega arith) c.loop-b.invariant.1;
    }
