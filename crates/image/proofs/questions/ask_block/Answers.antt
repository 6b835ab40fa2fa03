-- `ask_block` meets its contract.
use Rattle.std.proofs.Common.{ℕ}
use Rattle.image.specs.Layout.{version_of, block_count, instruction_count}
use Rattle.image.specs.Questions.{block_no}
use Rattle.image.specs.Records.{block_record_no}
use Rattle.image.proofs.questions.ask_block.Goals as goal
use mathlib.Core.Path.{ap₂, ◌∙◌}
use Prim.Native.Nat.{ℕ}
use borrow.Author.Tests.{le-leb, lt-leb}
use Rattle.image.specs.declared.Block.{Block}

pub returns-then-cells-b : goal.returns-then-cells-b
unfolding block_no
returns-then-cells-b c = rw (lt-leb _ _ c.if-cells-b.true)

pub returns : goal.returns
unfolding block_no
returns c =
    let cells = c.args.cells.now in
    rw (le-leb _ _ c.if-cells-b.false)
    (c.ask_block_record.ensures ∙ ap₂ (λ (n : ℕ) (k : Block). block_record_no (version_of cells) (block_count cells) (instruction_count cells) c.args.b n k)
    c.first_before-before.ensures c.block_of-k.ensures)
