-- `ask_cells` meets its contract.
use Rattle.std.proofs.Common.{◌*◌, ℕ}
use Rattle.image.specs.Questions.{program_no}
use Rattle.state.specs.Reading.{table, number_at}
use Rattle.steps.proofs.buffers.ask_cells.Goals as goal
use mathlib.Core.Path.{ap, ◌∙◌}
use Rattle.steps.proofs.Cells.{front_length, questions_front}

pub returns : goal.returns
returns c =
    let bytes = c.args.program.now in
    let n = c.cells_in-count in
    c.ask_read.ensures
    ∙ ap (λ (k : ℕ). program_no (table (λ i. number_at bytes (8 * i)) k)) (front_length {A = ℕ} 5891 n.result 0 n.ensures.1)
    ∙ questions_front bytes n.result n.ensures.0 n.ensures.2
