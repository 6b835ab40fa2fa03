-- The buffer has as many zeros as it is made of.
use Rattle.tpal_run.proofs.Text.{counted}
use Rattle.tpal_run.proofs.main.Goals as goal

pub slice_bounds-answer-end : goal.slice_bounds-answer-end
slice_bounds-answer-end c = counted 589951
