-- The machine's own step and join meet what the bound asks of spans.
use Prim.Native.Nat.{ℕ, ◌≤◌}
use mathlib.Core.Path.{◌≡◌, refl, ap}
use mathlib.Core.List.{List}
use lib.IntN.{ℤ}
use Rattle.lanes.specs.Spans.{SpanLaws}
use Rattle.image.specs.Layout.{program_of}
use Rattle.task.specs.declared.Task.{Task}
use Rattle.task.specs.declared.Frame.{Frame}
use Rattle.task.specs.Frames.{vacant}
use Rattle.task.specs.Choices.{chosen}
use Rattle.task.proofs.Rules.{task-rules}
use Rattle.task.proofs.Spans.{step-one-span, step-two-span}
use Rattle.drive.proofs.SlotLaws.{put_tasks}
use Rattle.drive.proofs.Models.{model_of}
use Rattle.rounds.specs.Jobs.{span}

pub spans_hold : (cells : List ℕ) (words : List ℤ) (interval places : ℕ) → SpanLaws (model_of cells words interval places) (λ f. f ≡ vacant) span
spans_hold cells words interval places = record {
  of_one = λ f g r e. step-one-span (program_of cells) words (chosen interval) f g e;
  of_two = λ f p c r e. step-two-span (program_of cells) words (chosen interval) f p c e;
  of_join = λ a b. (task-rules.joins (program_of cells) a b).larger_span;
  of_vacant = refl;
  empty_depth = λ f e. ap (λ (g : Frame). g.task.depth) e;
  put_span = λ m k f i n. put_tasks (λ (t : Task). t.span ≤ n) m k f i;
}
