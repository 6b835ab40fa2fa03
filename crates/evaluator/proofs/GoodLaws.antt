-- Live tasks (`Good`): a larger bound, and how deep they are.
use mathlib.Core.Path.{◌≡◌}
use mathlib.Core.List.{List}
use Prim.Native.Nat.{ℕ, ◌+◌, ◌≤◌}
use Rattle.image.specs.Layout.{program_of}
use Rattle.task.specs.declared.Frame.{Frame}
use Rattle.task.proofs.Formation.{formed_is}
use Rattle.task.proofs.Counts.{within_is, is_within, within_more}
use Rattle.evaluator.specs.Sides.{Good}

pub good_more : (cells : List ℕ) (D h : ℕ) {W U : ℕ} (f : Frame) → W ≤ U → Good cells D h W f → Good cells D h U f
good_more cells D h {W} {U} f l g = record { its_is_formed = g.its_is_formed; is_within = is_within U f (within_more l (within_is W f g.is_within)) }

pub good_depth : (cells : List ℕ) (D h W : ℕ) (f : Frame) → Good cells D h W f → f.task.depth + h ≡ D
good_depth cells D h W f g = (formed_is (program_of cells) D h f g.its_is_formed).has_depth
