-- What the loop of `encode_blocks` keeps.
use mathlib.Core.Path.{◌≡◌}
use Prim.Native.Nat.{ℕ}
use lib.ListN.{length}
use lib.Seq.{sets}
use Rattle.image.specs.Layout.{rows, block_place, block_cell, version_of, block_of, block_bytes}
use Rattle.image.proofs.writer.encode_blocks.Given as goal

abbrev pub invariant-loop-b : goal.invariant-loop-b
invariant-loop-b l = (l.at ≡ block_place (version_of l.cells) l._b) × (l.from ≡ block_cell l._b) ×
    (length l.image ≡ length l.initial.image) × (l.image ≡ sets l.initial.image (block_place (version_of l.cells) 0) (rows (λ (b : ℕ). block_bytes (version_of l.cells) (block_of l.cells b)) l._b))
