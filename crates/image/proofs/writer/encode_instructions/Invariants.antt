-- What the loop of `encode_instructions` keeps.
use mathlib.Core.Path.{◌≡◌}
use Prim.Native.Nat.{ℕ}
use lib.ListN.{length}
use lib.Seq.{sets}
use Rattle.image.specs.Layout.{rows, block_place, instruction_place, instruction_cell, version_of, block_count, instruction_of, instruction_bytes}
use Rattle.image.proofs.writer.encode_instructions.Given as goal

abbrev pub invariant-loop-i : goal.invariant-loop-i
invariant-loop-i l = (l.at ≡ instruction_place (version_of l.cells) (block_count l.cells) l._i) ×
    (l.from ≡ instruction_cell l._i) × (length l.image ≡ length l.initial.image) ×
    (l.image ≡ sets l.initial.image (block_place (version_of l.cells) (block_count l.cells)) (rows (λ (i : ℕ). instruction_bytes (instruction_of l.cells i)) l._i))
