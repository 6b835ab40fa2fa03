-- `encode_blocks` meets its contract.
use Rattle.std.proofs.Common.{◌≡◌, ℕ, ◌+◌, ◌*◌}
use Rattle.std.proofs.lemmas.List.Edits.{sets}
use Rattle.image.specs.Layout.{rows, block_place, version_of, block_of, block_bytes, block_size, block_from}
use Rattle.image.proofs.writer.encode_blocks.Goals as goal
use mathlib.Core.Path.{◌≡◌, refl, ap, ap₂, ◌∙◌}
use Prim.Native.Nat.{ℕ, ◌+◌, ◌*◌}
use lib.Seq.{sets}
use native.Mathlib.Omega.{arith}
use Rattle.image.specs.declared.Block.{Block}
use Rattle.image.proofs.Written.{block_bytes_length}
use Rattle.image.proofs.Rows.{row-placed}

pub loop-b-init : goal.loop-b-init
unfolding rows
loop-b-init c = (omega arith, refl, refl, refl)

pub loop-b-preserved : goal.loop-b-preserved
loop-b-preserved c =
    let cells = c.args.cells.now in
    let l = c.loop-b in
    let version = version_of cells in
    let rest = c.block_from-k.ensures ∙ ap (block_from cells) l.invariant.1 in
    let at : l.at ≡ block_place version 0 + block_size version * l._b = omega (arith, l.invariant.0) in (
      omega (arith, l.invariant.0, c.block_size-size.ensures),
      omega (arith, l.invariant.1),
      c.put_block_bytes.auto.image ∙ l.invariant.2,
      row-placed
          (λ (b : ℕ). block_bytes version (block_of cells b)) (block_size version) (λ b. block_bytes_length version (block_of cells b)) _ l.image _
          (block_place version 0) l._b l.invariant.3
          (c.put_block_bytes.ensures ∙ ap₂ (λ (n : ℕ) (k : Block). sets l.image n (block_bytes version k)) at rest),
    )
