-- `walk_blocks` meets its contract.
use Rattle.std.proofs.Common.{◌≡◌, ℕ}
use Rattle.image.specs.Layout.{block_place, version_in, block_in, most_pairs, block_size}
use Rattle.image.proofs.walk.walk_blocks.Goals as goal
use Prim.Native.Nat.{ℕ}
use mathlib.Core.Path.{◌≡◌, sym, ap, ap₂, ◌∙◌}
use native.Mathlib.Omega.{arith}
use Rattle.image.specs.declared.Block.{Block}
use Rattle.image.proofs.Refusals.{refused}
use Rattle.image.proofs.Counts.{counted}
use Rattle.image.proofs.Header.{header}
use Rattle.image.proofs.Walks.{blocks-begin, next_block, block_refused, blocks_end, block_within, first_below}

pub read_u16-version-requires : goal.read_u16-version-requires
read_u16-version-requires c =
    omega (arith, (header c.args.image.now c.requires.0).long)

pub bounds-image-5 : goal.bounds-image-5
bounds-image-5 c =
    omega (arith, (header c.args.image.now c.requires.0).long)

pub loop-b-init : goal.loop-b-init
loop-b-init c =
    blocks-begin c.args.image.now c.requires.0 c.args.lays c.args.cells.now c.args.marks.now c.requires.1

pub block_in-k-requires : goal.block_in-k-requires
block_in-k-requires c =
    let image = c.args.image.now in
    let ok = c.requires.0 in
    let l = c.loop-b in
    let version = c.read_u16-version.ensures.equal in
    omega (arith, ap most_pairs version, (block_within image ok l.b (omega (arith, c.from-blocks.ensures))).0, l.invariant.offset)

pub returns-in-Err : goal.returns-in-Err
returns-in-Err c =
    let image = c.args.image.now in
    let ok = c.requires.0 in
    let l = c.loop-b in
    let asked = c.in-Err.ensures in
    let s = block_refused image ok c.args.lays c.args.cells.now l.marks l.cells l.at l.to l.before l.b l.invariant
    (omega (arith, c.from-blocks.ensures)) (λ e. refused c.in-Err.refusal (asked ∙ e)) in
    record {
      no_value = asked ∙ sym s.0;
      at_value = s.1.0;
      marked = s.1.1.0;
      cells_after = s.1.1.1;
    }

pub bounds-marks-before : goal.bounds-marks-before
bounds-marks-before c =
    let image = c.args.image.now in
    let ok = c.requires.0 in
    let l = c.loop-b in
    let version = c.read_u16-version.ensures.equal in
    let here = c.block_in-k.ensures ∙ ap₂ (λ (v n : ℕ). block_in v image n) version l.invariant.offset in
    let first : c.block_in-k.result.first ≡ (block_in (version_in image) image (block_place (version_in image) l.b)).first =
    ap (λ (k : Block). k.first) here in
    let below = first_below image ok l.b (omega (arith, c.from-blocks.ensures)) (sym c.in_default.ensures) in
    omega (arith, first, below, (counted _ _ (header image ok).counts).instructions_fit, l.invariant.marking.sized)

pub loop-b-preserved : goal.loop-b-preserved
loop-b-preserved c =
    let image = c.args.image.now in
    let ok = c.requires.0 in
    let l = c.loop-b in
    let version = c.read_u16-version.ensures.equal in
    let size = c.block_size-size.ensures ∙ ap block_size version in
    next_block image ok c.args.lays c.args.cells.now l.marks l.cells l.at l.to l.before l.b l.invariant _
    c.block_in-k.result _ (omega (arith, c.from-blocks.ensures))
    (sym c.in_default.ensures)
    (c.block_in-k.ensures ∙ ap₂ (λ (v n : ℕ). block_in v image n) version l.invariant.offset) c.lay_block.ensures
    (omega (arith, size))

pub returns : goal.returns
returns c =
    let image = c.args.image.now in
    let ok = c.requires.0 in
    let l = c.loop-b in
    let s = blocks_end image ok c.args.lays c.args.cells.now l.marks l.cells l.at l.to l.before l.b l.invariant
    (omega (arith, c.from-blocks.ensures)) in
    record {
      no_value = sym s.0;
      at_value = s.1.0;
      marked = s.1.1.0;
      cells_after = s.1.1.1;
    }
