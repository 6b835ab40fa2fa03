-- `ask_block_in` meets its contract.
use Rattle.std.proofs.Common.{ℕ}
use Rattle.image.specs.Layout.{blocks_in, instructions_in}
use Rattle.image.proofs.walk.ask_block_in.Goals as goal
use mathlib.Core.Path.{ap₂, ◌∙◌}
use Prim.Native.Nat.{ℕ}
use native.Mathlib.Omega.{arith}
use Rattle.image.specs.declared.Block.{Block}
use Rattle.image.specs.Records.{block_record_no}
use Rattle.image.proofs.Header.{header, block_asked}

pub read_u16-instructions-requires : goal.read_u16-instructions-requires
read_u16-instructions-requires c = omega (arith, (header c.args.image.now c.requires.0).long)

pub returns : goal.returns
returns c =
    let image = c.args.image.now in
    let b = c.args.b in
    let before = c.args.before in
    c.ask_block_record.ensures
    ∙ ap₂ (λ (m n : ℕ). block_record_no c.args.version m n b before c.args.k) c.from-blocks.ensures c.read_u16-instructions.ensures.equal
    ∙ ap₂ (λ (v : ℕ) (k : Block). block_record_no v (blocks_in image) (instructions_in image) b before k) c.requires.1 c.requires.3
    ∙ block_asked image (header image c.requires.0) b before c.requires.2 c.requires.4
