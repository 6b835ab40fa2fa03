-- `encode` meets its contract.
use Rattle.image.proofs.writer.encode.Goals as goal
use mathlib.Core.Path.{◌∙◌}
use native.Mathlib.Omega.{arith}
use Rattle.image.proofs.Counts.{counted}
use Rattle.image.proofs.Written.{encoded}

pub encode_blocks-end-requires : goal.encode_blocks-end-requires
encode_blocks-end-requires c =
    let k = counted _ _ c.requires.1 in (c.requires.0, k.blocks_fit, omega (arith, c.encode_header.auto.image))

pub encode_instructions-requires : goal.encode_instructions-requires
encode_instructions-requires c =
    let k = counted _ _ c.requires.1 in (
      c.requires.0,
      k.instructions_fit,
      c.encode_blocks-end.ensures.value,
      c.encode_blocks-end.auto.image ∙ c.encode_header.auto.image ∙
          c.requires.2,
    )

pub returns : goal.returns
returns c =
    encoded c.args.cells.now c.args.image.now _ _ _
    c.encode_header.ensures
    c.encode_blocks-end.ensures.image_after c.encode_instructions.ensures.image_after
    c.requires.2
