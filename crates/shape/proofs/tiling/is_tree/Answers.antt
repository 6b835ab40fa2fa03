-- `is_tree` meets its contract.
use Rattle.std.proofs.Common.{arith}
use Rattle.shape.proofs.TiledLaws.{power_small}
use Rattle.shape.proofs.tiling.is_tree.Goals as goal

pub is_tiled-requires : goal.is_tiled-requires
is_tiled-requires c = (c.requires, omega (arith, power_small c.args.rank c.requires))

pub is_clear-requires : goal.is_clear-requires
is_clear-requires c = (omega (arith, c.power.ensures, power_small c.args.rank c.requires), omega arith)
