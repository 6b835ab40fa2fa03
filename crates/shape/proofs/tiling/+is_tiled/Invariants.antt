-- The recursion of `is_tiled` is on the height.
use Rattle.shape.proofs.tiling.+is_tiled.Given as goal

abbrev pub decreases-is_tiled : goal.decreases-is_tiled
decreases-is_tiled l = l.h
