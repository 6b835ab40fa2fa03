-- What holds of either version: the most that a block record, its pairs and the opcodes come to, and where block records stand.
use mathlib.Core.Bool.{Bool, true, false, cond}
use Prim.Native.Nat.{ℕ, ◌+◌, ◌*◌, ◌<◌, ◌≤◌}
use native.Mathlib.Omega.{arith}
use native.Mathlib.Nat.{mul-le-mul_left}
use lib.Dec.{eqb}
use Rattle.image.specs.Layout.{most_pairs, block_size, block_place}
use Rattle.image.specs.Questions.{last_opcode}

pub pairs_most : (version : ℕ) → most_pairs version ≤ 8
pairs_most version = go (eqb version 2)
  where
    go : (t : Bool) → cond t 8 4 ≤ 8
    go true = omega arith
    go false = omega arith

pub opcodes_most : (version : ℕ) → last_opcode version ≤ 17
opcodes_most version = go (eqb version 2)
  where
    go : (t : Bool) → cond t 17 15 ≤ 17
    go true = omega arith
    go false = omega arith

-- the records of 128 blocks end before byte 1,801
pub places_most : (version blocks : ℕ) → blocks ≤ 128 → block_place version blocks ≤ 1800
places_most version blocks h = go (eqb version 2)
  where
    go : (t : Bool) → 8 + (6 + cond t 8 4) * blocks ≤ 1800
    go true = omega arith
    go false = omega arith

-- a block's record ends where the next one stands, so before those after it
pub block_inside : (version b blocks : ℕ) → b < blocks → block_place version b + block_size version ≤ block_place version blocks
block_inside version b blocks h = omega (arith, mul-le-mul_left (block_size version) h)
