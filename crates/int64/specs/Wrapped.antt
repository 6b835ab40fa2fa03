-- The low 64 bits of an integer, and the signed number that they are. `proofs/Wrapping.antt` has the equations that a reader expects.
use Rattle.std.specs.Prelude.{ℕ, ◌-◌, ◌%◌, ◌^◌, ℤ, pos, negsuc}
use Rattle.std.specs.Int.{w64}
use Rattle.std.proofs.Common.{to_z}

-- z modulo 2 ^ 64, from 0 on; `negsuc n` is -(n + 1), so that its residue is counted down from 2 ^ 64 - 1
abbrev pub residue : ℤ → ℕ
residue (pos n) = n % 2 ^ 64
residue (negsuc n) = 2 ^ 64 - 1 - n % 2 ^ 64

-- z modulo 2 ^ 64, read as signed
abbrev pub wrapped : ℤ → ℤ
wrapped z = to_z w64 (residue z)
