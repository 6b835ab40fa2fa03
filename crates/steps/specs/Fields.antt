-- Integers within their field: the words of a call record, and the start registers.
use Rattle.std.specs.Prelude.{List, ℕ, ℤ, pos, get_or}
use Rattle.std.specs.Int.{w64}
use Rattle.std.proofs.Common.{SFits}

-- each has 64 bits
abbrev pub IntegersInField : List ℤ → Type 0
IntegersInField zs = (i : ℕ) → SFits w64 (get_or zs i (pos 0))
