-- Numbers of 64 bits in bytes, little-endian: written and read; and the three that a register's value is.
use Rattle.std.specs.Prelude.{List, [], ◌∷◌, ◌++◌, ℕ, zero, suc, ◌+◌, ℤ}
use Rattle.std.specs.Int.{w64}
use Rattle.std.proofs.Common.{of_z, to_z}
use Rattle.int64.specs.Little.{little, bytes_of}
use Rattle.task.specs.declared.Value.{Value}
use Rattle.task.specs.declared.Value.TheVariants.{Int, Label, Record}

-- kind, first number (an integer's 64 bits, a label, a continuation), second number (a record's depth)
abbrev pub value_numbers : Value → List ℕ
value_numbers (Int z) = 0 ∷ of_z w64 z ∷ 0 ∷ []
value_numbers (Label b) = 1 ∷ b ∷ 0 ∷ []
value_numbers (Record c d) = 2 ∷ c ∷ d ∷ []

-- numbers of 64 bits, one after the other
unfoldable pub in_bytes : List ℕ → List ℕ
in_bytes [] = []
in_bytes (x ∷ xs) = bytes_of 8 x ++ in_bytes xs

-- `count` integers, the first at `at`, in two's complement
unfoldable pub integers_in : List ℕ → ℕ → ℕ → List ℤ
integers_in bytes at zero = []
integers_in bytes at (suc count) = to_z w64 (little 8 bytes at) ∷ integers_in bytes (at + 8) count
