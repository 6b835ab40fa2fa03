-- A slot outside a stretch of slots.
use Prim.Native.Nat.{ℕ, ◌≤◌, ◌<◌}
use mathlib.Core.Logic.{◌⊎◌, inl, inr, ◌≢◌}
use native.Mathlib.Omega.{arith}

-- a slot outside the slots from b up to n
abbrev pub Outside : ℕ → ℕ → ℕ → Type 0
Outside b n i = (i < b) ⊎ (n ≤ i)

pub outside_apart : {b n i k : ℕ} → Outside b n i → b ≤ k → k < n → i ≢ k
outside_apart (inl h) x y = omega arith
outside_apart (inr h) x y = omega arith
