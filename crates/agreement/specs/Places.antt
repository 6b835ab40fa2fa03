-- The places that the tasks of a state have together.
use Rattle.std.specs.Prelude.{ℕ, zero, suc, ◌+◌}

module _ {F S : Type 0} (at : S → ℕ → F) (held : F → ℕ) where
  -- those of the n slots from a on
  unfoldable pub held_from : ℕ → S → ℕ → ℕ
  held_from zero m a = 0
  held_from (suc n) m a = held (at m a) + held_from n m (suc a)
