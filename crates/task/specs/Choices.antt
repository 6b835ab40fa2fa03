-- What a machine may choose: when a counter is due for a beat, and how integers are divided. Document 02's requests change these, and
-- nothing else of an instruction; two machines are compared by comparing their choices.
use Rattle.std.specs.Prelude.{Bool, not, ◌&&◌, ℕ, eqb, leb, ℤ}
use Rattle.std.specs.Int.Signed.{quot_z, rem_z}
use Rattle.int64.specs.Wrapped.{wrapped}

pub record Choices : Type 0 where
  -- is a counter due for a beat?
  pub due : ℕ → Bool
  -- of two integers, the second not 0
  pub quotient : ℤ → ℤ → ℤ
  pub remainder : ℤ → ℤ → ℤ

-- the engine's, for a job with this interval. Of an interval of 0 never; otherwise when the counter is at least the interval (02, request 1).
-- Division goes toward zero; the least integer divided by -1 gives itself, remainder 0
abbrev pub chosen : ℕ → Choices
chosen interval =
    record { due = λ counter. not (eqb interval 0) && leb interval counter; quotient = λ a b. wrapped (quot_z a b); remainder = rem_z }
