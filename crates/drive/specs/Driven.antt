-- What the loop over the slots leaves: the state, the picks carried out, and of rounds how many were begun.
use Rattle.std.specs.Prelude.{ℕ}
use Rattle.drive.specs.declared.State.{State}

pub record Driven : Type 0 where
  pub state : State
  pub picks : ℕ
  pub rounds : ℕ
