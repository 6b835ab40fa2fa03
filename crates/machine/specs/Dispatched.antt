-- What the dispatcher comes to: the machine, the rounds begun, the picks carried out, 0 or the number of a refusal, and whether the job has ended
-- or is spent.
use Rattle.std.specs.Prelude.{Bool, ℕ}
use Rattle.machine.specs.declared.Machine.{Machine}

pub record Dispatched : Type 0 where
  pub machine : Machine
  pub rounds : ℕ
  pub picks : ℕ
  pub no : ℕ
  pub ended : Bool
