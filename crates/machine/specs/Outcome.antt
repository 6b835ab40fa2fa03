-- What a run comes to: the machine, the picks carried out, 0 or the number of a refusal, and whether the job has ended or the budget is spent.
use Rattle.std.specs.Prelude.{Bool, ℕ}
use Rattle.machine.specs.declared.Machine.{Machine}

pub record Outcome : Type 0 where
  pub machine : Machine
  pub picks : ℕ
  pub no : ℕ
  pub ended : Bool
