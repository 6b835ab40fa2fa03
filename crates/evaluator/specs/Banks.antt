-- Banks of 16 registers, one for each side that is kept, and the records of open forks as a row of numbers.
use Rattle.std.specs.Prelude.{◌≡◌, true, List, [], ◌∷◌, ℕ, zero, suc, ◌/◌, ◌%◌, ◌<◌, get_or, set}
use Rattle.task.specs.declared.Register.{Register}
use Rattle.task.specs.declared.Fork.{Fork}
use Rattle.task.specs.Frames.{zero_fork}
use Rattle.task.specs.Effect.{fits}
use Rattle.arms.specs.declared.Registers.{Registers}
use Rattle.arms.specs.Registers.{registers_of}

-- one, and none
abbrev pub bank_of : Registers → List Register
bank_of r = registers_of r.nums r.kinds

abbrev pub no_bank : Registers
no_bank = record { nums = []; kinds = [] }

-- that of the side kept at depth d
abbrev pub bank_at : List Registers → ℕ → List Register
bank_at banks d = bank_of (get_or banks d no_bank)

-- registers, and the bank in a place
pub record Exchanged (r : Registers) (banks : List Registers) (r' : Registers) (banks' : List Registers) (at : ℕ) : Type 0 where
  pub taken : r' ≡ get_or banks at no_bank
  pub given : banks' ≡ set banks at r

-- a record as one number, as in a register
abbrev pub fork_of : ℕ → Fork
fork_of u = record { continuation = u / 4294967296; depth = u % 4294967296 }

-- the first n of the row, and the entries that are not in use
unfoldable pub forks_of : List ℕ → ℕ → List Fork
forks_of [] n = []
forks_of (u ∷ recs) zero = zero_fork ∷ forks_of recs zero
forks_of (u ∷ recs) (suc n) = fork_of u ∷ forks_of recs n

-- each of the first d fitted, when its fork was opened, the forks outside it
pub record Nested (recs : List ℕ) (d : ℕ) : Type 0 where
  pub fitted : (i : ℕ) → i < d → fits (fork_of (get_or recs i 0)) i (forks_of recs i) ≡ true
