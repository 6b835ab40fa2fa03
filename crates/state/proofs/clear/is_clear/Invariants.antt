-- What the loop of `is_clear` keeps.
use mathlib.Core.List.{List}
use mathlib.Core.Bool.{Bool}
use Prim.Native.Nat.{ℕ, ◌+◌}
use lib.Dec.{eqb}
use lib.ListN.{get_or}
use Rattle.state.proofs.Zeros.{Tested}
use Rattle.state.proofs.clear.is_clear.Given as goal

abbrev test : List ℕ → ℕ → ℕ → Bool
test bytes at i = eqb (get_or bytes (at + i) 0) 0

abbrev pub invariant-loop-b : goal.invariant-loop-b
invariant-loop-b l = Tested (test l.bytes l.at) l.n l.b-index l.clear
