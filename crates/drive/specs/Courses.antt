-- Runs along a course. A chooser says which slot is picked next; the run carries the picks out, and knows nothing of how they were chosen.
use Rattle.std.specs.Prelude.{List, ℕ, zero, suc, ◌+◌, ℤ}
use Rattle.drive.specs.declared.State.{State}
use Rattle.drive.specs.Issue.{issued}

-- what a chooser answers: the run is over, or it is slot k's turn, and c is what the chooser keeps then
pub data Next (C : Type 0) : Type 0 where
  over : Next C
  turn : ℕ → C → Next C

-- it looks at the state and at what it has kept
abbrev pub Chooser : Type 0 → Type 0
Chooser C = State → C → Next C

-- where a run stands: the state, what its chooser keeps, and the picks carried out
pub record Run (C : Type 0) : Type 0 where
  pub state : State
  pub kept : C
  pub picks : ℕ

abbrev pub begun : {C : Type 0} → State → C → Run C
begun m c = record { state = m; kept = c; picks = 0 }

module _ (cells : List ℕ) (words : List ℤ) {C : Type 0} where
  abbrev pub picked_at : ℕ → C → Run C → Run C
  picked_at k c r = record { state = issued cells words r.state k; kept = c; picks = r.picks + 1 }

  -- at most `budget` picks more
  unfoldable pub follows : Chooser C → ℕ → Run C → Run C
  follows next zero r = r
  follows next (suc budget) r = elim (next r.state r.kept) [
    | over ↦ r
    | turn k c ↦ follows next budget (picked_at k c r)
  ]
