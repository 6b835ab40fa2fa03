-- Cases on lanes: how many rounds of the dispatcher end a case's job. `proofs/Lanes.antt` proves the statement about all rows.
use Rattle.std.specs.Prelude.{◌≡◌, true, false, ℕ, ◌-◌}
use mathlib.Core.List.{List, [], ◌∷◌, Memᴰ}
use Rattle.drive.specs.declared.State.{State}
use Rattle.drive.specs.Ending.{job_ended}
use Rattle.drive.specs.Courses.{Run}
use Rattle.drive.specs.Rounds.{Rounding, rounds_from}
use Rattle.cases.specs.Cases.{Case, job_of, start}
use Rattle.cases.specs.Table.{case_f}

pub record LaneRow : Type 0 where
  pub case : Case
  pub lanes : ℕ
  pub rounds : ℕ

-- document 02: F with two lanes takes 7 rounds, its span. With one it takes 9, its work; more lanes than two are of no use
unfoldable pub lane_rows : List LaneRow
lane_rows =
    record { case = case_f; lanes = 2; rounds = 7 }
    ∷ record { case = case_f; lanes = 1; rounds = 9 }
    ∷ record { case = case_f; lanes = 8; rounds = 7 }
    ∷ []

-- from the state n, which start handed back
abbrev pub rounds_of : LaneRow → State → ℕ → Run Rounding
rounds_of row n budget = let j = job_of row.case in rounds_from j.cells j.words n row.lanes budget

-- so many rounds end the job, and one fewer do not
pub record Takes (row : LaneRow) (n : State) : Type 0 where
  pub counted : (rounds_of row n row.rounds).kept.done ≡ row.rounds
  pub ended : job_ended (rounds_of row n row.rounds).state ≡ true
  pub not_before : job_ended (rounds_of row n (row.rounds - 1)).state ≡ false

-- whatever state start was called on
abbrev pub LaneCases : Type 0
LaneCases = (row : LaneRow) → Memᴰ row lane_rows → (m : State) → Takes row (start row.case m)
