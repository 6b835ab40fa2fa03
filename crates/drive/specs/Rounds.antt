-- Rounds as a course: each takes the first tasks, in slot order, that run at its start, one a lane, until lanes or tasks are used up. A task
-- made in a round waits for the next.
use Rattle.std.specs.Prelude.{true, false, cond, List, [], ◌∷◌, ℕ, zero, suc, ◌+◌, ◌-◌, ltb, ℤ}
use Rattle.task.specs.Frames.{running, work_limit}
use Rattle.drive.specs.declared.State.{State}
use Rattle.drive.specs.Slots.{at}
use Rattle.drive.specs.Courses.{Next, over, turn, Chooser, Run, begun, follows}
use Rattle.drive.specs.Passes.{stops}

-- of the n slots from k on, the first `lanes` that have a running task
unfoldable pub taken : State → ℕ → ℕ → ℕ → List ℕ
taken m zero n k = []
taken m (suc lanes) zero k = []
taken m (suc lanes) (suc n) k = elim (running (at m k)) [
  | true ↦ k ∷ taken m lanes n (k + 1)
  | false ↦ taken m (suc lanes) n (k + 1)
]

-- the slots that a round takes
abbrev pub round_of : ℕ → State → List ℕ
round_of lanes m = taken m lanes m.places 0

-- what is kept: the slots that are left of the round, the rounds begun, and how many may be
pub record Rounding : Type 0 where
  pub slots : List ℕ
  pub done : ℕ
  pub budget : ℕ

abbrev pub takes : List ℕ → ℕ → ℕ → Next Rounding
takes [] done budget = over
takes (k ∷ ks) done budget = turn k (record { slots = ks; done = done; budget = budget })

-- a slot that is left of the round; or a round begins, where the budget has one
abbrev pub next_of : ℕ → State → ℕ → ℕ → List ℕ → Next Rounding
next_of lanes m done budget [] = cond (ltb done budget) (takes (round_of lanes m) (done + 1) budget) over
next_of lanes m done budget (k ∷ ks) = takes (k ∷ ks) done budget

-- it stops when the job has ended, or the work stands at the limit: a round that is cut short so is begun
unfoldable pub rounds : ℕ → Chooser Rounding
rounds lanes m c = elim (stops m) [ true ↦ over | false ↦ next_of lanes m c.done c.budget c.slots ]

-- at most `budget` rounds; of picks there are at most as many as the limit leaves room for
abbrev pub rounds_from : List ℕ → List ℤ → State → ℕ → ℕ → Run Rounding
rounds_from cells words m lanes budget =
    follows cells words (rounds lanes) (work_limit - m.work) (begun m (record { slots = []; done = 0; budget = budget }))
