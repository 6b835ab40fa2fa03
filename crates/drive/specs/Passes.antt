-- Passes over the slots as a course: over slots 0 to P - 1 again and again, picking each that has a running task when reached.
use Rattle.std.specs.Prelude.{Bool, true, false, cond, not, ◌||◌, List, ℕ, zero, suc, ◌+◌, ◌-◌, ltb, ℤ}
use Rattle.task.specs.Frames.{running, work_limit}
use Rattle.drive.specs.declared.State.{State}
use Rattle.drive.specs.Slots.{at}
use Rattle.drive.specs.Ending.{job_ended}
use Rattle.drive.specs.Courses.{over, turn, Chooser, Run, begun, follows}

-- the first of the n slots from k on that has a running task; k + n where none has
unfoldable pub first_running : State → ℕ → ℕ → ℕ
first_running m zero k = k
first_running m (suc n) k = elim (running (at m k)) [ true ↦ k | false ↦ first_running m n (k + 1) ]

-- the slot that is picked next: in this pass from slot k on, or, where that has none left, in the next pass
unfoldable pub next_pick : State → ℕ → ℕ
next_pick m k =
    let here = first_running m (m.places - k) k in
    cond (ltb here m.places) here (first_running m m.places 0)

-- it stops when the job has ended, or the work stands at the limit
abbrev pub stops : State → Bool
stops m = job_ended m || not (ltb m.work work_limit)

-- passes keep the slot that they reach next
unfoldable pub passes : Chooser ℕ
passes m slot = elim (stops m) [ true ↦ over | false ↦ turn (next_pick m slot) (next_pick m slot + 1) ]

module _ (cells : List ℕ) (words : List ℤ) where
  -- at most `budget` picks more
  abbrev pub runs : ℕ → Run ℕ → Run ℕ
  runs budget r = follows cells words passes budget r

  -- at most `budget` picks from slot k on
  abbrev pub run_from : State → ℕ → ℕ → Run ℕ
  run_from m k budget = runs budget (begun m k)
