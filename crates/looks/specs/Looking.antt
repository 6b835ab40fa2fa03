-- The looks of a round over the task records, and how many tasks it takes.
use Rattle.std.specs.Prelude.{ℕ, zero, suc, ◌+◌, Bool, true, false, List, [], ◌∷◌, ltb, length, get_or}
use Rattle.task.specs.declared.Task.{Task}
use Rattle.task.specs.Frames.{no_task, is_running}
use Rattle.looks.specs.declared.Look.{Look}

-- The tasks that a round takes of the records, with so many lanes: the first that run, one a lane.
unfoldable pub tasks_taken : List Task → ℕ → ℕ
tasks_taken [] lanes = 0
tasks_taken (t ∷ ts) zero = 0
tasks_taken (t ∷ ts) (suc lanes) = elim (is_running t.status) [
  | true ↦ 1 + tasks_taken ts lanes
  | false ↦ tasks_taken ts (suc lanes)
]

-- A look at slot `at` of `end`, with so many lanes left, where its task runs or not: with no lane the looks are at their end, a running task
-- takes a lane.
abbrev pub looked_with : ℕ → Bool → ℕ → ℕ → Look
looked_with zero runs at end = record { at = end; lanes = 0 }
looked_with (suc lanes) true at end = record { at = at + 1; lanes = lanes }
looked_with (suc lanes) false at end = record { at = at + 1; lanes = suc lanes }

abbrev pub looked : Look → Task → ℕ → Look
looked from t end = looked_with from.lanes (is_running t.status) from.at end

-- n looks at most
unfoldable pub over : ℕ → List Task → Look → Look
over zero tasks from = from
over (suc n) tasks from = elim (ltb from.at (length tasks)) [
  | true ↦ over n tasks (looked from (get_or tasks from.at no_task) (length tasks))
  | false ↦ from
]

-- from where the round stands to the last record
abbrev pub walked : List Task → Look → Look
walked tasks from = over (length tasks) tasks from
