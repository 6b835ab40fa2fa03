-- The walk from slot 0 takes the first running tasks, one a lane; with a lane it takes none just where none runs.
use Prim.Native.Nat.{ℕ, zero, suc, ◌+◌, ◌≤◌, ◌<◌}
use mathlib.Core.Path.{◌≡◌, refl, sym, ap, ◌∙◌}
use mathlib.Core.Bool.{Bool, true, false}
use mathlib.Core.List.{List, [], ◌∷◌}
use native.Mathlib.Numerals.{add-one}
use native.Mathlib.Omega.{arith}
use lib.ListN.{length, get_or, drop, drop_of_length-le}
use lib.Seq.{drop-cons}
use Rattle.facts.proofs.Tests.{by-test, by-below}
use Rattle.task.specs.declared.Task.{Task}
use Rattle.task.specs.Frames.{no_task, is_running}
use Rattle.looks.specs.declared.Look.{Look}
use Rattle.looks.specs.Looking.{tasks_taken, looked_with, looked, over, walked}
use Rattle.looks.proofs.LookLaws.{over_look, over_end}

-- ---- what is taken of one record more

of_no_record : (lanes : ℕ) → tasks_taken [] lanes ≡ 0
unfolding tasks_taken
of_no_record lanes = refl

on-no_lane : (tasks : List Task) → tasks_taken tasks 0 ≡ 0
unfolding tasks_taken
on-no_lane [] = refl
on-no_lane (t ∷ ts) = refl

of_running : (t : Task) (ts : List Task) (lanes : ℕ) → is_running t.status ≡ true → tasks_taken (t ∷ ts) (suc lanes) ≡ 1 + tasks_taken ts lanes
unfolding tasks_taken
of_running t ts lanes h = rw (h, tasks_taken)

of_other : (t : Task) (ts : List Task) (lanes : ℕ) → is_running t.status ≡ false → tasks_taken (t ∷ ts) (suc lanes) ≡ tasks_taken ts (suc lanes)
unfolding tasks_taken
of_other t ts lanes h = rw (h, tasks_taken)

-- ---- the walk

-- The lanes that n looks leave, and the tasks that are taken of the records from here on, are the lanes that were left here.
abbrev Shared : ℕ → List Task → Look → Type 0
Shared n tasks from = (over n tasks from).lanes + tasks_taken (drop from.at tasks) from.lanes ≡ from.lanes

at_end_lem : (n : ℕ) (tasks : List Task) (from : Look) → length tasks ≤ from.at → Shared n tasks from
at_end_lem n tasks from h =
    let none : tasks_taken (drop from.at tasks) from.lanes ≡ 0 =
    ap (λ (ts : List Task). tasks_taken ts from.lanes) (drop_of_length-le tasks {i = from.at} h) ∙ of_no_record from.lanes in
    let left : (over n tasks from).lanes ≡ from.lanes = ap (λ (l : Look). l.lanes) (over_end n tasks from h) in
    omega arith

-- one look and then n, where the n are known
module _ (n : ℕ) (tasks : List Task) (at : ℕ) (here : at < length tasks) (enough : length tasks ≤ at + suc n)
    (rest : (from : Look) → length tasks ≤ from.at + n → Shared n tasks from) where
  abbrev t : Task
  t = get_or tasks at no_task

  abbrev ts : List Task
  ts = drop (suc at) tasks

  further : (lanes : ℕ) → (over n tasks (record { at = at + 1; lanes = lanes })).lanes + tasks_taken ts lanes ≡ lanes
  further lanes = ap (λ (i : ℕ). (over n tasks (record { at = at + 1; lanes = lanes })).lanes + tasks_taken (drop i tasks) lanes) (sym (add-one at))
      ∙ rest (record { at = at + 1; lanes = lanes }) (omega arith)

  by_status : (lanes : ℕ) (runs : Bool) → is_running t.status ≡ runs
      → (over n tasks (looked_with lanes runs at (length tasks))).lanes + tasks_taken (t ∷ ts) lanes ≡ lanes
  by_status zero runs e =
      let left : (over n tasks (record { at = length tasks; lanes = 0 })).lanes ≡ 0 =
      ap (λ (l : Look). l.lanes) (over_end n tasks (record { at = length tasks; lanes = 0 }) (omega arith)) in
      omega (arith, left, on-no_lane (t ∷ ts))
  by_status (suc lanes) true e = omega (arith, of_running t ts lanes e, further lanes)
  by_status (suc lanes) false e = omega (arith, of_other t ts lanes e, further (suc lanes))

  one_more_lem : (lanes : ℕ) → Shared (suc n) tasks (record { at = at; lanes = lanes })
  one_more_lem lanes =
      ap (λ (l : Look). l.lanes + tasks_taken (drop at tasks) lanes) (over_look n tasks (record { at = at; lanes = lanes }) here)
      ∙ ap (λ (us : List Task). (over n tasks (looked (record { at = at; lanes = lanes }) t (length tasks))).lanes + tasks_taken us lanes)
      (drop-cons tasks at no_task here)
      ∙ by_status lanes (is_running t.status) refl

shared : (n : ℕ) (tasks : List Task) (from : Look) → length tasks ≤ from.at + n → Shared n tasks from
shared zero tasks from enough = at_end_lem zero tasks from (omega arith)
shared (suc n) tasks from enough =
    by-below from.at (length tasks) (λ here. one_more_lem n tasks from.at here enough (shared n tasks) from.lanes) (at_end_lem (suc n) tasks from)

-- a walk from any slot leaves no more lanes than it had
pub walk_leaves : (tasks : List Task) (from last : Look) → last ≡ walked tasks from → last.lanes ≤ from.lanes
walk_leaves tasks from last e = rw e (omega (arith, shared (length tasks) tasks from (omega arith)))

-- the walk from slot 0 uses up a lane for each task that a round takes
pub walk_takes : (tasks : List Task) (lanes : ℕ) → (walked tasks (record { at = 0; lanes = lanes })).lanes + tasks_taken tasks lanes ≡ lanes
walk_takes tasks lanes = shared (length tasks) tasks (record { at = 0; lanes = lanes }) (omega arith)

-- ---- where none is taken

-- with a lane, a round that takes no task finds none that runs
pub taken_none : (tasks : List Task) (lanes : ℕ) → 0 < lanes → tasks_taken tasks lanes ≡ 0 → (i : ℕ) → is_running (get_or tasks i no_task).status ≡ false
taken_none [] lanes some none i = refl
taken_none (t ∷ ts) zero some none i = absurd (omega arith)
taken_none (t ∷ ts) (suc lanes) some none zero =
    by-test (is_running t.status) (λ e. absurd (omega (arith, of_running t ts lanes e))) (λ e. e)
taken_none (t ∷ ts) (suc lanes) some none (suc i) =
    by-test (is_running t.status) (λ e. absurd (omega (arith, of_running t ts lanes e)))
    (λ e. taken_none ts (suc lanes) some (sym (of_other t ts lanes e) ∙ none) i)

-- where none runs, none is taken
pub none-taken : (tasks : List Task) (lanes : ℕ) → ((i : ℕ) → is_running (get_or tasks i no_task).status ≡ false) → tasks_taken tasks lanes ≡ 0
none-taken [] lanes none = of_no_record lanes
none-taken (t ∷ ts) zero none = on-no_lane (t ∷ ts)
none-taken (t ∷ ts) (suc lanes) none = of_other t ts lanes (none 0) ∙ none-taken ts (suc lanes) (λ i. none (suc i))
