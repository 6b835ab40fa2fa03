-- What a look makes, case by case; and a walk is its looks.
use Prim.Native.Nat.{ℕ, zero, suc, ◌+◌, ◌≤◌, ◌<◌}
use mathlib.Core.Path.{◌≡◌, refl, sym, ◌∙◌}
use mathlib.Core.Bool.{Bool, true, false}
use mathlib.Core.List.{List}
use native.Mathlib.Omega.{arith}
use lib.ListN.{length, get_or}
use borrow.Author.Tests.{lt-ltb, le-ltb}
use Rattle.facts.proofs.Tests.{by-below}
use Rattle.task.specs.declared.Task.{Task}
use Rattle.task.specs.Frames.{no_task, is_running}
use Rattle.looks.specs.declared.Look.{Look}
use Rattle.looks.specs.Looking.{looked_with, looked, over, walked}

pub over_look : (n : ℕ) (tasks : List Task) (from : Look) → from.at < length tasks
    → over (suc n) tasks from ≡ over n tasks (looked from (get_or tasks from.at no_task) (length tasks))
unfolding over
over_look n tasks from h = rw (lt-ltb from.at (length tasks) h, over)

pub over_end : (n : ℕ) (tasks : List Task) (from : Look) → length tasks ≤ from.at → over n tasks from ≡ from
unfolding over
over_end zero tasks from h = refl
over_end (suc n) tasks from h = rw (le-ltb from.at (length tasks) h, over)

-- a look goes on
looked-on : (lanes : ℕ) (runs : Bool) (at end : ℕ) → at < end → at < (looked_with lanes runs at end).at
looked-on zero runs at end h = h
looked-on (suc lanes) true at end h = omega arith
looked-on (suc lanes) false at end h = omega arith

-- one look more than reach the end changes nothing
over_more : (n : ℕ) (tasks : List Task) (from : Look) → length tasks ≤ from.at + n → over (suc n) tasks from ≡ over n tasks from
over_more zero tasks from h = over_end 1 tasks from (omega arith) ∙ sym (over_end 0 tasks from (omega arith))
over_more (suc n) tasks from h =
    by-below from.at (length tasks)
    (λ here.
    let on = looked-on from.lanes (is_running (get_or tasks from.at no_task).status) from.at (length tasks) here in
    over_look (suc n) tasks from here
    ∙ over_more n tasks (looked from (get_or tasks from.at no_task) (length tasks)) (omega arith)
    ∙ sym (over_look n tasks from here))
    (λ past. over_end (suc (suc n)) tasks from past ∙ sym (over_end (suc n) tasks from past))

-- a walk is one look, and the walk from there
pub walk_look : (tasks : List Task) (from : Look) → from.at < length tasks
    → walked tasks (looked from (get_or tasks from.at no_task) (length tasks)) ≡ walked tasks from
walk_look tasks from h = sym (over_look (length tasks) tasks from h) ∙ over_more (length tasks) tasks from (omega arith)

-- at the end it stays
pub walk_end : (tasks : List Task) (from : Look) → length tasks ≤ from.at → walked tasks from ≡ from
walk_end tasks from h = over_end (length tasks) tasks from h
