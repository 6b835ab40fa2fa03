-- What a turn of the loop writes to task records, and to a stack. Only the loop's small functions cite these.
use Rattle.std.specs.Prelude.{Bool, cond, ℕ, ◌+◌, ◌*◌, ◌/◌, get_or, set}
use Rattle.task.specs.declared.Task.{Task}
use Rattle.task.specs.declared.Executed.{Executed}
use Rattle.task.specs.Frames.{zero_register, vacant_task}
use Rattle.task.specs.Step.{with_height, moved_to}
use Rattle.task.specs.Values.{record_of}
use Rattle.turns.specs.Kinds.{restacked_by, side_of}
use Rattle.drive.specs.declared.State.{State}
use Rattle.drive.specs.Moves.{with_arrays}
use Rattle.drive.specs.Slots.{at}

-- the state with slot k's task record t
abbrev pub with_task_at : State → ℕ → Task → State
with_task_at m k t = with_arrays m m.bank m.stacks (set m.tasks k t)

-- two sides are joined: t in slot q, and no task in slot c
abbrev pub tasks_joined : State → ℕ → ℕ → Task → State
tasks_joined m q c t = with_arrays m m.bank m.stacks (set (set m.tasks c vacant_task) q t)

-- slot k's task has forked: the child's slot is behind the parent's half of the places
abbrev pub task_forked : State → ℕ → Executed → State
task_forked m k e =
    let t = (at m k).task in
    let parent = side_of t (record_of e.value) e.pc e.counter in
    with_arrays m m.bank m.stacks (set (set m.tasks k parent) (k + t.places / 2) (with_height 0 (moved_to e.child 0 parent)))

-- slot k's task has pushed its value to the stack's entry i, or popped the one there to register r
abbrev pub value_moved : State → ℕ → Bool → ℕ → Executed → ℕ → State
value_moved m k pops i e r =
    with_arrays m (cond pops (set m.bank (16 * k + r) (get_or m.stacks (32 * k + i) zero_register)) m.bank)
    (set m.stacks (32 * k + i) (record { value = e.value })) (set m.tasks k (restacked_by pops (at m k).task e.pc e.counter))
