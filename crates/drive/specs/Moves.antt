-- What a plan of moves does to the state's registers and stacks. Only the loop's small functions cite these.
use Rattle.std.specs.Prelude.{◌≡◌, true, cond, ◌⊎◌, List, ℕ, ◌+◌, ◌-◌, ◌*◌, ◌<◌, ◌≤◌, replicate}
use Rattle.std.proofs.lemmas.List.Edits.{sets}
use Rattle.task.specs.declared.Register.{Register}
use Rattle.task.specs.declared.Task.{Task}
use Rattle.task.specs.Frames.{zero_register, zeros, stack_length}
use Rattle.task.specs.Step.{copied}
use Rattle.task.specs.Stretches.{reads}
use Rattle.turns.specs.declared.moves.Moves.{Moves}
use Rattle.drive.specs.declared.State.{State}
use Rattle.drive.specs.Slots.{at}

-- the state with these registers, stacks and task records
abbrev pub with_arrays : State → List Register → List Register → List Task → State
with_arrays m bank stacks tasks =
    record { places = m.places; interval = m.interval; work = m.work; bank = bank; stacks = stacks; tasks = tasks }

-- i of a frame's registers put at slot k
abbrev pub filling : State → ℕ → List Register → ℕ → State
filling m k registers i = with_arrays m (sets m.bank (16 * k) (reads zero_register registers 0 i)) m.stacks m.tasks

-- of slot k's first n values on its stack those from the one numbered `left` on dropped
abbrev pub dropping : State → ℕ → ℕ → ℕ → State
dropping m k n left = with_arrays m m.bank (sets m.stacks (32 * k + left) (replicate (n - left) zero_register)) m.tasks

-- slot z's registers are l
abbrev pub placed : State → ℕ → List Register → State
placed m z l = with_arrays m (sets m.bank (16 * z) l) m.stacks m.tasks

-- ---- the moves, one after the other

abbrev pub paired_at : Moves → State → State
paired_at p m = placed m p.to (copied (at m p.from).registers p.pairs p.packed (at m p.to).registers)

abbrev pub cleared_at : Moves → State → State
cleared_at p m = cond p.clears (dropping (filling m p.from zeros 16) p.dropped p.drops 0) m

abbrev pub copied_at : Moves → State → State
copied_at p m = cond p.whole (filling m p.to (at m p.from).registers 16) m

abbrev pub moved : Moves → State → State
moved p m = copied_at p (cleared_at p (paired_at p m))

-- its slots are the state's, and two where registers go from one to the other
pub record PlanFits (p : Moves) : Type 0 where
  pub from_below : p.from < 64
  pub to_below : p.to < 64
  pub pairs_apart : 0 < p.pairs → (p.to < p.from) ⊎ (p.from < p.to)
  pub whole_apart : p.whole ≡ true → (p.to < p.from) ⊎ (p.from < p.to)
  pub dropped_below : p.dropped < 64
  pub drops_few : p.drops ≤ stack_length
