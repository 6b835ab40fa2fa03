-- What the loop plans for the registers of two slots. Only its small functions cite these; `drive`'s `PlanLaws` says what a plan does.
use Rattle.std.specs.Prelude.{Bool, true, false, cond, ◌&&◌, ℕ, ◌*◌, eqb, ltb}
use Rattle.task.specs.declared.Kind.{Kind}
use Rattle.task.specs.declared.Kind.TheVariants.{Stores, Goes, Pushes, Pops, Waits, Halts, Faults, Forks}
use Rattle.turns.specs.declared.moves.Moves.{Moves}

abbrev pub no_moves : Moves
no_moves = record { from = 0; to = 0; pairs = 0; packed = 0; clears = false; whole = false; dropped = 0; drops = 0 }

abbrev pub fork_moves : ℕ → ℕ → Moves
fork_moves parent child = record { from = parent; to = child; pairs = 0; packed = 0; clears = false; whole = true; dropped = 0; drops = 0 }

abbrev pub faults : Kind → ℕ
faults Stores = 0
faults Goes = 0
faults Pushes = 0
faults Pops = 0
faults Waits = 0
faults Halts = 0
faults Faults = 1
faults Forks = 0

-- a fault clears the registers, and the h values of the stack
abbrev pub end_moves : ℕ → Kind → ℕ → Moves
end_moves k kind h =
    record { from = k; to = 0; pairs = 0; packed = 0; clears = ltb 0 (faults kind); whole = false; dropped = k; drops = faults kind * h }

-- the child's values are dropped; where the joined task is faulted, the parent's. A side that has faulted has none, so one of the two is empty
abbrev pub join_moves : ℕ → ℕ → ℕ → ℕ → Bool → ℕ → ℕ → Moves
join_moves parent child pairs packed faulted ours theirs = record {
  from = child;
  to = parent;
  pairs = pairs;
  packed = packed;
  clears = true;
  whole = faulted;
  dropped = cond (faulted && eqb theirs 0) parent child;
  drops = cond (faulted && eqb theirs 0) ours theirs;
}
