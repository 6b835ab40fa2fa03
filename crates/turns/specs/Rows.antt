-- A row of slots as one number. Only the loop's small functions cite these.
use Rattle.std.specs.Prelude.{Bool, ◌&&◌, List, [], ◌∷◌, ℕ, ◌+◌, ◌-◌, ◌*◌, ◌%◌, ltb}
use Rattle.turns.specs.declared.rows.Row.{Row}

-- seven bits for each slot, the first lowest, and one more than the slot
unfoldable pub packed : List ℕ → ℕ
packed [] = 0
packed (k ∷ ks) = k + 1 + 128 * packed ks

-- the first slot
abbrev pub slot_in : ℕ → ℕ
slot_in row = (row - 1) % 128

-- a row that is being made
abbrev pub no_slots : ℕ → Row
no_slots lanes = record { slots = 0; unit = 1; lanes = lanes }

abbrev pub with_slot : Row → ℕ → Row
with_slot row k = record { slots = row.slots + row.unit * (k + 1); unit = row.unit * 128; lanes = row.lanes - 1 }

-- a lane is left, and a slot
abbrev pub looks_on : Row → ℕ → ℕ → Bool
looks_on row look places = ltb 0 row.lanes && ltb look places
