-- The integers of a buffer are in their field, the state of an accepted start is in its fields, and so is the state after every order of picks.
use mathlib.Core.Path.{◌≡◌, subst⁻¹}
use mathlib.Core.List.{List, [], ◌∷◌}
use Prim.Native.Nat.{ℕ, zero, suc, ◌+◌, ◌<◌}
use native.Mathlib.Omega.{arith}
use lib.IntN.{ℤ}
use lib.ListN.{length}
use Rattle.int64.specs.Little.{little}
use Rattle.drive.specs.declared.State.{State}
use Rattle.drive.specs.Slots.{at}
use Rattle.machine.specs.Starting.{start_no, fresh, started}
use Rattle.machine.specs.Picking.{picked}
use Rattle.machine.proofs.StartLaws.{start_accepted, started-fresh, fresh_work, fresh-first, fresh-others, fresh-fits}
use Rattle.orders.specs.Demand.{Job, Accepted, start_on, played_of, played}
use Rattle.state.specs.Numbers.{integers_in}
use Rattle.state.specs.Fields.{InFields}
use Rattle.steps.specs.Fields.{IntegersInField}
use Rattle.steps.proofs.StepFields.{Narrow, read_fits, vacant_narrow, start_narrow}
use Rattle.steps.proofs.ShapeFields.{fits_in_fields}
use Rattle.steps.proofs.PickFields.{picked_in_fields}

-- ---- the integers of a buffer

pub integers_in_field : (bytes : List ℕ) (at n : ℕ) → IntegersInField (integers_in bytes at n)
unfolding integers_in
integers_in_field bytes at zero i = read_fits 0
integers_in_field bytes at (suc n) zero = read_fits (little 8 bytes at)
integers_in_field bytes at (suc n) (suc i) = integers_in_field bytes (at + 8) n i

-- ---- start

fresh_narrow : (places interval : ℕ) (registers : List ℤ) → length registers ≡ 16 → IntegersInField registers
    → (i : ℕ) → i < 64 → Narrow (at (fresh places interval registers) i)
fresh_narrow places interval registers n fit zero b = subst⁻¹ Narrow (fresh-first places interval registers n) (start_narrow places registers fit)
fresh_narrow places interval registers n fit (suc i) b = subst⁻¹ Narrow (fresh-others places interval registers (suc i) (omega arith) b) vacant_narrow

pub fresh_in_fields : (m : State) (cells : List ℕ) (places interval : ℕ) (registers words : List ℤ) → start_no cells places interval registers words ≡ 0
    → IntegersInField registers → InFields (started m cells places interval registers words)
fresh_in_fields m cells places interval registers words e fit =
    let start = start_accepted cells places interval registers words e in
    subst⁻¹ InFields (started-fresh m cells places interval registers words e)
    (fits_in_fields start.allowed (fresh places interval registers) (fresh-fits start) (omega (arith, fresh_work places interval registers))
    (fresh_narrow places interval registers start.sixteen fit))

-- ---- orders

-- from any state
pub played_in_fields : (j : Job) → IntegersInField j.words → (ks : List ℕ) (m : State) → InFields m → InFields (played j m ks)
unfolding played_of
played_in_fields j fit [] m x = x
played_in_fields j fit (k ∷ ks) m x =
    played_in_fields j fit ks (picked j.cells j.words m k) (picked_in_fields j.cells j.words m k fit x)

pub order_in_fields : (j : Job) → Accepted j → IntegersInField j.registers → IntegersInField j.words → (m : State) (ks : List ℕ)
    → InFields (played j (start_on j m) ks)
order_in_fields j a registers words m ks =
    played_in_fields j words ks (start_on j m) (fresh_in_fields m j.cells j.places j.interval j.registers j.words a registers)
