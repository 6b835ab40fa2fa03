-- A value and a status against their numbers: read again they are the same, and numbers that pass as one are that one's.
use mathlib.Core.Path.{◌≡◌, refl, sym, ap, ap₂}
use mathlib.Core.Bool.{true, false}
use mathlib.Core.List.{List, [], ◌∷◌}
use Prim.Native.Nat.{ℕ, zero, suc, ◌^◌, ◌<◌}
use native.Mathlib.Omega.{arith}
use mir.Syntax.{w64}
use mir.Val.{of_z}
use mir.ValLaws.{to_z-of_z, of_z-to_z, to_z-Fits, of_z_fits}
use lib.Dec.{eqb}
use lib.ListN.{get_or}
use borrow.Author.Tests.{ltb-true, lt-ltb, eqb-true, ne_eqb, le-ltb}
use Rattle.facts.proofs.Tests.{both_true, true_both, clash}
use Rattle.image.specs.RoundTrip.{Cells}
use Rattle.task.specs.declared.Value.{Value}
use Rattle.task.specs.declared.Value.TheVariants.{Int, Label, Record}
use Rattle.task.specs.declared.Status.{Status}
use Rattle.task.specs.declared.Status.TheVariants.{Vacant, Running, Waiting, Halted, Faulted}
use Rattle.state.specs.Numbers.{value_numbers}
use Rattle.state.specs.State.{status_number, fault_number}
use Rattle.state.specs.Reading.{in32, is_value, value_of, is_status, status_of}
use Rattle.state.specs.Fields.{ValueInField}
use Rattle.state.proofs.NumbersAt.{cells-each}

-- ---- a value

-- the numbers of a value within its field pass as a value, which is that one
pub value_again : (v : Value) → ValueInField v → (xs : List ℕ) → value_numbers v ≡ xs
    → (is_value (get_or xs 0 0) (get_or xs 1 0) (get_or xs 2 0) ≡ true) × (value_of (get_or xs 0 0) (get_or xs 1 0) (get_or xs 2 0) ≡ v)
unfolding is_value value_of
value_again (Int z) h xs e = rw (← e) (refl, ap Int (to_z-of_z w64 z h))
value_again (Label b) h xs e = rw (← e) (true_both (lt-ltb b (2 ^ 32) h) refl, refl)
value_again (Record c d) h xs e = rw (← e) (true_both (lt-ltb c (2 ^ 32) h.0) (lt-ltb d (2 ^ 32) h.1), refl)

-- three numbers that pass as a value are that value's
pub value_back : (kind a b : ℕ) → a < 2 ^ 64 → is_value kind a b ≡ true
    → ValueInField (value_of kind a b) × (value_numbers (value_of kind a b) ≡ kind ∷ a ∷ b ∷ [])
unfolding is_value value_of
value_back zero a b small h =
    (to_z-Fits w64 a (record { fits = small }), ap₂ (λ (m n : ℕ). 0 ∷ m ∷ n ∷ []) (of_z-to_z w64 a (record { fits = small })) (sym (eqb-true b 0 h)))
value_back (suc zero) a b small h =
    let t = both_true (in32 a) (eqb b 0) h in
    (ltb-true a (2 ^ 32) t.0, ap (λ (n : ℕ). 1 ∷ a ∷ n ∷ []) (sym (eqb-true b 0 t.1)))
value_back (suc (suc zero)) a b small h =
    let t = both_true (in32 a) (in32 b) h in
    ((ltb-true a (2 ^ 32) t.0, ltb-true b (2 ^ 32) t.1), refl)
value_back (suc (suc (suc k))) a b small h = clash h (not_equal (suc (suc (suc k))) (omega arith))
  where
    not_equal : (n : ℕ) → 2 < n → is_value n a b ≡ false
    not_equal n q = rw (ne_eqb n 0 (omega arith), ne_eqb n 1 (omega arith), ne_eqb n 2 (omega arith), is_value)

pub value-cells : (v : Value) → ValueInField v → Cells (value_numbers v)
value-cells (Int z) h = cells-each (0 ∷ of_z w64 z ∷ 0 ∷ []) (omega (arith, (of_z_fits w64 z h).fits))
value-cells (Label b) h = cells-each (1 ∷ b ∷ 0 ∷ []) (omega arith)
value-cells (Record c d) h = cells-each (2 ∷ c ∷ d ∷ []) (omega arith)

-- ---- a status

-- the numbers of a status pass as a status, which is that one
pub status_again : (s : Status) → fault_number s < 256
    → (is_status (status_number s) (fault_number s) ≡ true) × (status_of (status_number s) (fault_number s) ≡ s)
unfolding is_status status_of
status_again Vacant h = (refl, refl)
status_again Running h = (refl, refl)
status_again Waiting h = (refl, refl)
status_again Halted h = (refl, refl)
status_again (Faulted n) h = (lt-ltb n 256 h, refl)

-- two numbers that pass as a status are that status's
pub status_back : (status fault : ℕ) → is_status status fault ≡ true
    → (status_number (status_of status fault) ≡ status) × (fault_number (status_of status fault) ≡ fault) × (fault < 256)
unfolding is_status status_of
status_back zero fault h = let e = eqb-true fault 0 h in (refl, sym e, omega arith)
status_back (suc zero) fault h = let e = eqb-true fault 0 h in (refl, sym e, omega arith)
status_back (suc (suc zero)) fault h = let e = eqb-true fault 0 h in (refl, sym e, omega arith)
status_back (suc (suc (suc zero))) fault h = let e = eqb-true fault 0 h in (refl, sym e, omega arith)
status_back (suc (suc (suc (suc zero)))) fault h = (refl, refl, ltb-true fault 256 h)
status_back (suc (suc (suc (suc (suc k))))) fault h = clash h (too_large (suc (suc (suc (suc (suc k))))) (omega arith))
  where
    too_large : (n : ℕ) → 4 < n → is_status n fault ≡ false
    too_large n q = rw (ne_eqb n 4 (omega arith), le-ltb n 4 (omega arith), is_status)

pub status_below : (s : Status) → status_number s < 5
status_below Vacant = omega arith
status_below Running = omega arith
status_below Waiting = omega arith
status_below Halted = omega arith
status_below (Faulted n) = omega arith
