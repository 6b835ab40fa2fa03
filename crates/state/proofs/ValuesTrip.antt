-- The values of an array, registers or a stack's, against the numbers at their place: read again they are the same, and numbers that pass as
-- values are those values'.
use mathlib.Core.Path.{◌≡◌, ap, ◌∙◌, subst}
use mathlib.Core.Bool.{true}
use mathlib.Core.List.{List}
use Prim.Native.Nat.{ℕ, ◌+◌, ◌*◌, ◌<◌}
use native.Mathlib.Omega.{arith}
use lib.ListN.{length, get_or}
use Rattle.image.specs.RoundTrip.{Bytes, Cells}
use Rattle.task.specs.declared.Value.{Value}
use Rattle.task.specs.declared.Register.{Register}
use Rattle.task.specs.Frames.{zero_register}
use Rattle.task.proofs.EveryLaws.{every_from}
use Rattle.state.specs.Numbers.{value_numbers}
use Rattle.state.specs.State.{values_from}
use Rattle.state.specs.Reading.{table, stands_value, register_in, stands_values}
use Rattle.state.specs.Fields.{ValueInField}
use Rattle.state.proofs.Laying.{length-value}
use Rattle.state.proofs.Rooms.{value-stands}
use Rattle.state.proofs.Tables.{table_same, table_list}
use Rattle.state.proofs.NumbersAt.{NumbersAt, numbers-row, numbers-rows, cells-rows}
use Rattle.state.proofs.Alternatives.{value-cells}
use Rattle.state.proofs.TaskTrip.{register_again, register_back}

-- every value of an array within its field
abbrev pub ValuesInField : List Register → Type 0
ValuesInField values = (i : ℕ) → ValueInField (get_or values i zero_register).value

module _ (values : List Register) (first : ℕ) where
  abbrev value : ℕ → Value
  value i = (get_or values (first + i) zero_register).value

  abbrev numbers : ℕ → List ℕ
  numbers i = value_numbers (value i)

  three-each : (i : ℕ) → length (numbers i) ≡ 3
  three-each i = length-value (value i)

  pub values-cells : ValuesInField values → (n : ℕ) → Cells (values_from values first n)
  values-cells f n = cells-rows numbers n (λ i q. value-cells (value i) (f (first + i)))

  module _ (bytes : List ℕ) (at n : ℕ) where
    -- read again
    module _ (f : ValuesInField values) (h : NumbersAt bytes at (values_from values first n)) where
      value_read : (i : ℕ) → i < n
          → (stands_value bytes (at + 24 * i) ≡ true) × (register_in bytes (at + 24 * i) ≡ get_or values (first + i) zero_register)
      value_read i q = register_again bytes (at + 24 * i) (value i) (f (first + i)) (numbers-row bytes at numbers 3 three-each n h i q)

      pub values-stand : stands_values bytes at n ≡ true
      values-stand = every_from (λ i. stands_value bytes (at + 24 * i)) n 0 (λ i p q. (value_read i (omega arith)).0)

      -- the array's element x is the slot's i
      pub value_again : (i : ℕ) → i < n → (x : ℕ) → first + i ≡ x → register_in bytes (at + 24 * i) ≡ get_or values x zero_register
      value_again i q x e = (value_read i q).1 ∙ ap (λ (k : ℕ). get_or values k zero_register) e

    -- written back
    pub values-there : Bytes bytes → stands_values bytes at n ≡ true
        → ((i : ℕ) → i < n → register_in bytes (at + 24 * i) ≡ get_or values (first + i) zero_register)
        → NumbersAt bytes at (values_from values first n)
    values-there small h same =
        numbers-rows bytes at numbers 3 three-each n
        (λ i q.
        subst (λ (r : Register). NumbersAt bytes (at + 24 * i) (value_numbers r.value)) (same i q)
        (register_back bytes (at + 24 * i) small (value-stands bytes at n h i q)).1)

-- an array whose n elements stand at these places is read again whole
pub array_again : (bytes : List ℕ) (values : List Register) (n : ℕ) (place : ℕ → ℕ) → length values ≡ n
    → ((i : ℕ) → i < n → register_in bytes (place i) ≡ get_or values i zero_register) → table (λ i. register_in bytes (place i)) n ≡ values
array_again bytes values n place e h =
    table_same (λ i. register_in bytes (place i)) (λ i. get_or values i zero_register) n h ∙ table_list values n zero_register e
