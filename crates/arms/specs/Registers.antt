-- Registers as two rows of numbers: of each register its kind and its 64 bits.
use Rattle.std.specs.Prelude.{◌≡◌, List, [], ◌∷◌, ℕ, zero, suc, ◌/◌, ◌%◌, length, get_or}
use Rattle.std.specs.Int.{w64}
use Rattle.std.proofs.Common.{to_z}
use Rattle.task.specs.declared.Value.{Value}
use Rattle.task.specs.declared.Value.TheVariants.{Int, Label, Record}
use Rattle.task.specs.declared.Register.{Register}
use Rattle.task.specs.Frames.{zero_register}
use Rattle.arms.specs.declared.Registers.{Registers}

-- kind 0: an integer's bits; 1: a label; 2: a record, 2 ^ 32 times the continuation and the depth
abbrev pub value_of : ℕ → ℕ → Value
value_of zero u = Int (to_z w64 u)
value_of (suc zero) u = Label u
value_of (suc (suc k)) u = Record (u / 4294967296) (u % 4294967296)

unfoldable pub registers_of : List ℕ → List ℕ → List Register
registers_of [] kinds = []
registers_of (u ∷ nums) [] = []
registers_of (u ∷ nums) (k ∷ kinds) = record { value = value_of k u } ∷ registers_of nums kinds

-- those of a task
abbrev pub registers_in : Registers → List Register
registers_in r = registers_of r.nums r.kinds

-- both rows have 16
abbrev pub Sized : List ℕ → List ℕ → Type 0
Sized nums kinds = (length nums ≡ 16) × (length kinds ≡ 16)

-- ---- Operands: what an instruction says of a value, which the registers then give

abbrev pub in_register : ℕ → List Register → Value
in_register r registers = (get_or registers r zero_register).value

abbrev pub as_label : ℕ → List Register → Value
as_label b registers = Label b

abbrev pub as_number : ℕ → List Register → Value
as_number u registers = Int (to_z w64 u)

-- by the operand's kind, as in `operand`
abbrev pub operand_by : ℕ → ℕ → List Register → Value
operand_by zero v = as_number v
operand_by (suc zero) v = in_register v
operand_by (suc (suc zero)) v = as_label v
operand_by (suc (suc (suc k))) v = as_number v
