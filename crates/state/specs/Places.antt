-- Where the parts of a state stand in its bytes: three numbers, then 64 slots.
use Rattle.std.specs.Prelude.{ℕ, ◌+◌, ◌*◌, ◌/◌, ◌%◌}
use Rattle.task.specs.Frames.{stack_length}

-- a slot begins with its task record, 19 numbers; from these bytes of it on it has its 16 registers, its stack's height, and the stack's 32 values
abbrev pub registers_at : ℕ
registers_at = 152

abbrev pub height_at : ℕ
height_at = 536

abbrev pub stack_at : ℕ
stack_at = 544

-- 164 numbers in all
abbrev pub slot_bytes : ℕ
slot_bytes = 1312

abbrev pub slot_place : ℕ → ℕ
slot_place k = 24 + slot_bytes * k

-- where the bank's register i stands: slot i / 16 has it as its register i % 16
abbrev pub register_place : ℕ → ℕ
register_place i = slot_place (i / 16) + registers_at + 24 * (i % 16)

-- where entry i of the stacks stands: slot i / 32 has it as its stack's entry i % 32
abbrev pub entry_place : ℕ → ℕ
entry_place i = slot_place (i / stack_length) + stack_at + 24 * (i % stack_length)
