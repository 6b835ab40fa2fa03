-- Which state a buffer of bytes stands for. A number that its field has no room for is never cut to size: such bytes stand for no state.
use Rattle.std.specs.Prelude.{Bool, cond, ◌&&◌, List, [], ◌∷◌, ◌++◌, ℕ, zero, suc, ◌+◌, ◌*◌, ◌^◌, eqb, ltb, length, get_or}
use Rattle.std.specs.Int.{w64}
use Rattle.std.proofs.Common.{to_z}
use Rattle.int64.specs.Little.{little}
use Rattle.task.specs.Frames.{bank_length, stack_length, stacks_length}
use Rattle.task.specs.declared.Value.{Value}
use Rattle.task.specs.declared.Value.TheVariants.{Int, Label, Record}
use Rattle.task.specs.declared.Register.{Register}
use Rattle.task.specs.declared.Status.{Status}
use Rattle.task.specs.declared.Status.TheVariants.{Vacant, Running, Waiting, Halted, Faulted}
use Rattle.task.specs.declared.Fork.{Fork}
use Rattle.task.specs.declared.Task.{Task}
use Rattle.task.specs.Formed.{every}
use Rattle.drive.specs.declared.State.{State}
use Rattle.state.specs.Places.{registers_at, height_at, stack_at, slot_place, register_place, entry_place}
use Rattle.state.specs.State.{state_length}

-- f 0, f 1, .. (n of them)
unfoldable pub table : {A : Type 0} → (ℕ → A) → ℕ → List A
table f zero = []
table f (suc n) = table f n ++ (f n ∷ [])

-- the number of 64 bits at this offset
abbrev pub number_at : List ℕ → ℕ → ℕ
number_at bytes at = little 8 bytes at

-- n bytes from this offset on, all 0
abbrev pub is_clear : List ℕ → ℕ → ℕ → Bool
is_clear bytes at n = every (λ i. eqb (get_or bytes (at + i) 0) 0) n 0

-- room in a field
abbrev pub in16 : ℕ → Bool
in16 n = ltb n (2 ^ 16)

abbrev pub in32 : ℕ → Bool
in32 n = ltb n (2 ^ 32)

-- ---- A value: kind, first number, second number

unfoldable pub is_value : ℕ → ℕ → ℕ → Bool
is_value kind a b =
    cond (eqb kind 0) (eqb b 0)
    (cond (eqb kind 1) (in32 a && eqb b 0)
    (eqb kind 2 && (in32 a && in32 b)))

unfoldable pub value_of : ℕ → ℕ → ℕ → Value
value_of kind a b = cond (eqb kind 0) (Int (to_z w64 a)) (cond (eqb kind 1) (Label a) (Record a b))

abbrev pub stands_value : List ℕ → ℕ → Bool
stands_value bytes at = is_value (number_at bytes at) (number_at bytes (at + 8)) (number_at bytes (at + 16))

abbrev pub register_in : List ℕ → ℕ → Register
register_in bytes at = record { value = value_of (number_at bytes at) (number_at bytes (at + 8)) (number_at bytes (at + 16)) }

-- n values, the first at this offset
abbrev pub stands_values : List ℕ → ℕ → ℕ → Bool
stands_values bytes at n = every (λ i. stands_value bytes (at + 24 * i)) n 0

-- ---- A status: its number and a fault number

unfoldable pub is_status : ℕ → ℕ → Bool
is_status status fault = cond (eqb status 4) (ltb fault 256) (ltb status 4 && eqb fault 0)

unfoldable pub status_of : ℕ → ℕ → Status
status_of status fault =
    cond (eqb status 0) Vacant
    (cond (eqb status 1) Running
    (cond (eqb status 2) Waiting
    (cond (eqb status 3) Halted (Faulted fault))))

-- ---- A fork, and the task record of a slot that begins at this offset

abbrev pub stands_fork : List ℕ → ℕ → Bool
stands_fork bytes at = in32 (number_at bytes at) && in32 (number_at bytes (at + 8))

abbrev pub fork_in : List ℕ → ℕ → Fork
fork_in bytes at = record { continuation = number_at bytes at; depth = number_at bytes (at + 8) }

unfoldable pub stands_task : List ℕ → ℕ → Bool
stands_task bytes at =
    is_status (number_at bytes at) (number_at bytes (at + 8))
    && (in16 (number_at bytes (at + 24))
    && (in32 (number_at bytes (at + 32))
    && (in32 (number_at bytes (at + 40))
    && (in32 (number_at bytes (at + 48))
    && (in32 (number_at bytes (at + height_at)) && every (λ i. stands_fork bytes (at + 56 + 16 * i)) 6 0)))))

unfoldable pub task_in : List ℕ → ℕ → Task
task_in bytes at = record {
  status = status_of (number_at bytes at) (number_at bytes (at + 8));
  places = number_at bytes (at + 16);
  pc = number_at bytes (at + 24);
  counter = number_at bytes (at + 32);
  span = number_at bytes (at + 40);
  depth = number_at bytes (at + 48);
  height = number_at bytes (at + height_at);
  forks = table (λ i. fork_in bytes (at + 56 + 16 * i)) 6;
}

-- ---- A slot, and the state

-- the task record, the registers, and the stack's values
unfoldable pub stands_slot : List ℕ → ℕ → Bool
stands_slot bytes at =
    stands_task bytes at && (stands_values bytes (at + registers_at) 16 && stands_values bytes (at + stack_at) stack_length)

-- the bytes stand for a state: a buffer of its length, whose numbers all are within their fields
unfoldable pub stands_state : List ℕ → Bool
stands_state bytes =
    eqb (length bytes) state_length
    && (in16 (number_at bytes 8)
    && (in32 (number_at bytes 16) && every (λ k. stands_slot bytes (slot_place k)) 64 0))

-- then this is it
unfoldable pub state_in : List ℕ → State
state_in bytes = record {
  places = number_at bytes 0;
  interval = number_at bytes 8;
  work = number_at bytes 16;
  bank = table (λ i. register_in bytes (register_place i)) bank_length;
  stacks = table (λ i. register_in bytes (entry_place i)) stacks_length;
  tasks = table (λ k. task_in bytes (slot_place k)) 64;
}
