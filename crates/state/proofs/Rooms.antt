-- What the tests of a value, a status, a fork, a task record, a slot and a state say of their numbers: each has room in its field.
use mathlib.Core.Path.{◌≡◌, ap}
use Rattle.std.specs.Prelude.{Option, Some, None, cond, is_some}
use mathlib.Core.Bool.{Bool, true, false}
use mathlib.Core.List.{List}
use Prim.Native.Nat.{ℕ, ◌+◌, ◌*◌, ◌/◌, ◌%◌, ◌^◌, ◌<◌}
use native.Mathlib.Omega.{arith}
use lib.Dec.{eqb}
use lib.ListN.{length}
use borrow.Author.Tests.{ltb-true, eqb-true}
use Rattle.facts.proofs.Tests.{both_true}
use Rattle.task.specs.Formed.{every}
use Rattle.task.proofs.EveryLaws.{every-at}
use Rattle.state.specs.State.{state_length}
use Rattle.state.specs.Places.{registers_at, height_at, stack_at, slot_place, register_place, entry_place}
use Rattle.state.specs.Reading.{number_at, in16, in32, is_status, stands_value, stands_values, stands_fork, stands_task, stands_slot, stands_state}

-- what is read where the test answers yes, and nothing else, is there just then
pub some_if : {A : Type 0} (test : Bool) (x : A) (read : Option A) → read ≡ cond test (Some x) None → is_some read ≡ test
some_if true x read e = ap is_some e
some_if false x read e = ap is_some e

pub fork_room : (bytes : List ℕ) (at : ℕ) → stands_fork bytes at ≡ true → (number_at bytes at < 2 ^ 32) × (number_at bytes (at + 8) < 2 ^ 32)
fork_room bytes at h =
    let p = both_true (in32 (number_at bytes at)) (in32 (number_at bytes (at + 8))) h in
    (ltb-true _ (2 ^ 32) p.0, ltb-true _ (2 ^ 32) p.1)

-- what the test of a task record says
pub record TaskRoom (bytes : List ℕ) (at : ℕ) : Type 0 where
  pub status : is_status (number_at bytes at) (number_at bytes (at + 8)) ≡ true
  pub pc : number_at bytes (at + 24) < 2 ^ 16
  pub counter : number_at bytes (at + 32) < 2 ^ 32
  pub span : number_at bytes (at + 40) < 2 ^ 32
  pub depth : number_at bytes (at + 48) < 2 ^ 32
  pub height : number_at bytes (at + height_at) < 2 ^ 32
  pub forks : every (λ i. stands_fork bytes (at + 56 + 16 * i)) 6 0 ≡ true

pub task-room : (bytes : List ℕ) (at : ℕ) → stands_task bytes at ≡ true → TaskRoom bytes at
unfolding stands_task
task-room bytes at h =
    let p = both_true (is_status (number_at bytes at) (number_at bytes (at + 8))) _ h in
    let q = both_true (in16 (number_at bytes (at + 24))) _ p.1 in
    let r = both_true (in32 (number_at bytes (at + 32))) _ q.1 in
    let s = both_true (in32 (number_at bytes (at + 40))) _ r.1 in
    let t = both_true (in32 (number_at bytes (at + 48))) _ s.1 in
    let u = both_true (in32 (number_at bytes (at + height_at))) _ t.1 in
    record {
      status = p.0;
      pc = ltb-true _ (2 ^ 16) q.0;
      counter = ltb-true _ (2 ^ 32) r.0;
      span = ltb-true _ (2 ^ 32) s.0;
      depth = ltb-true _ (2 ^ 32) t.0;
      height = ltb-true _ (2 ^ 32) u.0;
      forks = u.1;
    }

-- what the test of a slot says
pub record SlotRoom (bytes : List ℕ) (at : ℕ) : Type 0 where
  pub task : stands_task bytes at ≡ true
  pub registers : stands_values bytes (at + registers_at) 16 ≡ true
  pub stack : stands_values bytes (at + stack_at) 32 ≡ true

pub slot_room : (bytes : List ℕ) (at : ℕ) → stands_slot bytes at ≡ true → SlotRoom bytes at
unfolding stands_slot
slot_room bytes at h =
    let p = both_true (stands_task bytes at) _ h in
    let q = both_true (stands_values bytes (at + registers_at) 16) _ p.1 in
    record { task = p.0; registers = q.0; stack = q.1 }

-- what the test of a whole buffer says
pub record StateRoom (bytes : List ℕ) : Type 0 where
  pub whole : length bytes ≡ state_length
  pub interval : number_at bytes 8 < 2 ^ 16
  pub work : number_at bytes 16 < 2 ^ 32
  pub slots : (k : ℕ) → k < 64 → SlotRoom bytes (slot_place k)

pub state_room : (bytes : List ℕ) → stands_state bytes ≡ true → StateRoom bytes
unfolding stands_state
state_room bytes h =
    let p = both_true (eqb (length bytes) state_length) _ h in
    let q = both_true (in16 (number_at bytes 8)) _ p.1 in
    let r = both_true (in32 (number_at bytes 16)) _ q.1 in
    record {
      whole = eqb-true (length bytes) state_length p.0;
      interval = ltb-true _ (2 ^ 16) q.0;
      work = ltb-true _ (2 ^ 32) r.0;
      slots = λ k q. slot_room bytes (slot_place k) (every-at (λ n. stands_slot bytes (slot_place n)) 64 0 r.1 k (omega arith) (omega arith));
    }

-- each of n values
pub value-stands : (bytes : List ℕ) (at n : ℕ) → stands_values bytes at n ≡ true → (i : ℕ) → i < n → stands_value bytes (at + 24 * i) ≡ true
value-stands bytes at n h i q = every-at (λ j. stands_value bytes (at + 24 * j)) n 0 h i (omega arith) (omega arith)

module _ (bytes : List ℕ) (s : StateRoom bytes) (i : ℕ) where
  pub register-stands : i < 1024 → stands_value bytes (register_place i) ≡ true
  register-stands q = value-stands bytes (slot_place (i / 16) + registers_at) 16 (s.slots (i / 16) (omega arith)).registers (i % 16) (omega arith)

  pub entry-stands : i < 2048 → stands_value bytes (entry_place i) ≡ true
  entry-stands q = value-stands bytes (slot_place (i / 32) + stack_at) 32 (s.slots (i / 32) (omega arith)).stack (i % 32) (omega arith)
