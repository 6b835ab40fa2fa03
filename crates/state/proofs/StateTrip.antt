-- The whole state against the numbers in its bytes: a state's bytes stand for it, and bytes that stand for a state are that state's.
use mathlib.Core.Path.{◌≡◌, refl, sym, ap, ◌∙◌, subst}
use mathlib.Core.Bool.{true}
use mathlib.Core.List.{List, [], ◌∷◌, ◌++◌}
use Prim.Native.Nat.{ℕ, ◌+◌, ◌*◌, ◌/◌, ◌%◌, ◌<◌}
use native.Mathlib.Omega.{arith}
use native.Mathlib.Nat.{zero-add}
use lib.ListN.{length, get_or}
use borrow.Author.Tests.{eq-eqb}
use Rattle.facts.proofs.Tests.{true_both}
use Rattle.image.specs.Layout.{rows}
use Rattle.image.specs.RoundTrip.{Bytes, Cells}
use Rattle.task.specs.declared.Register.{Register}
use Rattle.task.specs.declared.Task.{Task}
use Rattle.task.specs.Frames.{zero_register, no_task}
use Rattle.task.proofs.EveryLaws.{every_from}
use Rattle.drive.specs.declared.State.{State}
use Rattle.state.specs.State.{task_numbers, values_from, slot_numbers, state_numbers, state_length, state_bytes}
use Rattle.state.specs.Places.{registers_at, height_at, stack_at, slot_place, register_place, entry_place}
use Rattle.state.specs.Reading.{table, number_at, register_in, task_in, stands_slot, stands_state, state_in}
use Rattle.state.specs.Fields.{ValueInField, TaskInFields, InFields}
use Rattle.state.proofs.Rooms.{StateRoom, state_room, register-stands, entry-stands}
use Rattle.state.proofs.Laying.{length-in_bytes}
use Rattle.state.proofs.StateLaws.{length-task, length-values, length_slot, state_length_lem}
use Rattle.state.proofs.Tables.{length-table, get_d_table, table_same, table_list, table-keeps}
use Rattle.state.proofs.NumbersAt.{NumbersAt, number-below, numbers-there, three_from, one-there, number-first, numbers-before, numbers_after}
use Rattle.state.proofs.NumbersAt.{numbers-joined, numbers-row, numbers-rows, written_from, numbers-written, cells-each, cells-append, cells-rows}
use Rattle.state.proofs.TaskTrip.{has_room, task-cells, register_back, task-stands, task_again, task_in_fields, task_back}
use Rattle.state.proofs.ValuesTrip.{ValuesInField, values-cells, values-stand, value_again, values-there, array_again}

-- slot k's task record, and the numbers of its registers and of its stack
abbrev task : State → ℕ → Task
task m k = get_or m.tasks k no_task

abbrev registers : State → ℕ → List ℕ
registers m k = values_from m.bank (16 * k) 16

abbrev stack : State → ℕ → List ℕ
stack m k = values_from m.stacks (32 * k) 32

-- the numbers before the slots
abbrev three : State → List ℕ
three m = m.places ∷ m.interval ∷ m.work ∷ []

-- ---- a state's bytes stand for it

module _ (m : State) (f : InFields m) where
  -- each number has 64 bits, so that each stands in the bytes at its place
  slot_cells : (k : ℕ) → k < 64 → Cells (slot_numbers m k)
  unfolding slot_numbers
  slot_cells k q =
      let height = (f.tasks k q).height in
      cells-append (task_numbers (task m k)) (registers m k ++ ((task m k).height ∷ stack m k))
      (task-cells (task m k) (f.tasks k q))
      (cells-append (registers m k) ((task m k).height ∷ stack m k)
      (values-cells m.bank (16 * k) f.registers 16)
      (cells-append ((task m k).height ∷ []) (stack m k)
      (cells-each ((task m k).height ∷ []) (omega (arith, height)))
      (values-cells m.stacks (32 * k) f.entries 32)))

  state_cells : Cells (state_numbers m)
  unfolding state_numbers
  state_cells =
      cells-append (three m) (rows (slot_numbers m) 64)
      (cells-each (three m) (omega arith))
      (cells-rows (slot_numbers m) 64 slot_cells)

  state_at : NumbersAt (state_bytes m) 0 (state_numbers m)
  state_at = numbers-written [] (state_numbers m) state_cells

  slot_at : (k : ℕ) → k < 64 → NumbersAt (state_bytes m) (slot_place k) (slot_numbers m k)
  unfolding state_numbers
  slot_at =
      numbers-row (state_bytes m) 24 (slot_numbers m) 164 (length_slot m) 64
      (numbers_after (state_bytes m) 0 (three m) (rows (slot_numbers m) 64) 24 refl state_at)

  module _ (k : ℕ) (q : k < 64) where
    task-at : NumbersAt (state_bytes m) (slot_place k) (task_numbers (task m k))
    unfolding slot_numbers
    task-at = numbers-before (state_bytes m) (slot_place k) (task_numbers (task m k)) (registers m k ++ ((task m k).height ∷ stack m k)) (slot_at k q)

    values-at : NumbersAt (state_bytes m) (slot_place k + registers_at) (registers m k ++ ((task m k).height ∷ stack m k))
    unfolding slot_numbers
    values-at =
        numbers_after (state_bytes m) (slot_place k) (task_numbers (task m k)) (registers m k ++ ((task m k).height ∷ stack m k)) (slot_place k + registers_at)
        (omega (arith, length-task (task m k)))
        (slot_at k q)

    registers-at : NumbersAt (state_bytes m) (slot_place k + registers_at) (registers m k)
    registers-at = numbers-before (state_bytes m) (slot_place k + registers_at) (registers m k) ((task m k).height ∷ stack m k) values-at

    rest_at : NumbersAt (state_bytes m) (slot_place k + height_at) ((task m k).height ∷ stack m k)
    rest_at =
        numbers_after (state_bytes m) (slot_place k + registers_at) (registers m k) ((task m k).height ∷ stack m k) (slot_place k + height_at)
        (omega (arith, length-values m.bank (16 * k) 16))
        values-at

    height-at : number_at (state_bytes m) (slot_place k + height_at) ≡ (task m k).height
    height-at = number-first (state_bytes m) (slot_place k + height_at) ((task m k).height ∷ stack m k) (omega arith) rest_at

    stack_at_lem : NumbersAt (state_bytes m) (slot_place k + stack_at) (stack m k)
    stack_at_lem = numbers_after (state_bytes m) (slot_place k + height_at) ((task m k).height ∷ []) (stack m k) (slot_place k + stack_at) (omega arith) rest_at

    -- so each part passes, and read again is the same
    slot_stands : stands_slot (state_bytes m) (slot_place k) ≡ true
    unfolding stands_slot
    slot_stands =
        true_both (task-stands (state_bytes m) (slot_place k) (task m k) (f.tasks k q) task-at height-at)
        (true_both (values-stand m.bank (16 * k) (state_bytes m) (slot_place k + registers_at) 16 f.registers registers-at)
        (values-stand m.stacks (32 * k) (state_bytes m) (slot_place k + stack_at) 32 f.entries stack_at_lem))

    task_read : task_in (state_bytes m) (slot_place k) ≡ task m k
    task_read = task_again (state_bytes m) (slot_place k) (task m k) (f.tasks k q) task-at height-at

  register_read : (i : ℕ) → i < 1024 → register_in (state_bytes m) (register_place i) ≡ get_or m.bank i zero_register
  register_read i q =
      let k = i / 16 in
      value_again m.bank (16 * k) (state_bytes m) (slot_place k + registers_at) 16 f.registers (registers-at k (omega arith)) (i % 16) (omega arith) i (omega arith)

  entry_read : (i : ℕ) → i < 2048 → register_in (state_bytes m) (entry_place i) ≡ get_or m.stacks i zero_register
  entry_read i q =
      let k = i / 32 in
      value_again m.stacks (32 * k) (state_bytes m) (slot_place k + stack_at) 32 f.entries (stack_at_lem k (omega arith)) (i % 32) (omega arith) i (omega arith)

  number : (j : ℕ) → j < 3 → number_at (state_bytes m) (8 * j) ≡ get_or (three m) j 0
  unfolding state_numbers
  number j q = ap (number_at (state_bytes m)) (sym (zero-add (8 * j))) ∙ numbers-before (state_bytes m) 0 (three m) (rows (slot_numbers m) 64) state_at j q

  pub state_stands : stands_state (state_bytes m) ≡ true
  unfolding stands_state
  state_stands =
      true_both (eq-eqb (length (state_bytes m)) state_length (state_length_lem m))
      (true_both (has_room (number 1 (omega arith)) f.interval)
      (true_both (has_room (number 2 (omega arith)) f.work)
      (every_from (λ k. stands_slot (state_bytes m) (slot_place k)) 64 0 (λ k p q. slot_stands k q))))

  tasks_again : table (λ k. task_in (state_bytes m) (slot_place k)) 64 ≡ m.tasks
  tasks_again =
      table_same (λ k. task_in (state_bytes m) (slot_place k)) (task m) 64 task_read
      ∙ table_list m.tasks 64 no_task f.sized.of_tasks

  pub state_again : state_in (state_bytes m) ≡ m
  unfolding state_in
  state_again = λ i. record {
    places = number 0 (omega arith) i;
    interval = number 1 (omega arith) i;
    work = number 2 (omega arith) i;
    bank = array_again (state_bytes m) m.bank 1024 register_place f.sized.of_bank register_read i;
    stacks = array_again (state_bytes m) m.stacks 2048 entry_place f.sized.of_stacks entry_read i;
    tasks = tasks_again i;
  }

-- ---- bytes that stand for a state are that state's

module _ (bytes : List ℕ) (small : Bytes bytes) (h : stands_state bytes ≡ true) where
  -- the tests, taken apart
  stood : StateRoom bytes
  stood = state_room bytes h

  task_of : (k : ℕ) → k < 64 → task_in bytes (slot_place k) ≡ task (state_in bytes) k
  unfolding state_in
  task_of k q = sym (get_d_table (λ n. task_in bytes (slot_place n)) 64 k no_task q)

  -- an array whose n elements stand for values
  array_in_fields : (n : ℕ) (place : ℕ → ℕ) → ((i : ℕ) → i < n → ValueInField (register_in bytes (place i)).value)
      → ValuesInField (table (λ i. register_in bytes (place i)) n)
  array_in_fields n place stands =
      table-keeps (λ (r : Register). ValueInField r.value) (λ i. register_in bytes (place i)) n zero_register stands (record { sfits = omega arith })

  pub state_in_fields : InFields (state_in bytes)
  unfolding state_in
  state_in_fields = record {
    places = number-below bytes small 0;
    interval = stood.interval;
    work = stood.work;
    sized = record {
      of_bank = length-table (λ i. register_in bytes (register_place i)) 1024;
      of_stacks = length-table (λ i. register_in bytes (entry_place i)) 2048;
      of_tasks = length-table (λ k. task_in bytes (slot_place k)) 64;
    };
    registers = array_in_fields 1024 register_place (λ i q. (register_back bytes (register_place i) small (register-stands bytes stood i q)).0);
    entries = array_in_fields 2048 entry_place (λ i q. (register_back bytes (entry_place i) small (entry-stands bytes stood i q)).0);
    tasks = λ k q. subst TaskInFields (task_of k q) (task_in_fields bytes (slot_place k) small (stood.slots k q).task);
  }

  -- each part's numbers are those at its place
  module _ (k : ℕ) (q : k < 64) where
    task-there : NumbersAt bytes (slot_place k) (task_numbers (task (state_in bytes) k))
    task-there = subst (λ (t : Task). NumbersAt bytes (slot_place k) (task_numbers t)) (task_of k q) (task_back bytes (slot_place k) small (stood.slots k q).task)

    height-there : number_at bytes (slot_place k + height_at) ≡ (task (state_in bytes) k).height
    unfolding task_in
    height-there = ap (λ (t : Task). t.height) (task_of k q)

    registers-there : NumbersAt bytes (slot_place k + registers_at) (registers (state_in bytes) k)
    unfolding state_in
    registers-there =
        values-there (state_in bytes).bank (16 * k) bytes (slot_place k + registers_at) 16 small (stood.slots k q).registers
        (λ i r.
        let place : slot_place k + registers_at + 24 * i ≡ register_place (16 * k + i) = omega arith in
        ap (register_in bytes) place ∙ sym (get_d_table (λ j. register_in bytes (register_place j)) 1024 (16 * k + i) zero_register (omega arith)))

    stack-there : NumbersAt bytes (slot_place k + stack_at) (stack (state_in bytes) k)
    unfolding state_in
    stack-there =
        values-there (state_in bytes).stacks (32 * k) bytes (slot_place k + stack_at) 32 small (stood.slots k q).stack
        (λ i r.
        let place : slot_place k + stack_at + 24 * i ≡ entry_place (32 * k + i) = omega arith in
        ap (register_in bytes) place ∙ sym (get_d_table (λ j. register_in bytes (entry_place j)) 2048 (32 * k + i) zero_register (omega arith)))

    rest-there : NumbersAt bytes (slot_place k + height_at) ((task (state_in bytes) k).height ∷ stack (state_in bytes) k)
    rest-there =
        let height = (task (state_in bytes) k).height in
        numbers-joined bytes (slot_place k + height_at) (height ∷ []) (stack (state_in bytes) k) (slot_place k + stack_at) (omega arith)
        (one-there bytes (slot_place k + height_at) height height-there)
        stack-there

    slot_there : NumbersAt bytes (slot_place k) (slot_numbers (state_in bytes) k)
    unfolding slot_numbers
    slot_there =
        let m = state_in bytes in
        numbers-joined bytes (slot_place k) (task_numbers (task m k)) (registers m k ++ ((task m k).height ∷ stack m k)) (slot_place k + registers_at)
        (omega (arith, length-task (task m k)))
        task-there
        (numbers-joined bytes (slot_place k + registers_at) (registers m k) ((task m k).height ∷ stack m k) (slot_place k + height_at)
        (omega (arith, length-values m.bank (16 * k) 16))
        registers-there
        rest-there)

  three-there : NumbersAt bytes 0 (three (state_in bytes))
  unfolding state_in
  three-there = subst (NumbersAt bytes 0) (three_from bytes 0) (numbers-there bytes 0 3)

  state_there : NumbersAt bytes 0 (state_numbers (state_in bytes))
  unfolding state_numbers
  state_there =
      let m = state_in bytes in
      numbers-joined bytes 0 (three m) (rows (slot_numbers m) 64) 24 refl
      three-there
      (numbers-rows bytes 24 (slot_numbers m) 164 (length_slot m) 64 slot_there)

  pub state_back : state_bytes (state_in bytes) ≡ bytes
  state_back =
      written_from bytes small (state_numbers (state_in bytes)) 0
      (omega (arith, stood.whole, state_length_lem (state_in bytes), length-in_bytes (state_numbers (state_in bytes))))
      state_there
