-- A fork, a register's value and a task record against the numbers at their place: read again they are the same, and numbers that pass as
-- one are that one's.
use mathlib.Core.Path.{◌≡◌, refl, sym, ap, ap₂, ◌∙◌, subst}
use mathlib.Core.Bool.{true}
use mathlib.Core.List.{List, [], ◌∷◌}
use Prim.Native.Nat.{ℕ, ◌+◌, ◌*◌, ◌^◌, ◌<◌}
use native.Mathlib.Omega.{arith}
use native.Mathlib.Nat.{add-zero}
use lib.ListN.{length, get_or, drop}
use lib.Dec.{ltb}
use borrow.Author.Tests.{lt-ltb}
use Rattle.facts.proofs.Tests.{true_both}
use Rattle.image.specs.Layout.{rows}
use Rattle.image.specs.RoundTrip.{Bytes, Cells}
use Rattle.task.specs.declared.Value.{Value}
use Rattle.task.specs.declared.Fork.{Fork}
use Rattle.task.specs.declared.Task.{Task}
use Rattle.task.specs.Frames.{zero_fork}
use Rattle.task.proofs.EveryLaws.{every-at, every_from}
use Rattle.state.specs.Numbers.{value_numbers}
use Rattle.state.specs.State.{status_number, fault_number, fork_numbers, task_numbers}
use Rattle.state.specs.Places.{height_at}
use Rattle.state.specs.Reading.{table, number_at, is_status, status_of, stands_value, register_in, stands_fork, fork_in, stands_task, task_in}
use Rattle.state.specs.Fields.{ValueInField, ForkInField, TaskInFields}
use Rattle.state.proofs.Tables.{length-table, get_d_table, list_table, table_same, table_list, table-keeps}
use Rattle.state.proofs.NumbersAt.{NumbersAt, number-below, numbers_from, numbers-there, three_from, number-first, numbers-before, numbers_after}
use Rattle.state.proofs.NumbersAt.{numbers-joined, numbers-row, numbers-rows, cells-each, cells-append, cells-rows}
use Rattle.state.proofs.Alternatives.{value_again, value_back, status_again, status_back, status_below}
use Rattle.state.proofs.Laying.{length-value}
use Rattle.state.proofs.Rooms.{fork_room, TaskRoom, task-room}

-- a task record's seven numbers before the forks
abbrev head : Task → List ℕ
head t = status_number t.status ∷ fault_number t.status ∷ t.places ∷ t.pc ∷ t.counter ∷ t.span ∷ t.depth ∷ []

abbrev fork : Task → ℕ → List ℕ
fork t i = fork_numbers (get_or t.forks i zero_fork)

module _ (bytes : List ℕ) (at : ℕ) where
  -- ---- a value

  three-at : (xs : List ℕ) → length xs ≡ 3 → NumbersAt bytes at xs → xs ≡ number_at bytes at ∷ number_at bytes (at + 8) ∷ number_at bytes (at + 16) ∷ []
  three-at xs e h = list_table xs (λ j. number_at bytes (at + 8 * j)) 3 0 e (λ j q. sym (h j (omega arith))) ∙ three_from bytes at

  pub register_again : (v : Value) → ValueInField v → NumbersAt bytes at (value_numbers v)
      → (stands_value bytes at ≡ true) × (register_in bytes at ≡ record { value = v })
  register_again v f h =
      let a = value_again v f _ (three-at (value_numbers v) (length-value v) h) in
      (a.0, λ i. record { value = a.1 i })

  pub register_back : Bytes bytes → stands_value bytes at ≡ true
      → ValueInField (register_in bytes at).value × NumbersAt bytes at (value_numbers (register_in bytes at).value)
  register_back small h =
      let b = value_back (number_at bytes at) (number_at bytes (at + 8)) (number_at bytes (at + 16)) (number-below bytes small (at + 8)) h in
      (b.0, subst (NumbersAt bytes at) (three_from bytes at ∙ sym b.1) (numbers-there bytes at 3))

  -- ---- a fork

  two_from : numbers_from bytes at 2 ≡ fork_numbers (fork_in bytes at)
  unfolding table
  two_from = ap (λ (n : ℕ). number_at bytes n ∷ number_at bytes (at + 8) ∷ []) (add-zero at)

  fork_again : (f : Fork) → ForkInField f → NumbersAt bytes at (fork_numbers f) → (stands_fork bytes at ≡ true) × (fork_in bytes at ≡ f)
  fork_again f b h =
      let c = number-first bytes at (fork_numbers f) (omega arith) h in
      let d = h 1 (omega arith) in (
        true_both (lt-ltb (number_at bytes at) (2 ^ 32) (rw c b.0)) (lt-ltb (number_at bytes (at + 8)) (2 ^ 32) (rw d b.1)),
        λ i. record { continuation = c i; depth = d i },
      )

  fork_back : stands_fork bytes at ≡ true → ForkInField (fork_in bytes at) × NumbersAt bytes at (fork_numbers (fork_in bytes at))
  fork_back h =
      (fork_room bytes at h, subst (NumbersAt bytes at) two_from (numbers-there bytes at 2))

-- ---- a task record

pub has_room : {n x w : ℕ} → n ≡ x → x < w → ltb n w ≡ true
has_room {n} {x} {w} e h = lt-ltb n w (omega arith)

pub task-cells : (t : Task) → TaskInFields t → Cells (task_numbers t)
task-cells t f =
    cells-append (head t) (rows (fork t) 6)
    (cells-each (head t) (omega (arith, status_below t.status)))
    (cells-rows (fork t) 6 (λ i q. cells-each (fork t i) (omega (arith, f.forks i))))

module _ (bytes : List ℕ) (at : ℕ) where
  seven_from : numbers_from bytes at 7 ≡ number_at bytes at ∷ number_at bytes (at + 8) ∷ drop 2 (head (task_in bytes at))
  unfolding table task_in
  seven_from = ap (λ (n : ℕ). number_at bytes n ∷ number_at bytes (at + 8) ∷ drop 2 (head (task_in bytes at))) (add-zero at)

  -- read again; the stack's height stands beside the stack
  module _ (t : Task) (f : TaskInFields t) (h : NumbersAt bytes at (task_numbers t)) (top : number_at bytes (at + height_at) ≡ t.height) where
    fork-place : (i : ℕ) → i < 6 → NumbersAt bytes (at + 56 + 16 * i) (fork t i)
    fork-place = numbers-row bytes (at + 56) (fork t) 2 (λ i. refl) 6 (numbers_after bytes at (head t) (rows (fork t) 6) (at + 56) refl h)

    fork_read : (i : ℕ) → i < 6 → (stands_fork bytes (at + 56 + 16 * i) ≡ true) × (fork_in bytes (at + 56 + 16 * i) ≡ get_or t.forks i zero_fork)
    fork_read i q = fork_again bytes (at + 56 + 16 * i) (get_or t.forks i zero_fork) (f.forks i) (fork-place i q)

    status_number_lem : number_at bytes at ≡ status_number t.status
    status_number_lem = number-first bytes at (task_numbers t) (omega arith) h

    number : (j : ℕ) → j < 7 → number_at bytes (at + 8 * j) ≡ get_or (head t) j 0
    number = numbers-before bytes at (head t) (rows (fork t) 6) h

    pub task-stands : stands_task bytes at ≡ true
    unfolding stands_task
    task-stands =
        true_both (ap₂ is_status status_number_lem (number 1 (omega arith)) ∙ (status_again t.status f.fault).0)
        (true_both (has_room (number 3 (omega arith)) f.pc)
        (true_both (has_room (number 4 (omega arith)) f.counter)
        (true_both (has_room (number 5 (omega arith)) f.span)
        (true_both (has_room (number 6 (omega arith)) f.depth)
        (true_both (has_room top f.height)
        (every_from (λ i. stands_fork bytes (at + 56 + 16 * i)) 6 0 (λ i p q. (fork_read i q).0)))))))

    status_read : status_of (number_at bytes at) (number_at bytes (at + 8)) ≡ t.status
    status_read = ap₂ status_of status_number_lem (number 1 (omega arith)) ∙ (status_again t.status f.fault).1

    forks_again : table (λ i. fork_in bytes (at + 56 + 16 * i)) 6 ≡ t.forks
    forks_again =
        table_same (λ i. fork_in bytes (at + 56 + 16 * i)) (λ i. get_or t.forks i zero_fork) 6 (λ i q. (fork_read i q).1)
        ∙ table_list t.forks 6 zero_fork f.six_forks

    pub task_again : task_in bytes at ≡ t
    unfolding task_in
    task_again =
        λ i. record {
          status = status_read i;
          places = number 2 (omega arith) i;
          pc = number 3 (omega arith) i;
          counter = number 4 (omega arith) i;
          span = number 5 (omega arith) i;
          depth = number 6 (omega arith) i;
          height = top i;
          forks = forks_again i;
        }

  -- written back
  module _ (small : Bytes bytes) (h : stands_task bytes at ≡ true) where
    -- the tests, taken apart
    stood : TaskRoom bytes at
    stood = task-room bytes at h

    fork-stands : (i : ℕ) → i < 6 → stands_fork bytes (at + 56 + 16 * i) ≡ true
    fork-stands i q = every-at (λ k. stands_fork bytes (at + 56 + 16 * k)) 6 0 stood.forks i (omega arith) (omega arith)

    abbrev fork-stood : (i : ℕ) → i < 6 → ForkInField (fork_in bytes (at + 56 + 16 * i)) × NumbersAt bytes (at + 56 + 16 * i) (fork_numbers (fork_in bytes (at + 56 + 16 * i)))
    fork-stood i q = fork_back bytes (at + 56 + 16 * i) (fork-stands i q)

    pub task_in_fields : TaskInFields (task_in bytes at)
    unfolding task_in
    task_in_fields = record {
      fault = let s = status_back (number_at bytes at) (number_at bytes (at + 8)) stood.status in rw s.1 s.2;
      places = number-below bytes small (at + 16);
      pc = stood.pc;
      counter = stood.counter;
      span = stood.span;
      depth = stood.depth;
      height = stood.height;
      six_forks = length-table (λ i. fork_in bytes (at + 56 + 16 * i)) 6;
      forks = table-keeps ForkInField (λ i. fork_in bytes (at + 56 + 16 * i)) 6 zero_fork (λ i q. (fork-stood i q).0) (omega arith);
    }

    fork-there : (i : ℕ) → i < 6 → NumbersAt bytes (at + 56 + 16 * i) (fork (task_in bytes at) i)
    unfolding task_in
    fork-there i q =
        subst (λ (f : Fork). NumbersAt bytes (at + 56 + 16 * i) (fork_numbers f))
        (sym (get_d_table (λ k. fork_in bytes (at + 56 + 16 * k)) 6 i zero_fork q))
        (fork-stood i q).1

    head-there : NumbersAt bytes at (head (task_in bytes at))
    unfolding task_in
    head-there =
        let s = status_back (number_at bytes at) (number_at bytes (at + 8)) stood.status in
        subst (NumbersAt bytes at)
        (seven_from ∙ ap₂ (λ (m n : ℕ). m ∷ n ∷ drop 2 (head (task_in bytes at))) (sym s.0) (sym s.1))
        (numbers-there bytes at 7)

    pub task_back : NumbersAt bytes at (task_numbers (task_in bytes at))
    task_back =
        let t = task_in bytes at in
        numbers-joined bytes at (head t) (rows (fork t) 6) (at + 56) refl head-there
        (numbers-rows bytes (at + 56) (fork t) 2 (λ i. refl) 6 fork-there)
