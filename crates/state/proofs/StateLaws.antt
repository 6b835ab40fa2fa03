-- The state's bytes: how long its parts are, and that the parts put together are the whole.
use mathlib.Core.Path.{◌≡◌, refl, sym, ap, ap₂, ◌∙◌}
use mathlib.Core.List.{List, [], ◌∷◌, ◌++◌, append_assoc}
use Prim.Native.Nat.{ℕ, ◌+◌, ◌-◌, ◌*◌, ◌≤◌}
use native.Mathlib.Omega.{arith}
use lib.ListN.{length, get_or, take, drop, length-append, length-drop}
use Rattle.std.proofs.lemmas.List.{length-take-le, get_or-take, get_or-drop}
use lib.Seq.{sets}
use Rattle.int64.specs.Little.{bytes_of}
use Rattle.image.specs.Layout.{rows}
use Rattle.image.proofs.Rows.{length-rows, rows_same}
use Rattle.task.specs.declared.Register.{Register}
use Rattle.task.specs.declared.Task.{Task}
use Rattle.task.specs.Frames.{zero_fork, zero_register, no_task}
use Rattle.drive.specs.declared.State.{State}
use Rattle.state.specs.Numbers.{value_numbers, in_bytes}
use Rattle.state.specs.State.{status_number, fault_number, fork_numbers, task_numbers, values_from, slot_numbers, state_numbers, state_length, state_bytes}
use Rattle.state.specs.Places.{registers_at, height_at, stack_at, slot_bytes}
use Rattle.state.proofs.Laying.{length-value, length-in_bytes, in_bytes-rows, numbers-placed, one_number, sets-whole}

-- ---- lengths

pub length-forks : (t : Task) → length (rows (λ i. fork_numbers (get_or t.forks i zero_fork)) 6) ≡ 12
length-forks t = length-rows (λ i. fork_numbers (get_or t.forks i zero_fork)) 2 (λ i. refl) 6

pub length-task : (t : Task) → length (task_numbers t) ≡ 19
length-task t = omega (arith, length-forks t)

pub length-values : (values : List Register) (first n : ℕ) → length (values_from values first n) ≡ 3 * n
length-values values first n =
    length-rows (λ i. value_numbers (get_or values (first + i) zero_register).value) 3 (λ i. length-value (get_or values (first + i) zero_register).value) n

pub length_slot : (m : State) (k : ℕ) → length (slot_numbers m k) ≡ 164
unfolding slot_numbers
length_slot m k =
    let t : Task = get_or m.tasks k no_task in
    let registers : List ℕ = values_from m.bank (16 * k) 16 in
    let stack : List ℕ = values_from m.stacks (32 * k) 32 in
    length-append (task_numbers t) (registers ++ (t.height ∷ stack))
    ∙ omega (arith, length-task t, length-append registers (t.height ∷ stack), length-values m.bank (16 * k) 16, length-values m.stacks (32 * k) 32)

pub slot_width : (m : State) (k : ℕ) → length (in_bytes (slot_numbers m k)) ≡ slot_bytes
slot_width m k = length-in_bytes (slot_numbers m k) ∙ ap (λ (n : ℕ). 8 * n) (length_slot m k)

-- the state has 83,992 bytes
pub state_length_lem : (m : State) → length (state_bytes m) ≡ state_length
unfolding state_numbers
state_length_lem m = length-in_bytes (state_numbers m) ∙ omega (arith, length-rows (slot_numbers m) 164 (length_slot m) 64)

-- ---- the parts put together

pub task-placed : (t : Task) (l l₁ l₂ l₃ l₄ : List ℕ) (at s f : ℕ) → s ≡ status_number t.status → f ≡ fault_number t.status
    → l₁ ≡ sets l at (in_bytes (s ∷ f ∷ t.places ∷ []))
    → l₂ ≡ sets l₁ (at + 24) (in_bytes (t.pc ∷ t.counter ∷ []))
    → l₃ ≡ sets l₂ (at + 40) (in_bytes (t.span ∷ t.depth ∷ []))
    → l₄ ≡ sets l₃ (at + 56) (rows (λ i. in_bytes (fork_numbers (get_or t.forks i zero_fork))) 6)
    → l₄ ≡ sets l at (in_bytes (task_numbers t))
task-placed t l l₁ l₂ l₃ l₄ at s f hs hf p q r u =
    let three : List ℕ = status_number t.status ∷ fault_number t.status ∷ t.places ∷ [] in
    let forks : ℕ → List ℕ = λ i. fork_numbers (get_or t.forks i zero_fork) in
    let p' : l₁ ≡ sets l at (in_bytes three) = p ∙ ap₂ (λ (a b : ℕ). sets l at (in_bytes (a ∷ b ∷ t.places ∷ []))) hs hf in
    let q' = numbers-placed l l₁ l₂ at (at + 24) three (t.pc ∷ t.counter ∷ []) p' q refl in
    let r' = numbers-placed l l₂ l₃ at (at + 40) (three ++ (t.pc ∷ t.counter ∷ [])) (t.span ∷ t.depth ∷ []) q' r refl in
    numbers-placed l l₃ l₄ at (at + 56) (three ++ (t.pc ∷ t.counter ∷ []) ++ (t.span ∷ t.depth ∷ [])) (rows forks 6) r'
    (u ∙ ap (sets l₃ (at + 56)) (sym (in_bytes-rows forks 6)))
    refl

-- the bytes of an array's value i, counted from its element `first` on
abbrev pub value_bytes : List Register → ℕ → ℕ → List ℕ
value_bytes values first i = in_bytes (value_numbers (get_or values (first + i) zero_register).value)

-- those of a part of an array are those of the array
pub part_rows : (values : List Register) (first n e : ℕ) → first + n ≤ length values → e ≡ first + n
    → rows (λ i. in_bytes (value_numbers (get_or (take (e - first) (drop first values)) i zero_register).value)) (length (take (e - first) (drop first values)))
    ≡ rows (value_bytes values first) n
part_rows values first n e h p =
    let size : e - first ≡ n = omega arith in
    let enough : n ≤ length (drop first values) = omega (arith, length-drop first values) in
    rw (size, length-take-le n (drop first values) enough)
    (rows_same _ _ n (λ i q. ap (λ (r : Register). in_bytes (value_numbers r.value)) (get_or-take n (drop first values) i zero_register q ∙ get_or-drop first values i zero_register)))

values-placed : (values : List Register) (first n : ℕ) (l l₁ l₂ : List ℕ) (at b : ℕ) (xs : List ℕ) → l₁ ≡ sets l at (in_bytes xs)
    → l₂ ≡ sets l₁ b (rows (value_bytes values first) n) → b ≡ at + 8 * length xs → l₂ ≡ sets l at (in_bytes (xs ++ values_from values first n))
values-placed values first n l l₁ l₂ at b xs p q e =
    numbers-placed l l₁ l₂ at b xs (values_from values first n) p
    (q ∙ ap (sets l₁ b) (sym (in_bytes-rows (λ i. value_numbers (get_or values (first + i) zero_register).value) n)))
    e

pub slot_placed : (m : State) (k : ℕ) (l l₁ l₂ l₃ l₄ : List ℕ) (at : ℕ)
    → l₁ ≡ sets l at (in_bytes (task_numbers (get_or m.tasks k no_task)))
    → l₂ ≡ sets l₁ (at + registers_at) (rows (value_bytes m.bank (16 * k)) 16)
    → l₃ ≡ sets l₂ (at + height_at) (bytes_of 8 (get_or m.tasks k no_task).height)
    → l₄ ≡ sets l₃ (at + stack_at) (rows (value_bytes m.stacks (32 * k)) 32)
    → l₄ ≡ sets l at (in_bytes (slot_numbers m k))
unfolding slot_numbers
slot_placed m k l l₁ l₂ l₃ l₄ at p q r s =
    let t : Task = get_or m.tasks k no_task in
    let registers : List ℕ = values_from m.bank (16 * k) 16 in
    let front : List ℕ = task_numbers t ++ registers in
    let front_length : length front ≡ 67 = length-append (task_numbers t) registers ∙ omega (arith, length-task t, length-values m.bank (16 * k) 16) in
    let upto : length (front ++ (t.height ∷ [])) ≡ 68 = length-append front (t.height ∷ []) ∙ omega (arith, front_length) in
    let p₂ = values-placed m.bank (16 * k) 16 l l₁ l₂ at (at + registers_at) (task_numbers t) p q (omega (arith, length-task t)) in
    let r' : l₃ ≡ sets l₂ (at + height_at) (in_bytes (t.height ∷ [])) = r ∙ ap (sets l₂ (at + height_at)) (one_number t.height) in
    let p₃ = numbers-placed l l₂ l₃ at (at + height_at) front (t.height ∷ []) p₂ r' (omega (arith, front_length)) in
    values-placed m.stacks (32 * k) 32 l l₃ l₄ at (at + stack_at) (front ++ (t.height ∷ [])) p₃ s (omega (arith, upto))
    ∙ ap (λ (xs : List ℕ). sets l at (in_bytes xs))
    (append_assoc front (t.height ∷ []) (values_from m.stacks (32 * k) 32)
    ∙ append_assoc (task_numbers t) registers (t.height ∷ values_from m.stacks (32 * k) 32))

pub state_placed : (m : State) (l l₁ l₂ : List ℕ) → length l ≡ state_length
    → l₁ ≡ sets l 0 (in_bytes (m.places ∷ m.interval ∷ m.work ∷ []))
    → l₂ ≡ sets l₁ 24 (rows (λ k. in_bytes (slot_numbers m k)) 64)
    → l₂ ≡ state_bytes m
unfolding state_numbers
state_placed m l l₁ l₂ h p q =
    numbers-placed l l₁ l₂ 0 24 (m.places ∷ m.interval ∷ m.work ∷ []) (rows (slot_numbers m) 64) p
    (q ∙ ap (sets l₁ 24) (sym (in_bytes-rows (slot_numbers m) 64)))
    refl
    ∙ sets-whole l (state_bytes m) (state_length_lem m ∙ sym h)
