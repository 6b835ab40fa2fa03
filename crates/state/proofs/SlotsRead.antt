-- The slots read one by one: so far the first k, and one more.
use mathlib.Core.Path.{◌≡◌, refl, ap, ◌∙◌, subst}
use mathlib.Core.List.{List}
use Prim.Native.Nat.{ℕ, ◌+◌, ◌*◌, ◌-◌, ◌<◌, ◌≤◌}
use native.Mathlib.Omega.{arith}
use lib.ListN.{length, take, drop, set, replicate}
use borrow.Rule.Slice.PartMut.{put_mid}
use Rattle.task.specs.declared.Register.{Register}
use Rattle.task.specs.declared.Task.{Task}
use Rattle.task.specs.Frames.{zero_register}
use Rattle.drive.specs.declared.State.{State}
use Rattle.state.specs.Places.{registers_at, stack_at, slot_place, register_place, entry_place}
use Rattle.state.specs.Reading.{table, number_at, register_in, task_in, state_in}
use Rattle.state.proofs.Tables.{table_same}
use Rattle.state.proofs.Filling.{part_length, Begun, begun-part, begun-run, begun_all, Filled, filled_more, filled_all}

abbrev pub bank_entry : List ℕ → ℕ → Register
bank_entry bytes i = register_in bytes (register_place i)

abbrev pub stacks_entry : List ℕ → ℕ → Register
stacks_entry bytes i = register_in bytes (entry_place i)

abbrev pub task_entry : List ℕ → ℕ → Task
task_entry bytes k = task_in bytes (slot_place k)

-- so far: the three numbers, and the first k slots
pub record SlotsRead (bytes : List ℕ) (k : ℕ) (m : State) : Type 0 where
  pub places : m.places ≡ number_at bytes 0
  pub interval : m.interval ≡ number_at bytes 8
  pub work : m.work ≡ number_at bytes 16
  pub bank : Begun (bank_entry bytes) zero_register 1024 (16 * k) m.bank
  pub stacks : Begun (stacks_entry bytes) zero_register 2048 (32 * k) m.stacks
  pub tasks : Filled (task_entry bytes) 64 k m.tasks

pub all-read : (bytes : List ℕ) (k : ℕ) (m : State) → SlotsRead bytes k m → 64 ≤ k → m ≡ state_in bytes
unfolding state_in
all-read bytes k m x h =
    rw (
      x.places,
      x.interval,
      x.work,
      begun_all _ _ 1024 m.bank (16 * k) x.bank (omega arith),
      begun_all _ _ 2048 m.stacks (32 * k) x.stacks (omega arith),
      filled_all _ 64 m.tasks k x.tasks h,
    )

-- a slot's registers and its stack, as they are read
bank-run : (bytes : List ℕ) (k at n : ℕ) (ys : List Register) → at ≡ slot_place k → n ≡ 16
    → ys ≡ table (λ i. register_in bytes (at + registers_at + 24 * i)) n → ys ≡ table (λ j. bank_entry bytes (16 * k + j)) 16
bank-run bytes k at n ys e f p =
    p
    ∙ ap (table (λ i. register_in bytes (at + registers_at + 24 * i))) f
    ∙ table_same _ _ 16 (λ i q. ap (register_in bytes) {x = at + registers_at + 24 * i} {y = register_place (16 * k + i)} (omega arith))

stacks-run : (bytes : List ℕ) (k at n : ℕ) (ys : List Register) → at ≡ slot_place k → n ≡ 32
    → ys ≡ table (λ i. register_in bytes (at + stack_at + 24 * i)) n → ys ≡ table (λ j. stacks_entry bytes (32 * k + j)) 32
stacks-run bytes k at n ys e f p =
    p
    ∙ ap (table (λ i. register_in bytes (at + stack_at + 24 * i))) f
    ∙ table_same _ _ 32 (λ i q. ap (register_in bytes) {x = at + stack_at + 24 * i} {y = entry_place (32 * k + i)} (omega arith))

module _ (bytes : List ℕ) (k : ℕ) (m : State) (x : SlotsRead bytes k m) (h : k < 64) where
  -- as many registers and entries are lent to be read as a slot has
  abbrev pub bank_part : List Register
  bank_part = take (16 * k + 16 - 16 * k) (drop (16 * k) m.bank)

  abbrev pub stacks_part : List Register
  stacks_part = take (32 * k + 32 - 32 * k) (drop (32 * k) m.stacks)

  pub bank_part_length : length bank_part ≡ 16
  bank_part_length = part_length (16 * k) 16 (16 * k + 16) m.bank (omega (arith, x.bank.in_all)) refl

  pub stacks_part_length : length stacks_part ≡ 32
  stacks_part_length = part_length (32 * k) 32 (32 * k + 32) m.stacks (omega (arith, x.stacks.in_all)) refl

  -- they are 0 until then
  pub bank_part_zero : bank_part ≡ replicate (length bank_part) zero_register
  bank_part_zero = begun-part _ _ 1024 m.bank (16 * k) x.bank 16 (16 * k + 16) (omega arith) refl

  pub stacks_part_zero : stacks_part ≡ replicate (length stacks_part) zero_register
  stacks_part_zero = begun-part _ _ 2048 m.stacks (32 * k) x.stacks 32 (32 * k + 32) (omega arith) refl

  pub slot_more : (at : ℕ) (ys zs : List Register) (t : Task) → at ≡ slot_place k
      → ys ≡ table (λ i. register_in bytes (at + registers_at + 24 * i)) (length bank_part)
      → zs ≡ table (λ i. register_in bytes (at + stack_at + 24 * i)) (length stacks_part)
      → t ≡ task_in bytes at
      → SlotsRead bytes (k + 1) (record { places = m.places; interval = m.interval; work = m.work; bank = put_mid (16 * k) (16 * k + 16 - 16 * k) m.bank ys; stacks = put_mid (32 * k) (32 * k + 32 - 32 * k) m.stacks zs; tasks = set m.tasks k t })
  slot_more at ys zs t e p q r =
      let bank : List Register = put_mid (16 * k) (16 * k + 16 - 16 * k) m.bank ys in
      let stacks : List Register = put_mid (32 * k) (32 * k + 32 - 32 * k) m.stacks zs in
      let b : Begun (bank_entry bytes) zero_register 1024 (16 * k + 16) bank =
      begun-run _ _ 1024 m.bank (16 * k) x.bank 16 (16 * k + 16) ys (omega arith) refl (bank-run bytes k at _ ys e bank_part_length p) in
      let s : Begun (stacks_entry bytes) zero_register 2048 (32 * k + 32) stacks =
      begun-run _ _ 2048 m.stacks (32 * k) x.stacks 32 (32 * k + 32) zs (omega arith) refl (stacks-run bytes k at _ zs e stacks_part_length q) in
      record {
        places = x.places;
        interval = x.interval;
        work = x.work;
        bank = subst (λ (i : ℕ). Begun (bank_entry bytes) zero_register 1024 i bank) (omega arith) b;
        stacks = subst (λ (i : ℕ). Begun (stacks_entry bytes) zero_register 2048 i stacks) (omega arith) s;
        tasks = filled_more _ 64 m.tasks k t x.tasks h (r ∙ ap (task_in bytes) e);
      }
