-- A task record written in place, with one register or one value of the stack, is a frame put; and what a frame's parts are read from.
use Prim.Native.Nat.{ℕ, zero, suc, ◌+◌, ◌*◌, ◌<◌}
use mathlib.Core.Path.{◌≡◌, refl, ap, ◌∙◌}
use mathlib.Core.List.{List, [], ◌∷◌}
use native.Mathlib.Omega.{arith}
use native.Mathlib.Nat.{add-zero}
use lib.ListN.{get_or, set, length-set}
use lib.Seq.{sets, set_comm, set-get_or}
use Rattle.task.specs.declared.Register.{Register}
use Rattle.task.specs.declared.Task.{Task}
use Rattle.task.specs.declared.Frame.{Frame}
use Rattle.task.specs.Frames.{zero_register, stack_length}
use Rattle.task.specs.Step.{register, with_task}
use Rattle.task.specs.Stretches.{reads}
use Rattle.task.proofs.StretchLaws.{length-reads, get_d_reads}
use Rattle.drive.specs.declared.State.{State}
use Rattle.drive.specs.Writes.{with_task_at}
use Rattle.drive.specs.Moves.{with_arrays}
use Rattle.drive.specs.Slots.{at, put}
use Rattle.drive.proofs.SlotLaws.{whole}

-- ---- a stretch of a list, stored where it stands

module _ {A : Type 0} where
  -- stores further on, after one at j
  pub sets-after : (vs l : List A) (b j : ℕ) (v : A) → j < b → sets (set l j v) b vs ≡ set (sets l b vs) j v
  sets-after [] l b j v h = refl
  sets-after (w ∷ vs) l b j v h =
      ap (λ x. sets x (suc b) vs) (set_comm l j b v w (omega arith)) ∙ sets-after vs (set l b w) (suc b) j v (omega arith)

module _ {A : Type 0} (d : A) where
  pub sets-reads : (l : List A) (b n : ℕ) → sets l b (reads d l b n) ≡ l
  unfolding reads
  sets-reads l b zero = refl
  sets-reads l b (suc n) = ap (λ x. sets x (suc b) (reads d l (suc b) n)) (set-get_or l b d) ∙ sets-reads l (suc b) n

  -- with one element changed
  sets-changed : (l : List A) (b n i : ℕ) (v : A) → i < n → sets l b (set (reads d l b n) i v) ≡ set l (b + i) v
  unfolding reads
  sets-changed l b zero i v h = absurd (omega arith)
  sets-changed l b (suc n) zero v h =
      rw add-zero (sets-after (reads d l (suc b) n) l (suc b) b v (omega arith) ∙ ap (λ x. set x b v) (sets-reads l (suc b) n))
  sets-changed l b (suc n) (suc i) v h =
      let e : b + suc i ≡ suc b + i = omega arith in
      ap (λ x. sets x (suc b) (set (reads d l (suc b) n) i v)) (set-get_or l b d) ∙ rw e (sets-changed l (suc b) n i v (omega arith))

-- a stretch put back as it was
pub kept : (l : List Register) (b n : ℕ) → sets l b (reads zero_register (reads zero_register l b n) 0 n) ≡ l
kept l b n =
    ap (sets l b) (whole n (reads zero_register l b n) (length-reads zero_register l b n)) ∙ sets-reads zero_register l b n

-- and with one element changed
pub changed : (l : List Register) (b n i : ℕ) (v : Register) → i < n
    → sets l b (reads zero_register (set (reads zero_register l b n) i v) 0 n) ≡ set l (b + i) v
changed l b n i v h =
    let r = reads zero_register l b n in
    ap (sets l b) (whole n (set r i v) (length-set r i v ∙ length-reads zero_register l b n)) ∙ sets-changed zero_register l b n i v h

-- ---- the state

-- and with v in slot k's register r
abbrev pub stored_at : State → ℕ → Task → ℕ → Register → State
stored_at m k t r v = with_arrays m (set m.bank (16 * k + r) v) m.stacks (set m.tasks k t)

-- a frame put at slot k is its task record, and the bank and the stacks that its registers and its stack make
put_path : (m : State) (k : ℕ) (f : Frame) (bank stacks : List Register)
    → sets m.bank (16 * k) (reads zero_register f.registers 0 16) ≡ bank
    → sets m.stacks (32 * k) (reads zero_register f.stack 0 stack_length) ≡ stacks
    → put m k f ≡ with_arrays m bank stacks (set m.tasks k f.task)
put_path m k f bank stacks p q = λ i. with_arrays m (p i) (q i) (set m.tasks k f.task)

module _ (m : State) (k : ℕ) where
  -- the registers and the stack as they were
  pub put-task : (t : Task) → put m k (with_task t (at m k)) ≡ with_task_at m k t
  put-task t = put_path m k (with_task t (at m k)) m.bank m.stacks (kept m.bank (16 * k) 16) (kept m.stacks (32 * k) stack_length)

  -- one register changed
  pub put-stored : (t : Task) (r : ℕ) (v : Register) → r < 16
      → put m k (record { task = t; registers = set (at m k).registers r v; stack = (at m k).stack }) ≡ stored_at m k t r v
  put-stored t r v h = put_path m k _ _ m.stacks (changed m.bank (16 * k) 16 r v h) (kept m.stacks (32 * k) stack_length)

  -- one value of the stack changed, with the registers that make this bank
  pub put_stacked : (t : Task) (i : ℕ) (v : Register) (registers bank : List Register) → i < stack_length
      → sets m.bank (16 * k) (reads zero_register registers 0 16) ≡ bank
      → put m k (record { task = t; registers = registers; stack = set (at m k).stack i v })
      ≡ with_arrays m bank (set m.stacks (32 * k + i) v) (set m.tasks k t)
  put_stacked t i v registers bank h p = put_path m k _ bank _ p (changed m.stacks (32 * k) stack_length i v h)

  -- the value that the stack has there
  pub entry_at : (i : ℕ) → i < stack_length → get_or (at m k).stack i zero_register ≡ get_or m.stacks (32 * k + i) zero_register
  entry_at i h = get_d_reads zero_register m.stacks (32 * k) stack_length i h

  pub register-at : (r : ℕ) → r < 16 → get_or (at m k).registers r zero_register ≡ get_or m.bank (16 * k + r) zero_register
  register-at r h = get_d_reads zero_register m.bank (16 * k) 16 r h

  pub value-at : (r : ℕ) → r < 16 → register (at m k) r ≡ (get_or m.bank (16 * k + r) zero_register).value
  value-at r h = ap (λ (x : Register). x.value) (register-at r h)
