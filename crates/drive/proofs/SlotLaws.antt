-- A frame taken where it was put is that frame, taken elsewhere it is unchanged, sizes stay; and the frames of a state are all of it.
use Prim.Native.Nat.{ℕ, ◌+◌, ◌*◌, ◌/◌, ◌%◌, ◌≤◌, ◌<◌}
use mathlib.Core.Path.{◌≡◌, sym, ap, ◌∙◌, subst, subst⁻¹}
use mathlib.Core.Logic.{◌⊎◌, inl, inr, ◌≢◌}
use mathlib.Core.Bool.{Bool, true}
use mathlib.Core.List.{List}
use native.Mathlib.Omega.{arith}
use lib.ListN.{length, get_or, set, length-set}
use lib.Seq.{sets, length-sets, get_or-set_same, get_or-set_other, ext_get_or}
use Rattle.facts.proofs.Tests.{by_order}
use Rattle.task.specs.declared.Register.{Register}
use Rattle.task.specs.declared.Task.{Task}
use Rattle.task.specs.declared.Frame.{Frame}
use Rattle.task.specs.Frames.{zero_register, stack_length, no_task, is_running, running}
use Rattle.task.proofs.Facts.{set_keeps}
use Rattle.task.specs.Stretches.{reads}
use Rattle.task.proofs.StretchLaws.{length-reads, get_d_reads, reads-sets, reads_same, reads_all}
use Rattle.drive.specs.declared.State.{State}
use Rattle.drive.specs.Slots.{at, put, Sized, ticked}

-- a frame has its 16 registers and the 32 values of its stack
abbrev pub Full : Frame → Type 0
Full f = (length f.registers ≡ 16) × (length f.stack ≡ stack_length)

-- ---- a stretch of a list: n registers, or values of a stack, from b on

pub whole : (n : ℕ) (l : List Register) → length l ≡ n → reads zero_register l 0 n ≡ l
whole n l e = rw e at (reads_all zero_register l)

stretch_same : (l vs : List Register) (b n : ℕ) → length vs ≡ n → b + n ≤ length l
    → reads zero_register (sets l b (reads zero_register vs 0 n)) b n ≡ vs
stretch_same l vs b n e h =
    let r = reads zero_register vs 0 n in
    let size : length r ≡ n = length-reads zero_register vs 0 n in
    (rw size at (reads_same zero_register r l b (omega arith))) ∙ whole n vs e

stretch_other : (l vs : List Register) (a b n : ℕ) → (b + n ≤ a) ⊎ (a + n ≤ b)
    → reads zero_register (sets l b (reads zero_register vs 0 n)) a n ≡ reads zero_register l a n
stretch_other l vs a b n apart =
    let r = reads zero_register vs 0 n in
    reads-sets zero_register r l a n b (subst⁻¹ (λ x. (b + x ≤ a) ⊎ (a + n ≤ b)) (length-reads zero_register vs 0 n) apart)

-- two lists whose stretches are the same have the same elements there
element_same : (l l' : List Register) (b n i : ℕ) → i < n → reads zero_register l b n ≡ reads zero_register l' b n
    → get_or l (b + i) zero_register ≡ get_or l' (b + i) zero_register
element_same l l' b n i h e =
    sym (get_d_reads zero_register l b n i h) ∙ ap (λ (r : List Register). get_or r i zero_register) e ∙ get_d_reads zero_register l' b n i h

-- ---- a frame at a slot

frame_path : {f g : Frame} → f.task ≡ g.task → f.registers ≡ g.registers → f.stack ≡ g.stack → f ≡ g
frame_path p q r = λ i. record { task = p i; registers = q i; stack = r i }

pub at-full : (m : State) (k : ℕ) → Full (at m k)
at-full m k = (length-reads zero_register m.bank (16 * k) 16, length-reads zero_register m.stacks (32 * k) stack_length)

pub put_sized : (m : State) (k : ℕ) (f : Frame) → Sized m → Sized (put m k f)
put_sized m k f s = record {
  of_bank = length-sets m.bank (16 * k) (reads zero_register f.registers 0 16) ∙ s.of_bank;
  of_stacks = length-sets m.stacks (32 * k) (reads zero_register f.stack 0 stack_length) ∙ s.of_stacks;
  of_tasks = length-set m.tasks k f.task ∙ s.of_tasks;
}

pub put_same : (m : State) (k : ℕ) (f : Frame) → Sized m → Full f → k < 64 → at (put m k f) k ≡ f
put_same m k f s full h =
    frame_path (get_or-set_same m.tasks k f.task no_task (omega (arith, s.of_tasks)))
    (stretch_same m.bank f.registers (16 * k) 16 full.0 (omega (arith, s.of_bank)))
    (stretch_same m.stacks f.stack (32 * k) stack_length full.1 (omega (arith, s.of_stacks)))

pub put_other : (m : State) (k : ℕ) (f : Frame) (i : ℕ) → i ≢ k → at (put m k f) i ≡ at m i
put_other m k f i h =
    frame_path (get_or-set_other m.tasks k i f.task no_task h)
    (stretch_other m.bank f.registers (16 * i) (16 * k) 16
    (by_order i k (λ x. inr (omega arith)) (λ x. absurd (h x)) (λ x. inl (omega arith))))
    (stretch_other m.stacks f.stack (32 * i) (32 * k) stack_length
    (by_order i k (λ x. inr (omega arith)) (λ x. absurd (h x)) (λ x. inl (omega arith))))

-- what is said of frames: after a put each slot's is the one put or the one before
pub put_frames : (P : Frame → Type 0) (m : State) (k : ℕ) (f : Frame) (i : ℕ) → Sized m → Full f → k < 64 → P f → P (at m i) → P (at (put m k f) i)
put_frames P m k f i s full h x y =
    let other : (i ≡ k → ⊥) → P (at (put m k f) i) = λ apart. subst⁻¹ P (put_other m k f i apart) y in
    by_order i k (λ z. other (λ e. absurd (omega arith))) (λ e. rw e (subst⁻¹ P (put_same m k f s full h) x)) (λ z. other (λ e. absurd (omega arith)))

-- what is said of task records alone: after a put each slot's is the one put or the one before
pub put_tasks : (P : Task → Type 0) (m : State) (k : ℕ) (f : Frame) (i : ℕ) → P f.task → P (at m i).task → P (at (put m k f) i).task
put_tasks P m k f i x y = set_keeps P m.tasks k i f.task no_task x y

pub ticked_sized : (m : State) → Sized m → Sized (ticked m)
ticked_sized m s = record { of_bank = s.of_bank; of_stacks = s.of_stacks; of_tasks = s.of_tasks }

-- ---- the frames of a state, and its three numbers, are all of it

module _ (m m' : State) (s : Sized m) (s' : Sized m') (same : (i : ℕ) → i < 64 → at m i ≡ at m' i) where
  same_bank : m.bank ≡ m'.bank
  same_bank =
      ext_get_or zero_register m.bank m'.bank (s.of_bank ∙ sym s'.of_bank)
      (λ j h. let e : 16 * (j / 16) + j % 16 ≡ j = omega arith in
      subst (λ x. get_or m.bank x zero_register ≡ get_or m'.bank x zero_register) e
      (element_same m.bank m'.bank (16 * (j / 16)) 16 (j % 16) (omega arith)
      (ap (λ (f : Frame). f.registers) (same (j / 16) (omega (arith, s.of_bank))))))

  same-stacks : m.stacks ≡ m'.stacks
  same-stacks =
      ext_get_or zero_register m.stacks m'.stacks (s.of_stacks ∙ sym s'.of_stacks)
      (λ j h. let e : 32 * (j / 32) + j % 32 ≡ j = omega arith in
      subst (λ x. get_or m.stacks x zero_register ≡ get_or m'.stacks x zero_register) e
      (element_same m.stacks m'.stacks (32 * (j / 32)) stack_length (j % 32) (omega arith)
      (ap (λ (f : Frame). f.stack) (same (j / 32) (omega (arith, s.of_stacks))))))

  same_tasks : m.tasks ≡ m'.tasks
  same_tasks =
      ext_get_or no_task m.tasks m'.tasks (s.of_tasks ∙ sym s'.of_tasks)
      (λ j h. ap (λ f. f.task) (same j (omega (arith, s.of_tasks))))

  pub same_state : m.places ≡ m'.places → m.interval ≡ m'.interval → m.work ≡ m'.work → m ≡ m'
  same_state p q r =
      λ i. record { places = p i; interval = q i; work = r i; bank = same_bank i; stacks = same-stacks i; tasks = same_tasks i }

-- a slot below 64 is itself modulo 64
pub task-there : (m : State) (t : Task) (k : ℕ) → t ≡ get_or m.tasks (k % 64) no_task → k < 64 → running (at m k) ≡ is_running t.status
task-there m t k e h =
    let q : k ≡ k % 64 = omega arith in
    ap (λ (i : ℕ). is_running (get_or m.tasks i no_task).status) q ∙ ap (λ (s : Task). is_running s.status) (sym e)

-- slot k has another record, of a task that runs: the other slots are as they were
pub task-runs : (m m' : State) (k : ℕ) (t : Task) → length m.tasks ≡ 64 → k < 64 → m'.tasks ≡ set m.tasks k t → is_running t.status ≡ true
    → (running (at m' k) ≡ true) × ((i : ℕ) → (i ≡ k → ⊥) → running (at m' i) ≡ running (at m i))
task-runs m m' k t n h e runs =
    let on : Task → Bool = λ o. is_running o.status in (
      ap (λ (l : List Task). on (get_or l k no_task)) e ∙ ap on (get_or-set_same m.tasks k t no_task (omega arith)) ∙ runs,
      λ i other. ap (λ (l : List Task). on (get_or l i no_task)) e ∙ ap on (get_or-set_other m.tasks k i t no_task other),
    )
