-- In an accepted program, the join of two formed sides is a formed task with the places of both.
use mathlib.Core.Path.{◌≡◌, refl, ◌∙◌}
use mathlib.Core.Bool.{true, ◌&&◌}
use mathlib.Core.List.{List}
use mathlib.Core.Option.{Option, none, some}
use Prim.Native.Nat.{ℕ, zero, suc, ◌+◌, ◌-◌, ◌/◌, ◌%◌, ◌<◌, ◌≤◌}
use native.Mathlib.Omega.{arith}
use lib.Dec.{eqb, ltb}
use lib.ListN.{length, get_or, length-set}
use borrow.Author.Tests.{lt-ltb}
use Rattle.facts.proofs.Tests.{both_true, true_both}
use Rattle.image.specs.Layout.{block_count, instruction_count, program_of}
use Rattle.image.proofs.Accepted.{Accepted}
use Rattle.task.specs.declared.Register.{Register}
use Rattle.task.specs.declared.Status.{Status}
use Rattle.task.specs.declared.Status.TheVariants.{Vacant, Running, Waiting, Halted, Faulted}
use Rattle.task.specs.declared.Task.{Task}
use Rattle.task.specs.declared.Frame.{Frame}
use Rattle.task.specs.Frames.{zero_fork, zero_register, zeros, empty_stack, fault_of}
use Rattle.task.specs.Step.{copied, outward_task, first_fault, joined_by, join}
use Rattle.task.specs.Formed.{every, is_target, value_fits, registers_zero, at_rest, fault_listed, status_fits}
use Rattle.task.proofs.Facts.{set_keeps}
use Rattle.task.proofs.Formation.{Formed, Listed, zeros-fit, target_below}
use Rattle.task.proofs.Forks.{closed-fits}
use Rattle.task.proofs.Stacks.{EntriesFit, empty-fits}

-- ---- the registers of a joined task

pub length-copied : (child : List Register) (n packed : ℕ) (l : List Register) → length (copied child n packed l) ≡ length l
unfolding copied
length-copied child zero packed l = refl
length-copied child (suc n) packed l = length-copied child n (packed / 256) _ ∙ length-set l (packed % 16) _

-- what holds of every register of both sides holds of those of the joined task
pub copied-keeps : (P : Register → Type 0) (child : List Register) → ((i : ℕ) → P (get_or child i zero_register))
    → (n packed : ℕ) (l : List Register) → ((i : ℕ) → P (get_or l i zero_register)) → (i : ℕ) → P (get_or (copied child n packed l) i zero_register)
unfolding copied
copied-keeps P child of-child zero packed l before i = before i
copied-keeps P child of-child (suc n) packed l before i =
    copied-keeps P child of-child n (packed / 256) _
    (λ i. set_keeps P l (packed % 16) i (get_or child (packed / 16 % 16) zero_register) zero_register (of-child (packed / 16 % 16)) (before i)) i

-- ---- its status

abbrev Fault : ℕ → Option ℕ → Type 0
Fault version none = Unit {0}
Fault version (some n) = Listed version n

its_fault_listed : (version : ℕ) (f : Frame) (s : Status) → status_fits version f s ≡ true → Fault version (fault_of s)
its_fault_listed version f Vacant e = tt
its_fault_listed version f Running e = tt
its_fault_listed version f Waiting e = tt
its_fault_listed version f Halted e = tt
its_fault_listed version f (Faulted n) e =
    (both_true (fault_listed version n) (at_rest f.task && (eqb f.task.height 0 && registers_zero f)) e).0

first-listed : (version : ℕ) (p c : Option ℕ) → Fault version p → Fault version c → Fault version (first_fault p c)
first-listed version none c x y = y
first-listed version (some n) c x y = x

-- ---- the join

abbrev outward : Status → ℕ → ℕ → List Register → List Register → Task → Task → Frame
outward s pc height registers stack p c = record { task = outward_task s pc height p c; registers = registers; stack = stack }

module _ (cells : List ℕ) (ok : Accepted cells) (D : ℕ) (room : D ≤ 6) (h : ℕ) (p c : Frame) (x : Formed (program_of cells) D h p) (y : Formed (program_of cells) D h c)
    (below : h < D) where
  -- the fork that is closed is the parent's innermost
  innermost : p.task.depth - 1 < 6
  innermost = omega (arith, x.has_depth)

  one_more_lem : p.task.depth - 1 + 1 ≡ p.task.depth
  one_more_lem = omega (arith, x.has_depth)

  -- its registers l, and its stack of height n
  outward-formed : (s : Status) (pc : ℕ) (l : List Register) → length l ≡ 16 → pc < instruction_count cells
      → (n : ℕ) (stack : List Register) → length stack ≡ 32 → n ≤ 32 → EntriesFit (program_of cells) n stack
      → status_fits (program_of cells).version (outward s pc n l stack p.task c.task) s ≡ true
      → ((i : ℕ) → value_fits (program_of cells) (get_or l i zero_register).value ≡ true)
      → Formed (program_of cells) D (suc h) (outward s pc n l stack p.task c.task)
  outward-formed s pc l full at n stack all most entries fit values = record {
    registers_full = full;
    forks_full = simp length-set x.forks_full;
    stack_full = all;
    has_places = omega (arith, x.has_places, y.has_places);
    has_depth = omega (arith, x.has_depth);
    pc_below = at;
    its_status_fits = fit;
    its_forks_fit = closed-fits (program_of cells) p.task.forks (p.task.depth - 1) innermost x.forks_full (rw one_more_lem x.its_forks_fit);
    values_fit = values;
    height_most = most;
    its_entries_fit = entries;
  }

  continues : (b : ℕ) → b < block_count cells → Formed (program_of cells) D (suc h) (joined_by none (program_of cells) b p c)
  continues b q =
      let label = (ok.block b q).label_below in
      outward-formed Running _ _ (length-copied c.registers _ _ p.registers ∙ x.registers_full) (ok.block _ label).first_below
      p.task.height p.stack x.stack_full x.height_most x.its_entries_fit refl
      (copied-keeps (λ r. value_fits (program_of cells) r.value ≡ true) c.registers y.values_fit _ _ p.registers x.values_fit)

  stops : (b n : ℕ) → Listed (program_of cells).version n → Formed (program_of cells) D (suc h) (joined_by (some n) (program_of cells) b p c)
  unfolding every
  stops b n l =
      outward-formed (Faulted n) 0 zeros refl ok.some_instruction 0 empty_stack refl (omega arith) (empty-fits (program_of cells))
      (true_both l refl) (zeros-fit (program_of cells))

  target : is_target (program_of cells) (get_or p.task.forks (p.task.depth - 1) zero_fork).continuation ≡ true
  target =
      let here : ltb (p.task.depth - 1) p.task.depth ≡ true =
      lt-ltb (p.task.depth - 1) p.task.depth (omega (arith, x.has_depth)) in
      rw here at (x.its_forks_fit (p.task.depth - 1) innermost)

  pub join_formed : Formed (program_of cells) D (suc h) (join (program_of cells) p c)
  unfolding join
  join_formed =
      let fp = fault_of p.task.status in
      let fc = fault_of c.task.status in
      let version = (program_of cells).version in
      go (first_fault fp fc)
      (first-listed version fp fc
      (its_fault_listed version p p.task.status x.its_status_fits)
      (its_fault_listed version c c.task.status y.its_status_fits))
    where
      b : ℕ
      b = (get_or p.task.forks (p.task.depth - 1) zero_fork).continuation

      go : (o : Option ℕ) → Fault (program_of cells).version o → Formed (program_of cells) D (suc h) (joined_by o (program_of cells) b p c)
      go none l = continues b (target_below (program_of cells) b target)
      go (some n) l = stops b n l
