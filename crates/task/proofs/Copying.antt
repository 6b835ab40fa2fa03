-- Each way through a function of a join, with plain variables for what the code has there.
use mathlib.Core.Path.{◌≡◌, refl, sym, ap, ◌∙◌}
use mathlib.Core.Bool.{true, false}
use mathlib.Core.List.{List}
use mathlib.Core.Option.{Option, none, some}
use Prim.Native.Nat.{ℕ, zero, suc, ◌-◌, ◌/◌, ◌%◌, ◌<◌, ◌≤◌}
use native.Mathlib.Omega.{arith}
use lib.ListN.{get_or, set}
use Rattle.facts.proofs.Tests.{clash}
use Rattle.image.specs.declared.Block.{Block}
use Rattle.image.specs.Program.{Program}
use Rattle.task.specs.declared.Register.{Register}
use Rattle.task.specs.declared.Status.{Status}
use Rattle.task.specs.declared.Status.TheVariants.{Vacant, Running, Waiting, Halted, Faulted}
use Rattle.task.specs.declared.Task.{Task}
use Rattle.task.specs.declared.Frame.{Frame}
use Rattle.task.specs.declared.Joint.{Joint}
use Rattle.task.specs.Frames.{zero_register, zero_fork, fault_of}
use Rattle.task.specs.Step.{copied, outward_task, first_fault, joined_by, join}
use Rattle.task.specs.Execute.{status_by, joint_by, joint_of, joint_registers, joint_stack}

-- a status other than `Faulted` has no fault
pub no_fault : (s : Status) → ((n : ℕ) → s ≡ Faulted n → ⊥) → fault_of s ≡ none
no_fault Vacant k = refl
no_fault Running k = refl
no_fault Waiting k = refl
no_fault Halted k = refl
no_fault (Faulted n) k = absurd (k n refl)

module _ (child : List Register) where
  pub copies_first : (n packed : ℕ) (l : List Register) → 0 < n
      → copied child n packed l ≡ copied child (n - 1) (packed / 256) (set l (packed % 16) (get_or child (packed / 16 % 16) zero_register))
  unfolding copied
  copies_first zero packed l h = absurd (omega arith)
  copies_first (suc n) packed l h = let e : suc n - 1 ≡ n = omega arith in rw e

  pub copies_none : (n packed : ℕ) (l : List Register) → n ≤ 0 → copied child n packed l ≡ l
  unfolding copied
  copies_none zero packed l h = refl
  copies_none (suc n) packed l h = absurd (omega arith)

-- ---- the joined task, by its status

module _ (program : Program) (p c : Task) {s : Status} (h : s ≡ status_by (first_fault (fault_of p.status) (fault_of c.status))) where
  -- the continuation of the parent's innermost fork
  abbrev continuation : ℕ
  continuation = (get_or p.forks (p.depth - 1) zero_fork).continuation

  pub joins-faulted : {n : ℕ} {t : Task} → s ≡ Faulted n → t ≡ outward_task (Faulted n) 0 0 p c
      → record { task = t; faulted = true; pairs = 0; packed = 0 } ≡ joint_of program p c
  unfolding joint_of
  joins-faulted {n} k e = rw e (go (first_fault (fault_of p.status) (fault_of c.status)) (sym h ∙ k))
    where
      go : (o : Option ℕ) → status_by o ≡ Faulted n
          → record { task = outward_task (Faulted n) 0 0 p c; faulted = true; pairs = 0; packed = 0 } ≡ joint_by o program continuation p c
      go none e = let z : ◌≡◌ {A = ℕ} 0 1 = cc in absurd (omega arith)
      go (some m) e = ap (λ (f : Status). record { task = outward_task f 0 0 p c; faulted = true; pairs = 0; packed = 0 }) (sym e)

  pub joins-running : ((n : ℕ) → s ≡ Faulted n → ⊥) → {b : Block} {pc : ℕ} {t : Task} → b ≡ program.block continuation
      → pc ≡ (program.block b.label).first → t ≡ outward_task Running pc p.height p c
      → record { task = t; faulted = false; pairs = b.pairs; packed = b.packed } ≡ joint_of program p c
  unfolding joint_of
  joins-running k {b} {pc} {t} x y z = go (first_fault (fault_of p.status) (fault_of c.status)) (ap fault_of (sym h) ∙ no_fault s k)
    where
      go : (o : Option ℕ) → fault_of (status_by o) ≡ none → record { task = t; faulted = false; pairs = b.pairs; packed = b.packed } ≡ joint_by o program continuation p c
      go none e = rw (z, y, x)
      go (some m) e = let z : ◌≡◌ {A = ℕ} 0 1 = cc in absurd (omega arith)

-- a join is that task with those registers and that stack
pub join-joint : (program : Program) (p c : Frame) → let j = joint_of program p.task c.task in
    join program p c
    ≡ record {
      task = j.task;
      registers = joint_registers j.faulted j.pairs j.packed p.registers c.registers;
      stack = joint_stack j.faulted p.stack;
    }
unfolding join joint_of
join-joint program p c = go (first_fault (fault_of p.task.status) (fault_of c.task.status))
  where
    b : ℕ
    b = (get_or p.task.forks (p.task.depth - 1) zero_fork).continuation

    framed : Joint → Frame
    framed j = record {
      task = j.task;
      registers = joint_registers j.faulted j.pairs j.packed p.registers c.registers;
      stack = joint_stack j.faulted p.stack;
    }

    go : (o : Option ℕ) → joined_by o program b p c ≡ framed (joint_by o program b p.task c.task)
    go none = refl
    go (some n) = refl

-- of a faulted one no pair is copied
pub faulted-pairs : (program : Program) (p c : Task) {j : Joint} → j ≡ joint_of program p c → j.faulted ≡ true → j.pairs ≡ 0
unfolding joint_of
faulted-pairs program p c {j} e f =
    ap (λ (o : Joint). o.pairs) e ∙ go (first_fault (fault_of p.status) (fault_of c.status)) (sym (ap (λ (o : Joint). o.faulted) e) ∙ f)
  where
    b : ℕ
    b = (get_or p.forks (p.depth - 1) zero_fork).continuation

    go : (o : Option ℕ) → (joint_by o program b p c).faulted ≡ true → (joint_by o program b p c).pairs ≡ 0
    go none h = clash h refl
    go (some n) h = refl
