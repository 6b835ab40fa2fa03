-- Every frame of a state in its fields is narrow, and a narrow frame put at a slot leaves every frame so.
use mathlib.Core.Path.{◌≡◌, subst, subst⁻¹}
use mathlib.Core.List.{List, [], ◌∷◌}
use Prim.Native.Nat.{ℕ, zero, suc, ◌+◌, ◌*◌, ◌<◌}
use native.Mathlib.Omega.{arith}
use lib.ListN.{get_or, set, get_or-eq_default}
use lib.Seq.{sets}
use Rattle.facts.proofs.Tests.{by-below}
use Rattle.task.specs.declared.Value.{Value}
use Rattle.task.specs.declared.Value.TheVariants.{Int, Label, Record}
use Rattle.task.specs.declared.Task.{Task}
use Rattle.task.specs.declared.Frame.{Frame}
use Rattle.task.specs.Frames.{stack_length, zero_register, zero_fork, no_task}
use Rattle.task.proofs.Facts.{set_keeps}
use Rattle.task.specs.Stretches.{reads}
use Rattle.task.proofs.StretchLaws.{length-reads, get_d_reads}
use Rattle.drive.specs.declared.State.{State}
use Rattle.drive.specs.Slots.{at, put}
use Rattle.drive.proofs.SlotLaws.{put_tasks}
use Rattle.state.specs.Fields.{ValueInField, InFields}
use Rattle.steps.proofs.StepFields.{NarrowValue, NarrowRegister, NarrowFork, Narrow, zero_narrow}

-- ---- a stretch of a list, of whose elements P is said

module _ {A : Type 0} (P : A → Type 0) (d : A) where
  reads-each : (l : List A) → P d → (b n : ℕ) → ((i : ℕ) → i < n → P (get_or l (b + i) d)) → (i : ℕ) → P (get_or (reads d l b n) i d)
  reads-each l of-d b n each i =
      by-below i n (λ h. subst⁻¹ P (get_d_reads d l b n i h) (each i h))
      (λ h. subst⁻¹ P (get_or-eq_default (reads d l b n) d {n = i} (omega (arith, length-reads d l b n))) of-d)

  sets_keep : (vs l : List A) (b i : ℕ) → ((j : ℕ) → P (get_or vs j d)) → P (get_or l i d) → P (get_or (sets l b vs) i d)
  sets_keep [] l b i each x = x
  sets_keep (v ∷ vs) l b i each x = sets_keep vs (set l b v) (suc b) i (λ j. each (suc j)) (set_keeps P l b i v d (each zero) x)

-- ---- a put

pub put_narrow : (m : State) (k : ℕ) (f : Frame) (i : ℕ) → Narrow f → Narrow (at m i) → Narrow (at (put m k f) i)
put_narrow m k f i x y = record {
  values =
      reads-each NarrowRegister zero_register (put m k f).bank zero_narrow (16 * i) 16
      (λ j h. sets_keep NarrowRegister zero_register (reads zero_register f.registers 0 16) m.bank (16 * k) (16 * i + j)
      (reads-each NarrowRegister zero_register f.registers zero_narrow 0 16 (λ j h. x.values (0 + j)))
      (subst NarrowRegister (get_d_reads zero_register m.bank (16 * i) 16 j h) (y.values j)));
  entries =
      reads-each NarrowRegister zero_register (put m k f).stacks zero_narrow (32 * i) stack_length
      (λ j h. sets_keep NarrowRegister zero_register (reads zero_register f.stack 0 stack_length) m.stacks (32 * k) (32 * i + j)
      (reads-each NarrowRegister zero_register f.stack zero_narrow 0 stack_length (λ j h. x.entries (0 + j)))
      (subst NarrowRegister (get_d_reads zero_register m.stacks (32 * i) stack_length j h) (y.entries j)));
  forks = λ j. put_tasks (λ (t : Task). NarrowFork (get_or t.forks j zero_fork)) m k f i (x.forks j) (y.forks j);
}

-- ---- a state in its fields

value_narrow : (v : Value) → ValueInField v → NarrowValue v
value_narrow (Int z) x = x
value_narrow (Label b) x = tt
value_narrow (Record c d) x = x.1

pub fields_narrow : (m : State) → InFields m → (i : ℕ) → Narrow (at m i)
fields_narrow m x i = record {
  values =
      reads-each NarrowRegister zero_register m.bank zero_narrow (16 * i) 16
      (λ j h. value_narrow (get_or m.bank (16 * i + j) zero_register).value (x.registers (16 * i + j)));
  entries =
      reads-each NarrowRegister zero_register m.stacks zero_narrow (32 * i) stack_length
      (λ j h. value_narrow (get_or m.stacks (32 * i + j) zero_register).value (x.entries (32 * i + j)));
  forks = λ j.
      by-below i 64
      (λ h. ((x.tasks i h).forks j).1)
      (λ h. let e : (at m i).task ≡ no_task = get_or-eq_default m.tasks no_task {n = i} (omega (arith, x.sized.of_tasks)) in rw e (omega arith));
}
