-- What the shape says of a frame's stack, and that a join keeps it.
use Prim.Native.Nat.{ℕ, ◌-◌, ◌≤◌, ◌<◌}
use mathlib.Core.Path.{◌≡◌, refl, sym, ap, ◌∙◌}
use mathlib.Core.Logic.{◌⊎◌, inl, inr}
use mathlib.Core.Bool.{true, ◌&&◌}
use mathlib.Core.List.{List}
use mathlib.Core.Option.{Option, none, some}
use native.Mathlib.Omega.{arith}
use lib.Dec.{eqb}
use lib.ListN.{get_or, replicate, get_or-replicate}
use borrow.Author.Tests.{eqb-true}
use Rattle.facts.proofs.Tests.{clash, both_true}
use Rattle.image.specs.Program.{Program}
use Rattle.task.specs.declared.Register.{Register}
use Rattle.task.specs.declared.Status.{Status}
use Rattle.task.specs.declared.Status.TheVariants.{Vacant, Running, Waiting, Halted, Faulted}
use Rattle.task.specs.declared.Frame.{Frame}
use Rattle.task.specs.declared.Joint.{Joint}
use Rattle.task.specs.Frames.{zero_register, stack_length, empty_stack, zero_fork, no_task, vacant, fault_of}
use Rattle.task.specs.Step.{first_fault, joined_by, join}
use Rattle.task.specs.Execute.{joint_by, joint_of}
use Rattle.task.specs.Formed.{is_zero, registers_zero, at_rest, fault_listed, status_fits}
use Rattle.task.proofs.Formation.{Formed}
use Rattle.task.proofs.Stacks.{unused_zero}
use Rattle.task.proofs.Vacancy.{zero_stack}

pub record Stacked (f : Frame) : Type 0 where
  pub height_most : f.task.height ≤ stack_length
  -- behind its values there are integers 0
  pub above_zero : (i : ℕ) → f.task.height ≤ i → i < stack_length → get_or f.stack i zero_register ≡ zero_register
  -- a faulted task has none
  pub fault_flat : (n : ℕ) → fault_of f.task.status ≡ some n → f.task.height ≡ 0

emptied_stacked : (f : Frame) → f.task.height ≡ 0 → f.stack ≡ empty_stack → Stacked f
emptied_stacked f flat empty = record {
  height_most = omega arith;
  above_zero = λ i p q. ap (λ (l : List Register). get_or l i zero_register) empty ∙ get_or-replicate stack_length i zero_register zero_register q;
  fault_flat = λ n e. flat;
}

pub vacant_stacked : Stacked vacant
vacant_stacked = emptied_stacked vacant refl refl

zero_entry : (r : Register) → is_zero r.value ≡ true → r ≡ zero_register
zero_entry r e =
    ap (λ (l : List Register). get_or l 0 zero_register)
    (zero_stack (record { task = no_task; registers = empty_stack; stack = replicate stack_length r }) refl
    (λ i h. ap (λ (o : Register). is_zero o.value) (get_or-replicate stack_length i r zero_register h) ∙ e))

pub formed_stacked : (program : Program) (D h : ℕ) (f : Frame) → Formed program D h f → Stacked f
formed_stacked program D h f x = record {
  height_most = x.height_most;
  above_zero = λ i p q. zero_entry (get_or f.stack i zero_register) (unused_zero program f.task.height f.stack x.its_entries_fit i p);
  fault_flat = λ n e. flat n f.task.status x.its_status_fits e;
}
  where
    no_fault : {A : Type 0} {n : ℕ} → none ≡ some n → A
    no_fault e = let z : ◌≡◌ {A = ℕ} 0 1 = cc in absurd (omega arith)

    flat : (n : ℕ) (s : Status) → status_fits program.version f s ≡ true → fault_of s ≡ some n → f.task.height ≡ 0
    flat n Vacant fit e = clash fit refl
    flat n Running fit e = no_fault e
    flat n Waiting fit e = no_fault e
    flat n Halted fit e = no_fault e
    flat n (Faulted k) fit e =
        let p = both_true (fault_listed program.version k) (at_rest f.task && (eqb f.task.height 0 && registers_zero f)) fit in
        let q = both_true (at_rest f.task) (eqb f.task.height 0 && registers_zero f) p.1 in
        eqb-true f.task.height 0 (both_true (eqb f.task.height 0) (registers_zero f) q.1).0

-- ---- a join

pub join_stacked : (program : Program) (a b : Frame) → Stacked a → Stacked (join program a b)
unfolding join
join_stacked program a b x = go (first_fault (fault_of a.task.status) (fault_of b.task.status))
  where
    go : (o : Option ℕ) → Stacked (joined_by o program (get_or a.task.forks (a.task.depth - 1) zero_fork).continuation a b)
    go none = record {
      height_most = x.height_most;
      above_zero = x.above_zero;
      fault_flat = λ n e. let z : ◌≡◌ {A = ℕ} 0 1 = cc in absurd (omega arith);
    }
    go (some n) = emptied_stacked _ refl refl

-- where the joined task is faulted, one of the two has an empty stack
pub one-flat : (program : Program) (a b : Frame) {j : Joint} → j ≡ joint_of program a.task b.task → j.faulted ≡ true → Stacked a → Stacked b
    → (a.task.height ≡ 0) ⊎ (b.task.height ≡ 0)
unfolding joint_of
one-flat program a b e f x y =
    go (fault_of a.task.status) (fault_of b.task.status) refl refl (sym (ap (λ (o : Joint). o.faulted) e) ∙ f)
  where
    go : (o p : Option ℕ) → fault_of a.task.status ≡ o → fault_of b.task.status ≡ p
        → (joint_by (first_fault o p) program (get_or a.task.forks (a.task.depth - 1) zero_fork).continuation a.task b.task).faulted ≡ true
        → (a.task.height ≡ 0) ⊎ (b.task.height ≡ 0)
    go none none r s h = clash h refl
    go none (some n) r s h = inr (y.fault_flat n s)
    go (some n) p r s h = inl (x.fault_flat n r)
