-- What a plan of moves does to the state, and that a fork, an ended side and a join are a turn's task records with its moves made.
use Prim.Native.Nat.{ℕ, ◌+◌, ◌*◌, ◌≤◌, ◌<◌}
use mathlib.Core.Path.{◌≡◌, refl, sym, ap, ◌∙◌, subst⁻¹}
use mathlib.Core.Logic.{inl, inr, ⊎_elim}
use mathlib.Core.Bool.{Bool, true, false, cond, ◌&&◌}
use mathlib.Core.List.{List}
use native.Mathlib.Omega.{arith}
use lib.Dec.{eqb, ltb}
use lib.ListN.{length}
use lib.Seq.{sets}
use borrow.Author.Tests.{eqb-true, eqb-false}
use Rattle.facts.proofs.Tests.{by-test, clash}
use Rattle.image.specs.Layout.{program_of}
use Rattle.agreement.specs.Slots.{merged}
use Rattle.task.specs.declared.Register.{Register}
use Rattle.task.specs.declared.Joint.{Joint}
use Rattle.task.specs.declared.Frame.{Frame}
use Rattle.task.specs.declared.Kind.{Kind}
use Rattle.task.specs.declared.Kind.TheVariants.{Stores, Goes, Pushes, Pops, Waits, Halts, Faults, Forks}
use Rattle.task.specs.Frames.{zero_register, zeros, stack_length, empty_stack, vacant}
use Rattle.task.specs.Step.{copied, join}
use Rattle.task.specs.Execute.{joint_of, joint_registers, joint_stack}
use Rattle.task.specs.Stretches.{reads}
use Rattle.task.proofs.Copying.{copies_none, faulted-pairs, join-joint}
use Rattle.task.proofs.JoinKeeps.{length-copied}
use Rattle.task.proofs.StretchLaws.{length-reads}
use Rattle.drive.specs.declared.State.{State}
use Rattle.drive.specs.Writes.{tasks_joined}
use Rattle.drive.specs.Moves.{with_arrays, filling, dropping, placed, paired_at, cleared_at, copied_at, moved, PlanFits}
use Rattle.turns.specs.declared.moves.Moves.{Moves}
use Rattle.drive.specs.Slots.{at, put, Sized, slots_of}
use Rattle.turns.specs.Moving.{fork_moves, faults, end_moves, join_moves}
use Rattle.drive.proofs.SlotLaws.{whole, at-full, put_same, put_other}
use Rattle.drive.proofs.InPlace.{kept}
use Rattle.drive.proofs.Copying.{drop-none, drop_all}
use Rattle.drive.proofs.Moving.{sets_apart, placed-none}
use Rattle.drive.proofs.Stacking.{Stacked, one-flat}

unpaired : (p : Moves) (m : State) → p.pairs ≤ 0 → paired_at p m ≡ m
unpaired p m none =
    ap (placed m p.to) (copies_none (at m p.from).registers p.pairs p.packed (at m p.to).registers none) ∙ sym (placed-none m p.to)

-- ---- a fork

pub fork-moved : (m : State) (k c : ℕ) → moved (fork_moves k c) m ≡ filling m c (at m k).registers 16
fork-moved m k c = ap (λ (n : State). copied_at (fork_moves k c) n) (unpaired (fork_moves k c) m (omega arith))

pub fork-fits : (k c : ℕ) → k < c → c < 64 → PlanFits (fork_moves k c)
fork-fits k c above below = record {
  from_below = omega arith;
  to_below = below;
  pairs_apart = λ h. inr above;
  whole_apart = λ h. inr above;
  dropped_below = omega arith;
  drops_few = omega arith;
}

-- ---- an ended side

-- a kind is a fault or not
pub by_fault : (P : ℕ → Type 0) (kind : Kind) → P 0 → P 1 → P (faults kind)
by_fault P Stores x y = x
by_fault P Goes x y = x
by_fault P Pushes x y = x
by_fault P Pops x y = x
by_fault P Waits x y = x
by_fault P Halts x y = x
by_fault P Faults x y = y
by_fault P Forks x y = x

no_whole : {A : Type 0} → false ≡ true → A
no_whole e = clash e refl

pub end_moved : (m : State) (k : ℕ) (kind : Kind) (h : ℕ)
    → moved (end_moves k kind h) m ≡ cond (ltb 0 (faults kind)) (dropping (filling m k zeros 16) k (faults kind * h) 0) m
end_moved m k kind h = ap (λ (n : State). cleared_at (end_moves k kind h) n) (unpaired (end_moves k kind h) m (omega arith))

pub end_fits : (k : ℕ) (kind : Kind) (h : ℕ) → k < 64 → h ≤ stack_length → PlanFits (end_moves k kind h)
end_fits k kind h below most = record {
  from_below = below;
  to_below = omega arith;
  pairs_apart = λ h. absurd (omega arith);
  whole_apart = λ h. no_whole h;
  dropped_below = below;
  drops_few = by_fault (λ n. n * h ≤ stack_length) kind (omega arith) (omega arith);
}

-- ---- a join: slot q has the parent's side, slot c above it the child's

-- a stack that is empty already
flat-kept : (m : State) (k : ℕ) → Stacked (at m k) → (at m k).task.height ≡ 0
    → sets m.stacks (32 * k) (reads zero_register empty_stack 0 stack_length) ≡ m.stacks
flat-kept m k x flat =
    ap (λ (n : State). n.stacks)
    (sym (drop_all m k 0 {left = 0} (omega arith) (omega arith) (λ i p q. x.above_zero i (omega arith) q)) ∙ sym (drop-none m k 0))

module _ (cells : List ℕ) (m : State) (sized : Sized m) (q w : ℕ) (some : 0 < w) (room : q + w < 64) (on-parent : Stacked (at m q))
    (on-child : Stacked (at m (q + w))) {j : Joint} (e : j ≡ joint_of (program_of cells) (at m q).task (at m (q + w)).task) where
  abbrev c : ℕ
  c = q + w

  abbrev ours : ℕ
  ours = (at m q).task.height

  abbrev theirs : ℕ
  theirs = (at m c).task.height

  abbrev written : State
  written = tasks_joined m q c j.task

  -- whether it is faulted is b
  abbrev plan_by : Bool → Moves
  plan_by b = join_moves q c j.pairs j.packed b ours theirs

  -- the registers and the stack of the joined task
  abbrev joint-registers : List Register
  joint-registers = joint_registers j.faulted j.pairs j.packed (at m q).registers (at m c).registers

  -- 16 integers 0, and 32
  abbrev none : List Register
  none = reads zero_register zeros 0 16

  abbrev empty : List Register
  empty = reads zero_register empty_stack 0 stack_length

  -- the stacks with slot c's emptied
  abbrev without : List Register
  without = sets m.stacks (32 * c) empty

  other : at (put m c vacant) q ≡ at m q
  other = put_other m c vacant q (λ z. absurd (omega arith))

  -- the joined task's registers in slot q and 16 integers 0 in slot c; the stacks that are left, with the joined task's in slot q
  merged_is : length joint-registers ≡ 16 → {stacks : List Register}
      → stacks ≡ sets without (32 * q) (reads zero_register (joint_stack j.faulted (at m q).stack) 0 stack_length)
      → with_arrays written (sets (sets m.bank (16 * q) joint-registers) (16 * c) none) stacks written.tasks ≡ merged (slots_of (program_of cells)) m q w
  merged_is full left =
      let apart = sets_apart joint-registers none m.bank (16 * q) (16 * c) (omega arith) in
      let there = apart ∙ ap (sets (sets m.bank (16 * c) none) (16 * q)) (sym (whole 16 joint-registers full)) in
      let joins : join (program_of cells) (at m q) (at m c)
      ≡ record { task = j.task; registers = joint-registers; stack = joint_stack j.faulted (at m q).stack } =
      join-joint (program_of cells) (at m q) (at m c)
      ∙ ap (λ (o : Joint). record {
        task = o.task;
        registers = joint_registers o.faulted o.pairs o.packed (at m q).registers (at m c).registers;
        stack = joint_stack o.faulted (at m q).stack;
      }) (sym e) in
      (λ i. with_arrays m (there i) (left i) written.tasks) ∙ ap (put (put m c vacant) q) (sym joins)

  -- both sides waited: the pairs are copied, the child's registers cleared and its values dropped
  runs_moved : j.faulted ≡ false → moved (plan_by j.faulted) written ≡ merged (slots_of (program_of cells)) m q w
  runs_moved f =
      let is : copied (at m c).registers j.pairs j.packed (at m q).registers ≡ joint-registers =
      sym (ap (λ (b : Bool). joint_registers b j.pairs j.packed (at m q).registers (at m c).registers) f) in
      let n : length joint-registers ≡ 16 =
      ap length (sym is) ∙ length-copied (at m c).registers j.pairs j.packed (at m q).registers ∙ (at-full m q).0 in
      let same : without ≡ sets without (32 * q) (reads zero_register (joint_stack j.faulted (at m q).stack) 0 stack_length) =
      sym (kept without (32 * q) stack_length)
      ∙ ap (λ (l : List Register). sets without (32 * q) (reads zero_register l 0 stack_length))
      (ap (λ (g : Frame). g.stack) other ∙ sym (ap (λ (b : Bool). joint_stack b (at m q).stack) f)) in
      ap (λ (b : Bool). moved (plan_by b) written) f
      ∙ drop_all (filling (paired_at (plan_by false) written) c zeros 16) c theirs (omega arith) on-child.height_most on-child.above_zero
      ∙ ap (λ (l : List Register). with_arrays written (sets (sets m.bank (16 * q) l) (16 * c) none) without written.tasks) is ∙ merged_is n same

  -- one has faulted: no pair is copied, the child's registers are cleared, and copied to the parent's; of the stacks one is emptied, and the
  -- other is empty
  module _ (f : j.faulted ≡ true) where
    -- slot z's first n values are dropped
    abbrev cleared : ℕ → ℕ → State
    cleared z n = dropping (filling written c zeros 16) z n 0

    abbrev Left : ℕ → ℕ → Type 0
    Left z n = (cleared z n).stacks ≡ sets without (32 * q) empty

    dropped_moved : (z n : ℕ) → Left z n → filling (cleared z n) q (at (cleared z n) c).registers 16 ≡ merged (slots_of (program_of cells)) m q w
    dropped_moved z n left =
        let zero-there : (at (cleared z n) c).registers ≡ zeros = ap (λ (g : Frame). g.registers) (put_same m c vacant sized (refl, refl) room) in
        let is : zeros ≡ joint-registers = sym (ap (λ (b : Bool). joint_registers b j.pairs j.packed (at m q).registers (at m c).registers) f) in
        let apart : sets (sets m.bank (16 * q) none) (16 * c) none ≡ sets (sets m.bank (16 * c) none) (16 * q) none =
        sets_apart none none m.bank (16 * q) (16 * c) (omega (arith, length-reads zero_register zeros 0 16)) in
        ap (λ (l : List Register). filling (cleared z n) q l 16) zero-there
        ∙ ap (λ (l : List Register). with_arrays m l (cleared z n).stacks written.tasks)
        (sym apart ∙ ap (λ (l : List Register). sets (sets m.bank (16 * q) l) (16 * c) none) (whole 16 zeros refl ∙ is))
        ∙ merged_is (ap length (sym is))
        (left ∙ sym (ap (λ (b : Bool). sets without (32 * q) (reads zero_register (joint_stack b (at m q).stack) 0 stack_length)) f))

    -- the child has none: the parent's are dropped
    ours-left : theirs ≡ 0 → Left q ours
    ours-left flat =
        ap (λ (n : State). n.stacks)
        (drop_all (filling written c zeros 16) q ours {left = 0} (omega arith) on-parent.height_most on-parent.above_zero)
        ∙ ap (λ (l : List Register). sets l (32 * q) empty) (sym (flat-kept m c on-child flat))

    -- the parent has none
    theirs-left : ours ≡ 0 → Left c theirs
    theirs-left flat =
        ap (λ (n : State). n.stacks)
        (drop_all (filling written c zeros 16) c theirs {left = 0} (omega arith) on-child.height_most on-child.above_zero)
        ∙ sym (flat-kept (put m c vacant) q (subst⁻¹ Stacked other on-parent) (ap (λ (g : Frame). g.task.height) other ∙ flat))

    faults-moved : moved (plan_by j.faulted) written ≡ merged (slots_of (program_of cells)) m q w
    faults-moved =
        let nothing : j.pairs ≤ 0 = omega (arith, faulted-pairs (program_of cells) (at m q).task (at m c).task e f) in
        let one = one-flat (program_of cells) (at m q) (at m c) e f on-parent on-child in
        ap (λ (b : Bool). moved (plan_by b) written) f
        ∙ ap (λ (n : State). copied_at (plan_by true) (cleared_at (plan_by true) n)) (unpaired (plan_by true) written nothing)
        ∙ by-test (eqb theirs 0)
        (λ t. rw t (dropped_moved q ours (ours-left (eqb-true theirs 0 t))))
        (λ t. rw t (dropped_moved c theirs (theirs-left (⊎_elim (λ (z : ours ≡ 0). z) (λ (z : theirs ≡ 0). absurd (eqb-false theirs 0 t z)) one))))

  pub join-moved : moved (plan_by j.faulted) written ≡ merged (slots_of (program_of cells)) m q w
  join-moved = by-test j.faulted (λ f. faults-moved f) (λ f. runs_moved f)

  pub join-fits : PlanFits (plan_by j.faulted)
  join-fits = record {
    from_below = room;
    to_below = omega arith;
    pairs_apart = λ h. inl (omega arith);
    whole_apart = λ h. inl (omega arith);
    dropped_below = by-test (j.faulted && eqb theirs 0) (λ t. rw t (omega arith)) (λ t. rw t room);
    drops_few = by-test (j.faulted && eqb theirs 0) (λ t. rw t on-parent.height_most) (λ t. rw t on-child.height_most);
  }
