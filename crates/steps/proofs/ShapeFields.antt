-- The shape test bounds every other number of a state: one whose frames are narrow, with the work at most its limit, is in its fields.
use mathlib.Core.Path.{◌≡◌, refl, subst, subst⁻¹}
use mathlib.Core.Logic.{⊎_elim}
use mathlib.Core.Bool.{Bool, true, false}
use mathlib.Core.List.{List}
use Prim.Native.Nat.{ℕ, ◌+◌, ◌*◌, ◌/◌, ◌%◌, ◌^◌, ◌≤◌, ◌<◌}
use native.Mathlib.Omega.{arith}
use native.Mathlib.Nat.{pow-le-pow_right}
use lib.Dec.{eqb, ltb}
use lib.ListN.{length, get_or, get_or-eq_default}
use borrow.Author.Tests.{eqb-true, ltb-true}
use Rattle.facts.proofs.Tests.{by-below, both_true, clash}
use Rattle.image.specs.Layout.{block_count, program_of}
use Rattle.image.proofs.Accepted.{Accepted, accepted}
use Rattle.task.specs.declared.Value.{Value}
use Rattle.task.specs.declared.Value.TheVariants.{Int, Label, Record}
use Rattle.task.specs.declared.Register.{Register}
use Rattle.task.specs.declared.Status.{Status}
use Rattle.task.specs.declared.Status.TheVariants.{Vacant, Running, Waiting, Halted, Faulted}
use Rattle.task.specs.declared.Fork.{Fork}
use Rattle.task.specs.declared.Frame.{Frame}
use Rattle.task.specs.Frames.{stack_length, zero_register, zero_fork, vacant, work_limit}
use Rattle.task.specs.Step.{register, entry}
use Rattle.task.specs.Formed.{value_fits, entry_fits, fork_fits, fault_listed, status_fits}
use Rattle.task.proofs.Facts.{constant_at}
use Rattle.task.proofs.Formation.{Formed, target_below, listed-within}
use Rattle.task.proofs.Counts.{Within}
use Rattle.task.proofs.StretchLaws.{get_d_reads}
use Rattle.drive.specs.declared.State.{State}
use Rattle.drive.specs.Slots.{at}
use Rattle.drive.specs.Settings.{rank}
use Rattle.drive.proofs.RankLaws.{rank-small}
use Rattle.drive.proofs.Intervals.{interval_fits}
use Rattle.drive.proofs.Owning.{places_most}
use Rattle.drive.proofs.Models.{Allowed}
use Rattle.drive.proofs.ShapeLaws.{Fits}
use Rattle.drive.proofs.ShapeSlots.{fits-framed}
use Rattle.state.specs.State.{fault_number}
use Rattle.state.specs.Fields.{ValueInField, ForkInField, TaskInFields, InFields}
use Rattle.steps.proofs.StepFields.{NarrowValue, NarrowFork, Narrow, zero_narrow}

-- ---- the parts of a live frame

fault_small : (version : ℕ) (f : Frame) (s : Status) → status_fits version f s ≡ true → fault_number s < 256
fault_small version f Vacant e = omega arith
fault_small version f Running e = omega arith
fault_small version f Waiting e = omega arith
fault_small version f Halted e = omega arith
fault_small version f (Faulted n) e =
    omega (arith, (listed-within version n (both_true (fault_listed version n) _ e).0).1)

-- past the sixth there is no fork
all_forks : (l : List Fork) → length l ≡ 6 → ((i : ℕ) → i < 6 → ForkInField (get_or l i zero_fork)) → (i : ℕ) → ForkInField (get_or l i zero_fork)
all_forks l full each i =
    by-below i 6 (each i) (λ b. subst⁻¹ ForkInField (get_or-eq_default l zero_fork {n = i} (omega arith)) (omega arith, omega arith))

abbrev RegisterInField : Register → Type 0
RegisterInField r = ValueInField r.value

record FrameInFields (f : Frame) : Type 0 where
  registers : (i : ℕ) → RegisterInField (get_or f.registers i zero_register)
  entries : (i : ℕ) → RegisterInField (get_or f.stack i zero_register)
  task : TaskInFields f.task

vacant_in_fields : FrameInFields vacant
vacant_in_fields = record {
  registers = λ i. subst⁻¹ RegisterInField (constant_at 16 i zero_register) zero_narrow;
  entries = λ i. subst⁻¹ RegisterInField (constant_at stack_length i zero_register) zero_narrow;
  task = record {
    fault = omega arith;
    places = omega arith;
    pc = omega arith;
    counter = omega arith;
    span = omega arith;
    depth = omega arith;
    height = omega arith;
    six_forks = refl;
    forks = λ i. subst⁻¹ ForkInField (constant_at 6 i zero_fork) (omega arith, omega arith);
  };
}

module _ (cells : List ℕ) (ok : Accepted cells) where
  value_in_field : (v : Value) → value_fits (program_of cells) v ≡ true → NarrowValue v → ValueInField v
  value_in_field (Int z) e x = x
  value_in_field (Label b) e x = omega (arith, ltb-true b (block_count cells) e, ok.few_blocks)
  value_in_field (Record c d) e x = (omega (arith, target_below (program_of cells) c e, ok.few_blocks), x)

  -- above the height there is integer 0
  entry_in_field : (t : Bool) (v : Value) → entry_fits (program_of cells) t v ≡ true → NarrowValue v → ValueInField v
  entry_in_field true v e x = value_in_field v e x
  entry_in_field false (Int z) e x = x
  entry_in_field false (Label b) e x = clash e refl
  entry_in_field false (Record c d) e x = clash e refl

  fork_in_field : (t : Bool) (k : Fork) → fork_fits (program_of cells) t k ≡ true → NarrowFork k → ForkInField k
  fork_in_field true k e x = (omega (arith, target_below (program_of cells) k.continuation e, ok.few_blocks), x)
  fork_in_field false k e x =
      (omega (arith, eqb-true k.continuation 0 (both_true (eqb k.continuation 0) (eqb k.depth 0) e).0), x)

  module _ (D W : ℕ) (small : D ≤ 6) (limited : W ≤ work_limit) where
    formed_in_fields : (h : ℕ) (f : Frame) → Formed (program_of cells) D h f → Within W f.task → Narrow f → FrameInFields f
    formed_in_fields h f x w n =
        let low : h ≤ 6 = omega (arith, x.has_depth) in
        let most : 2 ^ h ≤ 2 ^ 6 = pow-le-pow_right {n = 2} (omega arith) low in
        record {
          registers = λ i. value_in_field (register f i) (x.values_fit i) (n.values i);
          entries = λ i. entry_in_field (ltb i f.task.height) (entry f i) (x.its_entries_fit i) (n.entries i);
          task = record {
            fault = fault_small (program_of cells).version f f.task.status x.its_status_fits;
            places = omega (arith, x.has_places);
            pc = omega (arith, x.pc_below, ok.few_instructions);
            counter = omega (arith, w.counter_most);
            span = omega (arith, w.span_most);
            depth = omega (arith, x.has_depth);
            height = omega (arith, x.height_most);
            six_forks = x.forks_full;
            forks = all_forks f.task.forks x.forks_full
                (λ i b. fork_in_field (ltb i f.task.depth) (get_or f.task.forks i zero_fork) (x.its_forks_fit i b) (n.forks i));
          };
        }

-- ---- the whole state

pub fits_in_fields : {cells : List ℕ} {interval places : ℕ} → Allowed cells interval places → (m : State) → Fits cells interval places m
    → m.work ≤ work_limit → ((i : ℕ) → i < 64 → Narrow (at m i)) → InFields m
fits_in_fields {cells} {interval} {places} allowed m x limited n = record {
  places = omega (arith, x.its_places, places_most places allowed.its_places_allowed);
  interval = omega (arith, x.its_interval, interval_fits interval allowed.its_interval_allowed);
  work = omega arith;
  sized = x.sized;
  registers = λ j.
      by-below j 1024
      (λ b. let e : 16 * (j / 16) + j % 16 ≡ j = omega arith in
      subst (λ (i : ℕ). RegisterInField (get_or m.bank i zero_register)) e
      (subst RegisterInField (get_d_reads zero_register m.bank (16 * (j / 16)) 16 (j % 16) (omega arith))
      ((framed (j / 16) (omega arith)).registers (j % 16))))
      (λ b. subst⁻¹ RegisterInField (get_or-eq_default m.bank zero_register {n = j} (omega (arith, x.sized.of_bank))) zero_narrow);
  entries = λ j.
      by-below j 2048
      (λ b. let e : 32 * (j / 32) + j % 32 ≡ j = omega arith in
      subst (λ (i : ℕ). RegisterInField (get_or m.stacks i zero_register)) e
      (subst RegisterInField (get_d_reads zero_register m.stacks (32 * (j / 32)) 32 (j % 32) (omega arith))
      ((framed (j / 32) (omega arith)).entries (j % 32))))
      (λ b. subst⁻¹ RegisterInField (get_or-eq_default m.stacks zero_register {n = j} (omega (arith, x.sized.of_stacks))) zero_narrow);
  tasks = λ k b. (framed k b).task;
}
  where
    framed : (i : ℕ) → i < 64 → FrameInFields (at m i)
    framed i b = ⊎_elim
        (λ (e : at m i ≡ vacant). subst⁻¹ FrameInFields e vacant_in_fields)
        (λ (f : (h : ℕ) × Formed (program_of cells) (rank places) h (at m i)). formed_in_fields cells (accepted cells allowed.program) (rank places) m.work
        (rank-small places allowed.its_places_allowed) limited f.0 (at m i) f.1 (x.counts i) (n i b))
        (fits-framed allowed m x i b)
