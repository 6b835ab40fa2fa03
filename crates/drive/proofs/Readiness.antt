-- A running task of a state of the shape is ready for its instruction, and its operands' registers are in the bank.
use mathlib.Core.Path.{◌≡◌, sym, ap, ◌∙◌}
use mathlib.Core.Bool.{true}
use mathlib.Core.List.{List}
use Prim.Native.Nat.{ℕ, zero, suc, ◌+◌, ◌*◌, ◌%◌, ◌^◌, ◌<◌, ◌≤◌}
use native.Mathlib.Omega.{arith}
use lib.IntN.{ℤ}
use lib.ListN.{get_or}
use Rattle.image.specs.declared.Instruction.{Instruction}
use Rattle.image.specs.Layout.{block_count, instruction_count, instruction_of, program_of}
use Rattle.image.proofs.Accepted.{accepted, InstructionAccepted}
use Rattle.task.specs.declared.Value.{Value}
use Rattle.task.specs.Frames.{running, zero_register, work_limit}
use Rattle.task.specs.Step.{register, operand, active_of}
use Rattle.task.specs.Execute.{Ready, selected}
use Rattle.task.proofs.Executing.{selected_is}
use Rattle.task.proofs.Formation.{Formed}
use Rattle.task.proofs.StepKeeps.{operand-fits}
use Rattle.drive.specs.declared.State.{State}
use Rattle.drive.specs.Slots.{at}
use Rattle.drive.specs.Settings.{rank}
use Rattle.drive.proofs.RankLaws.{rank-small}
use Rattle.drive.proofs.InPlace.{value-at}
use Rattle.drive.proofs.Models.{Allowed}
use Rattle.drive.proofs.ShapeLaws.{Fits}
use Rattle.drive.proofs.Carrying.{stand}

two_or_more : (h : ℕ) → 2 ≤ 2 ^ h → 0 < h
two_or_more zero p = absurd (omega arith)
two_or_more (suc h) p = omega arith

module _ {cells : List ℕ} {interval places : ℕ} (allowed : Allowed cells interval places) (words : List ℤ) {m : State} {k : ℕ} (fits : Fits cells interval places m)
    (below : k < places) (runs : running (at m k) ≡ true) where
  abbrev its : Formed (program_of cells) (rank places) (stand allowed words m k fits below runs).height (at m k)
  its = (stand allowed words m k fits below runs).formed

  pub pc_inside : (at m k).task.pc < instruction_count cells
  pc_inside = its.pc_below

  pub its-instruction : InstructionAccepted cells (at m k).task.pc
  its-instruction = (accepted cells allowed.program).instruction (at m k).task.pc pc_inside

  module _ (x : Instruction) (e : x ≡ instruction_of cells (at m k).task.pc) where
    pub s_small : x.s ≤ 15
    s_small = omega (arith, ap (λ (y : Instruction). y.s) e, its-instruction.s_small)

    pub r_small : x.r ≤ 15
    r_small = omega (arith, ap (λ (y : Instruction). y.r) e, its-instruction.r_small)

    pub label_small : x.kind ≡ 2 → x.operand < 128
    label_small h =
        let b = its-instruction.label_below (rw e at h) in
        omega (arith, ap (λ (y : Instruction). y.operand) e, (accepted cells allowed.program).few_blocks)

    pub left_read : (get_or m.bank (16 * k + x.s) zero_register).value ≡ register (at m k) x.s
    left_read = sym (value-at m k x.s (omega (arith, s_small)))

    pub right_read : (v : Value) → v ≡ selected x (get_or m.bank (16 * k + x.operand % 16) zero_register).value → v ≡ operand (at m k) x
    right_read v p = p ∙ selected_is (at m k) x _ go
      where
        go : x.kind ≡ 1 → (get_or m.bank (16 * k + x.operand % 16) zero_register).value ≡ register (at m k) x.operand
        go h =
            let o : x.operand ≤ 15 = omega (arith, ap (λ (y : Instruction). y.operand) e, its-instruction.register_small (rw e at h)) in
            let z : x.operand % 16 ≡ x.operand = omega arith in
            rw z (left_of_lem x.operand (omega arith))
          where
            left_of_lem : (r : ℕ) → r < 16 → (get_or m.bank (16 * k + r) zero_register).value ≡ register (at m k) r
            left_of_lem r q = sym (value-at m k r q)

    pub ready : (s v : Value) → s ≡ register (at m k) x.s → v ≡ operand (at m k) x → m.work < work_limit → Ready cells s v (active_of (at m k).task)
    ready s v p q w = record {
      accepted_program = allowed.program;
      pc_below = pc_inside;
      s_fits = rw p (its.values_fit x.s);
      v_fits = rw q (operand-fits (program_of cells) (at m k) x its.values_fit label_below);
      counter_below = omega (arith, (fits.counts k).counter_most);
      depth_most = omega (arith, its.has_depth, rank-small places allowed.its_places_allowed);
      fork_room = λ h. omega (arith, its.has_depth, its.has_places, rank-small places allowed.its_places_allowed, two_or_more _ (rw its.has_places at h));
    }
      where
        label_below : x.kind ≡ 2 → x.operand < block_count cells
        label_below h = omega (arith, ap (λ (y : Instruction). y.operand) e, its-instruction.label_below (rw e at h))
