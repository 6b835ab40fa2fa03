-- The instruction that a task in hand does not carry out by itself: each way through it is what `executed` says.
use mathlib.Core.Path.{◌≡◌, refl, sym, ap, ◌∙◌}
use mathlib.Core.Bool.{Bool, true}
use mathlib.Core.List.{List}
use Prim.Native.Nat.{ℕ, zero, suc, ◌/◌, ◌%◌, ◌<◌, ◌≤◌}
use native.Mathlib.Omega.{arith}
use lib.Dec.{eqb, ltb}
use lib.IntN.{ℤ}
use lib.ListN.{get_or}
use borrow.Author.Tests.{eqb-true, ltb-true}
use Rattle.facts.proofs.Tests.{both_true}
use Rattle.image.specs.declared.Instruction.{Instruction}
use Rattle.image.specs.Program.{Program}
use Rattle.image.specs.Layout.{block_count, instruction_count, instruction_of, program_of}
use Rattle.image.specs.Questions.{program_no}
use Rattle.image.proofs.Accepted.{accepted, Accepted, InstructionAccepted}
use Rattle.task.specs.declared.Value.{Value}
use Rattle.task.specs.declared.Value.TheVariants.{Label, Record}
use Rattle.task.specs.declared.Register.{Register}
use Rattle.task.specs.declared.Kind.TheVariants.{Faults}
use Rattle.task.specs.declared.Fork.{Fork}
use Rattle.task.specs.declared.Active.{Active}
use Rattle.task.specs.declared.Frame.{Frame}
use Rattle.task.specs.declared.Executed.{Executed}
use Rattle.task.specs.Choices.{Choices}
use Rattle.task.specs.Effect.{asked, Op, fork, unknown, opcodes, fits}
use Rattle.task.specs.Formed.{is_target, value_fits}
use Rattle.task.specs.Step.{register, operand, active_of, promotes}
use Rattle.task.specs.Execute.{going, ending, entering, counted_active, answered, executed}
use Rattle.task.proofs.Formation.{Formed, formed_is}
use Rattle.task.proofs.StepKeeps.{operand-fits}
use Rattle.arms.specs.declared.Way.{Way}
use Rattle.arms.specs.declared.Way.TheVariants.{On, Off, Fault}
use Rattle.arms.specs.Arms.{IfOn, IfOff}
use Rattle.arms.specs.Registers.{value_of, registers_of, Sized, operand_by}
use Rattle.arms.specs.Turns.{executed_of}
use Rattle.evaluator.specs.Banks.{bank_of}
use Rattle.evaluator.specs.Sides.{Side, frame_of, CanStep}
use Rattle.arms.proofs.RegisterLaws.{value-at}

-- ---- the instruction is left to others, where it is no fault and the task does not go on

pub left_in : (way : Way) (P : Type 0) → IfOn way ⊥ → ((n : ℕ) → way ≡ Fault n → ⊥) → IfOff way P → P
left_in On P q f h = absurd q
left_in Off P q f h = h
left_in (Fault n) P q f h = absurd (f n refl)

-- ---- the operand by its kind, as two numbers

pub pair-register : (nums kinds : List ℕ) (k o : ℕ) → Sized nums kinds → k ≡ 1 → o < 16
    → value_of (get_or kinds o 0) (get_or nums o 0) ≡ operand_by k o (registers_of nums kinds)
pair-register nums kinds k o h e l = rw e (sym (value-at nums kinds o h l))

operand_as : (g : Frame) (i : Instruction) (k : ℕ) → k ≤ 3 → i.kind ≡ k → operand g i ≡ operand_by k i.operand g.registers
unfolding operand
operand_as g i zero l e = rw e
operand_as g i (suc zero) l e = rw e
operand_as g i (suc (suc zero)) l e = rw e
operand_as g i (suc (suc (suc zero))) l e = rw e
operand_as g i (suc (suc (suc (suc k)))) l e = absurd (omega (arith, l))

-- ---- values by their kinds

pub record_is : (k u : ℕ) → 2 ≤ k → value_of k u ≡ Record (u / 4294967296) (u % 4294967296)
record_is zero u h = absurd (omega arith)
record_is (suc zero) u h = absurd (omega arith)
record_is (suc (suc k)) u h = refl

pub label_is : (k u : ℕ) → k ≡ 1 → value_of k u ≡ Label u
label_is k u e = rw e

pub target_is : (cells : List ℕ) (k u : ℕ) → 2 ≤ k → value_fits (program_of cells) (value_of k u) ≡ true → is_target (program_of cells) (u / 4294967296) ≡ true
target_is cells k u l h = rw (record_is k u l) at h

-- ---- a value that is none

module _ (words : List ℤ) (choices : Choices) (program : Program) (u : ℕ) (t : Active) (l : List Fork) where
  pub fork-no-label : (j : ℕ) (s : Value) {c d : ℕ} {z : Bool} → s ≡ Record c d → z ≡ fits (record { continuation = c; depth = d }) t.depth l → z ≡ true
      → (j ≡ 1 → ⊥) → ending Faults 34 ≡ answered program words choices s (value_of j u) t l fork
  unfolding asked
  fork-no-label zero s p e k n = rw (p, ← e, k)
  fork-no-label (suc zero) s p e k n = absurd (n refl)
  fork-no-label (suc (suc j)) s p e k n = rw (p, ← e, k)

-- ---- a join target never promotes

pub target_enters : (program : Program) (choices : Choices) (b : ℕ) (t : Active) → is_target program b ≡ true
    → going (program.block b).first t.counter ≡ entering program choices b t
unfolding promotes is_target
target_enters program choices b t h =
    let e : (program.block b).annotation ≡ 2 = eqb-true _ 2 (both_true (ltb b program.blocks) (eqb (program.block b).annotation 2) h).1 in
    rw e

-- ---- the instruction of a running task

module _ (cells : List ℕ) (accept : program_no cells ≡ 0) (own : Side) (can : CanStep cells own) where
  abbrev g : Frame
  g = frame_of own can.stack

  its : Formed (program_of cells) can.rank can.height g
  its = formed_is (program_of cells) can.rank can.height g can.good.its_is_formed

  pub ok : Accepted cells
  ok = accepted cells accept

  pub pc_below : own.task.pc < instruction_count cells
  pc_below = its.pc_below

  pub here : InstructionAccepted cells own.task.pc
  here = ok.instruction own.task.pc pc_below

  pub place-below : own.task.pc < 1024
  place-below = omega (arith, its.pc_below, ok.few_instructions)

  pub depth_most : own.task.depth ≤ 6
  depth_most = omega (arith, its.has_depth, can.room)

  module _ (sized : Sized own.registers.nums own.registers.kinds) (x : Instruction) (ex : x ≡ instruction_of cells own.task.pc) where
    pub s-below : x.s < 16
    s-below = omega (arith, ap (λ (y : Instruction). y.s) ex, here.s_small)

    pub operand_below : x.kind ≡ 1 → x.operand < 16
    operand_below h = omega (arith, ap (λ (y : Instruction). y.operand) ex, here.register_small (sym (ap (λ (y : Instruction). y.kind) ex) ∙ h))

    label_below : x.kind ≡ 2 → x.operand < block_count cells
    label_below h = omega (arith, ap (λ (y : Instruction). y.operand) ex, here.label_below (sym (ap (λ (y : Instruction). y.kind) ex) ∙ h))

    -- the two values
    pub s_is : (stack : List Register) → value_of (get_or own.registers.kinds x.s 0) (get_or own.registers.nums x.s 0) ≡ register (frame_of own stack) x.s
    s_is stack = sym (value-at own.registers.nums own.registers.kinds x.s sized s-below)

    pub v_is : {w : Value} → w ≡ operand_by x.kind x.operand (bank_of own.registers) → (stack : List Register) → w ≡ operand (frame_of own stack) x
    v_is e stack = e ∙ sym (operand_as (frame_of own stack) x x.kind (omega (arith, ap (λ (y : Instruction). y.kind) ex, here.kind_known)) refl)

    pub v_fits : {v : Value} → ((stack : List Register) → v ≡ operand (frame_of own stack) x) → value_fits (program_of cells) v ≡ true
    v_fits ev = ap (value_fits (program_of cells)) (ev can.stack) ∙ operand-fits (program_of cells) g x its.values_fit label_below

    -- a label's number
    pub label_small : (j u : ℕ) → value_fits (program_of cells) (value_of j u) ≡ true → j ≡ 1 → u < 4294967296
    label_small j u fit e =
        let f : ltb u (block_count cells) ≡ true = rw e at fit in
        omega (arith, ltb-true u (block_count cells) f, ok.few_blocks)

    module _ {s v : Value} (es : (stack : List Register) → s ≡ register (frame_of own stack) x.s) (ev : (stack : List Register) → v ≡ operand (frame_of own stack) x)
        (words : List ℤ) (choices : Choices) where
      -- an answer to these values is the instruction's, whatever the stack
      pub executes : (o : Op) → get_or opcodes x.opcode unknown ≡ o → {e : Executed}
          → e ≡ answered (program_of cells) words choices s v (counted_active (active_of own.task)) own.task.forks o
          → (stack : List Register) → e ≡ executed_of (program_of cells) words choices (frame_of own stack)
      unfolding executed
      executes o eo h stack =
          h
          ∙ ap (answered (program_of cells) words choices s v (counted_active (active_of own.task)) own.task.forks) (sym eo)
          ∙ ap (λ w. executed (program_of cells) words choices x w v (active_of own.task) own.task.forks) (es stack)
          ∙ ap (λ w. executed (program_of cells) words choices x (register (frame_of own stack) x.s) w (active_of own.task) own.task.forks) (ev stack)
          ∙ ap (λ (y : Instruction). executed (program_of cells) words choices y (register (frame_of own stack) y.s) (operand (frame_of own stack) y)
          (active_of own.task) own.task.forks) ex
