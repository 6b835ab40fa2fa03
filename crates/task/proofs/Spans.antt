-- An instruction adds exactly 1 to a task's span, at a fork on both sides.
use mathlib.Core.Path.{◌≡◌, refl, subst}
use mathlib.Core.List.{List}
use Prim.Native.Nat.{ℕ, ◌+◌}
use lib.IntN.{ℤ}
use lib.ListN.{get_or}
use Rattle.task.proofs.Effects.{stack-keeps, entered-keeps}
use Rattle.image.specs.Program.{Program}
use Rattle.task.specs.declared.Frame.{Frame}
use Rattle.agreement.specs.Plain.{Stepped, one, two}
use Rattle.task.specs.Choices.{Choices}
use Rattle.task.specs.Effect.{Effect, stores, continues, pushes, pops, enters, forks, waits, halts, faults, unknown, opcodes, effect_of}
use Rattle.task.specs.Step.{register, operand, active_of, counted, with_task, has_place, has_value, applied, step}

abbrev span : Frame → ℕ
span f = f.task.span

-- every task has the span n
abbrev AllSpan : ℕ → Stepped Frame → Type 0
AllSpan n (one g) = span g ≡ n
AllSpan n (two p c) = (span p ≡ n) × (span c ≡ n)

module _ (program : Program) (choices : Choices) (n r : ℕ) (f : Frame) (x : span f ≡ n) where
  -- no effect changes the span of a task that has counted the instruction
  span-applied : (e : Effect) → AllSpan n (applied program choices r f e)
  span-applied (stores v) = x
  span-applied continues = x
  span-applied (pushes v) = stack-keeps (λ g. span g ≡ n) (has_place f.task) _ _ x λ e. x
  span-applied pops = stack-keeps (λ g. span g ≡ n) (has_value f.task) _ _ x λ e. x
  span-applied (enters b) = entered-keeps (λ t. t.span ≡ n) program choices b f.task x x
  span-applied (forks k b) = (x, x)
  span-applied waits = x
  span-applied halts = x
  span-applied (faults k) = x

module _ (program : Program) (words : List ℤ) (choices : Choices) where
  span-step : (f : Frame) → AllSpan (span f + 1) (step program words choices f)
  unfolding step
  span-step f =
      let e = program.instruction f.task.pc in
      let t = counted f.task in
      span-applied program choices (span f + 1) e.r (with_task t f) refl
      (effect_of program words choices (register f e.s) (operand f e) (active_of t) t.forks (get_or opcodes e.opcode unknown))

  pub step-one-span : (f g : Frame) → step program words choices f ≡ one g → g.task.span ≡ f.task.span + 1
  step-one-span f g e = subst (AllSpan (span f + 1)) e (span-step f)

  pub step-two-span : (f p c : Frame) → step program words choices f ≡ two p c
      → (p.task.span ≡ f.task.span + 1) × (c.task.span ≡ f.task.span + 1)
  step-two-span f p c e = subst (AllSpan (span f + 1)) e (span-step f)
