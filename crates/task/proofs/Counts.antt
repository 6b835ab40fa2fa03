-- Counter and span: an instruction adds at most 1 to them, a join nothing. So they are at most the work.
use mathlib.Core.Path.{◌≡◌, refl, subst}
use mathlib.Core.Bool.{true}
use mathlib.Core.List.{List}
use mathlib.Core.Option.{Option, none, some}
use Prim.Native.Nat.{ℕ, suc, ◌-◌, ◌≤◌}
use native.Mathlib.Omega.{arith}
use lib.Dec.{leb}
use lib.IntN.{ℤ}
use lib.ListN.{get_or}
use borrow.Author.Tests.{leb-true, le-leb}
use Rattle.task.proofs.Effects.{stack-keeps, entered-keeps}
use Rattle.facts.proofs.Tests.{both_true, true_both}
use Rattle.image.specs.Program.{Program}
use Rattle.task.specs.declared.Register.{Register}
use Rattle.task.specs.declared.Task.{Task}
use Rattle.task.specs.declared.Frame.{Frame}
use Rattle.agreement.specs.Plain.{Stepped, one, two}
use Rattle.task.specs.Frames.{zero_fork, vacant, start_frame, fault_of}
use Rattle.task.specs.Choices.{Choices}
use Rattle.task.specs.Effect.{Effect, stores, continues, pushes, pops, enters, forks, waits, halts, faults, unknown, opcodes, effect_of}
use Rattle.task.specs.Step.{register, operand, active_of, counted, with_task, has_place, has_value, applied, step, first_fault, joined_by, join}
use Rattle.task.specs.Formed.{within}

-- at most W, both
pub record Within (W : ℕ) (t : Task) : Type 0 where
  pub counter_most : t.counter ≤ W
  pub span_most : t.span ≤ W

pub within_is : (W : ℕ) (f : Frame) → within W f ≡ true → Within W f.task
within_is W f e =
    let p = both_true (leb f.task.counter W) (leb f.task.span W) e in
    record { counter_most = leb-true f.task.counter W p.0; span_most = leb-true f.task.span W p.1 }

pub is_within : (W : ℕ) (f : Frame) → Within W f.task → within W f ≡ true
is_within W f x = true_both (le-leb f.task.counter W x.counter_most) (le-leb f.task.span W x.span_most)

pub within_more : {W U : ℕ} {t : Task} → W ≤ U → Within W t → Within U t
within_more h x = record { counter_most = omega (arith, x.counter_most); span_most = omega (arith, x.span_most) }

pub vacant-within : (W : ℕ) → Within W vacant.task
vacant-within W = record { counter_most = omega arith; span_most = omega arith }

pub start-within : (W places : ℕ) (registers : List Register) → Within W (start_frame places registers).task
start-within W places registers = record { counter_most = omega arith; span_most = omega arith }

abbrev AllWithin : ℕ → Stepped Frame → Type 0
AllWithin W (one g) = Within W g.task
AllWithin W (two p c) = Within W p.task × Within W c.task

module _ (program : Program) (choices : Choices) (W r : ℕ) (f : Frame) (x : Within W f.task) where
  -- a task with the span that it has, and its counter or a smaller one
  kept : (t : Task) → t.counter ≤ f.task.counter → t.span ≡ f.task.span → Within W t
  kept t c s = record { counter_most = omega (arith, x.counter_most); span_most = omega (arith, x.span_most) }

  within-applied : (e : Effect) → AllWithin W (applied program choices r f e)
  within-applied (stores v) = kept _ (omega arith) refl
  within-applied continues = kept _ (omega arith) refl
  within-applied (pushes v) = stack-keeps (λ g. Within W g.task) (has_place f.task) _ _ (kept _ (omega arith) refl) λ e. kept _ (omega arith) refl
  within-applied pops = stack-keeps (λ g. Within W g.task) (has_value f.task) _ _ (kept _ (omega arith) refl) λ e. kept _ (omega arith) refl
  within-applied (enters b) = entered-keeps (Within W) program choices b f.task (kept _ (omega arith) refl) (kept _ (omega arith) refl)
  within-applied (forks k b) = (kept _ (omega arith) refl, kept _ (omega arith) refl)
  within-applied waits = kept _ (omega arith) refl
  within-applied halts = kept _ (omega arith) refl
  within-applied (faults n) = kept _ (omega arith) refl

module _ (program : Program) (words : List ℤ) (choices : Choices) where
  within_step : (W : ℕ) (f : Frame) → Within W f.task → AllWithin (suc W) (step program words choices f)
  unfolding step
  within_step W f x =
      let e = program.instruction f.task.pc in
      let t = counted f.task in
      within-applied program choices (suc W) e.r (with_task t f)
      (record { counter_most = omega (arith, x.counter_most); span_most = omega (arith, x.span_most) })
      (effect_of program words choices (register f e.s) (operand f e) (active_of t) t.forks (get_or opcodes e.opcode unknown))

  pub step-one-within : (W : ℕ) (f g : Frame) → Within W f.task → step program words choices f ≡ one g → Within (suc W) g.task
  step-one-within W f g x e = subst (AllWithin (suc W)) e (within_step W f x)

  pub step-two-within : (W : ℕ) (f p c : Frame) → Within W f.task → step program words choices f ≡ two p c
      → Within (suc W) p.task × Within (suc W) c.task
  step-two-within W f p c x e = subst (AllWithin (suc W)) e (within_step W f x)

pub join-within : (program : Program) (W : ℕ) (p c : Frame) → Within W p.task → Within W c.task → Within W (join program p c).task
unfolding join
join-within program W p c x y = go (first_fault (fault_of p.task.status) (fault_of c.task.status))
  where
    b : ℕ
    b = (get_or p.task.forks (p.task.depth - 1) zero_fork).continuation

    go : (o : Option ℕ) → Within W (joined_by o program b p c).task
    go none = record { counter_most = omega arith; span_most = omega (arith, x.span_most, y.span_most) }
    go (some n) = record { counter_most = omega arith; span_most = omega (arith, x.span_most, y.span_most) }
