-- An instruction opens a fork only under a record that fits the task (36).
use mathlib.Core.Path.{◌≡◌, sym, subst}
use mathlib.Core.Bool.{Bool, true, false, cond}
use mathlib.Core.List.{List}
use Prim.Native.Nat.{ℕ}
use native.Mathlib.Omega.{arith}
use lib.IntN.{ℤ, pos}
use lib.Dec.{eqb}
use lib.ListN.{get_or}
use Rattle.int64.specs.Equal.{eq_z}
use Rattle.image.specs.Program.{Program}
use Rattle.task.specs.declared.Value.{Value}
use Rattle.task.specs.declared.Fork.{Fork}
use Rattle.task.specs.declared.Active.{Active}
use Rattle.task.specs.declared.Frame.{Frame}
use Rattle.task.specs.declared.Kind.TheVariants.{Forks}
use Rattle.task.specs.declared.Executed.{Executed}
use Rattle.task.specs.Values.{record_of}
use Rattle.task.specs.Choices.{Choices}
use Rattle.task.specs.Effect.{Effect, stores, continues, pushes, pops, enters, forks, waits, halts, faults, asked, integer, label, fits}
use Rattle.task.specs.Effect.{Op, move, plus, minus, times, divide, modulo, less, equal, word, if_jump, jralloc, fork, jump, halt, meet, push, pop, unknown, opcodes, effect_of}
use Rattle.task.specs.Step.{register, operand, active_of, promotes}
use Rattle.task.specs.Execute.{counted_active, entering_by, handed, executed}
use Rattle.task.proofs.Effects.{asked-keeps, integer-keeps, label-keeps, record_keeps}
use Rattle.arms.specs.Turns.{executed_of}

module _ (program : Program) (words : List ℤ) (choices : Choices) (s v : Value) (t : Active) (opened : List Fork) where
  -- of each effect: a fork's record fits
  abbrev Under : Effect → Type 0
  Under (stores w) = Unit {0}
  Under continues = Unit {0}
  Under (pushes w) = Unit {0}
  Under pops = Unit {0}
  Under (enters b) = Unit {0}
  Under (forks k b) = fits k t.depth opened ≡ true
  Under waits = Unit {0}
  Under halts = Unit {0}
  Under (faults n) = Unit {0}

  asks : (z : Bool) (n : ℕ) (after : Effect) → (z ≡ true → Under after) → Under (asked z n after)
  asks z n after g = asked-keeps Under z n after tt g

  computes : (after : ℤ → ℤ → Effect) → ((a b : ℤ) → Under (after a b)) → Under (integer s 31 λ a. integer v 31 (after a))
  computes after g = integer-keeps Under s 31 _ tt λ a e. integer-keeps Under v 31 _ tt λ b e. g a b

  jumps : Under (label v 34 enters)
  jumps = label-keeps Under v 34 _ tt λ b e. tt

  branches : (z : Bool) → Under (cond z (label v 34 enters) continues)
  branches true = jumps
  branches false = tt

  meets : (k : Fork) (z : Bool) → Under (cond z (enters k.continuation) waits)
  meets k true = tt
  meets k false = tt

  under : (op : Op) → Under (effect_of program words choices s v t opened op)
  under move = tt
  under plus = computes _ λ a b. tt
  under minus = computes _ λ a b. tt
  under times = computes _ λ a b. tt
  under divide = computes _ λ a b. asks _ _ _ λ e. tt
  under modulo = computes _ λ a b. asks _ _ _ λ e. tt
  under less = computes _ λ a b. tt
  under equal = computes _ λ a b. tt
  under word = integer-keeps Under v 31 _ tt λ i e. asks _ _ _ λ e. tt
  under if_jump = integer-keeps Under s 31 _ tt λ a e. branches (eq_z a (pos 0))
  under jralloc = label-keeps Under v 35 _ tt λ b e. asks _ _ _ λ e. tt
  under fork = record_keeps Under s 36 _ tt λ k e. asks _ _ _ λ fit. label-keeps Under v 34 _ tt λ b e. asks _ _ _ λ e. fit
  under jump = jumps
  under halt = asks _ _ _ λ e. tt
  under meet = record_keeps Under v 36 _ tt λ k e. asks _ _ _ λ e. meets k (eqb k.depth t.depth)
  under push = tt
  under pop = tt
  under unknown = tt

  -- as the effect is handed on
  abbrev Opens : Executed → Type 0
  Opens e = e.kind ≡ Forks → fits (record_of e.value) t.depth opened ≡ true

  entering-opens : (z : Bool) (b : ℕ) → Opens (entering_by program choices z b t)
  entering-opens true b q = let z : ◌≡◌ {A = ℕ} 0 1 = cc in absurd (omega arith)
  entering-opens false b q = let z : ◌≡◌ {A = ℕ} 0 1 = cc in absurd (omega arith)

  handed-opens : (e : Effect) → Under e → Opens (handed program choices t e)
  handed-opens (stores w) u q = let z : ◌≡◌ {A = ℕ} 0 1 = cc in absurd (omega arith)
  handed-opens continues u q = let z : ◌≡◌ {A = ℕ} 0 1 = cc in absurd (omega arith)
  handed-opens (pushes w) u q = let z : ◌≡◌ {A = ℕ} 0 1 = cc in absurd (omega arith)
  handed-opens pops u q = let z : ◌≡◌ {A = ℕ} 0 1 = cc in absurd (omega arith)
  handed-opens (enters b) u q = entering-opens (promotes program choices b t.counter t.places) b q
  handed-opens (forks k b) u q = u
  handed-opens waits u q = let z : ◌≡◌ {A = ℕ} 0 1 = cc in absurd (omega arith)
  handed-opens halts u q = let z : ◌≡◌ {A = ℕ} 0 1 = cc in absurd (omega arith)
  handed-opens (faults n) u q = let z : ◌≡◌ {A = ℕ} 0 1 = cc in absurd (omega arith)

pub opened_under : (program : Program) (words : List ℤ) (choices : Choices) (f : Frame) {e : Executed} → e ≡ executed_of program words choices f
    → e.kind ≡ Forks → fits (record_of e.value) f.task.depth f.task.forks ≡ true
unfolding executed
opened_under program words choices f e =
    let x = program.instruction f.task.pc in
    let s = register f x.s in
    let v = operand f x in
    let t = counted_active (active_of f.task) in
    let op = get_or opcodes x.opcode unknown in
    subst (Opens program words choices s v t f.task.forks) (sym e)
    (handed-opens program words choices s v t f.task.forks (effect_of program words choices s v t f.task.forks op) (under program words choices s v t f.task.forks op))
