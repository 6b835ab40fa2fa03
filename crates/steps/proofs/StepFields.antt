-- What the shape test leaves open of a frame, an integer's 64 bits and the depth of a record or an open fork: an instruction and a join
-- keep it within its field.
use mathlib.Core.Path.{◌≡◌, refl}
use mathlib.Core.Bool.{Bool, true, false, cond}
use mathlib.Core.List.{List, [], ◌∷◌}
use mathlib.Core.Option.{Option, none, some}
use Prim.Native.Nat.{ℕ, zero, suc, ◌-◌, ◌^◌, ◌<◌}
use native.Mathlib.Omega.{arith}
use lib.Dec.{eqb, ltb}
use lib.IntN.{ℤ, pos, nat_abs, ◌+ℤ◌, ◌-ℤ◌, ◌*ℤ◌}
use lib.Signed.{quot_z, lt_z, mag_rem}
use lib.ListN.{get_or}
use mir.Syntax.{w64}
use mir.Val.{SFits, to_z}
use mir.ValLaws.{sfits_le}
use borrow.Author.Tests.{ltb-true, ltb-false}
use Rattle.agreement.specs.Plain.{Stepped, one, two}
use Rattle.int64.specs.Equal.{eq_z}
use Rattle.int64.proofs.Wrapping.{wrapped-fits}
use Rattle.image.specs.declared.Instruction.{Instruction}
use Rattle.image.specs.Program.{Program}
use Rattle.task.specs.declared.Value.{Value}
use Rattle.task.specs.declared.Value.TheVariants.{Int, Label, Record}
use Rattle.task.specs.declared.Register.{Register}
use Rattle.task.specs.declared.Fork.{Fork}
use Rattle.task.specs.declared.Active.{Active}
use Rattle.task.specs.declared.Task.{Task}
use Rattle.task.specs.declared.Frame.{Frame}
use Rattle.task.specs.Frames.{stack_length, empty_stack, zero_register, zeros, zero_fork, no_forks, vacant, integers, start_frame, fault_of}
use Rattle.task.specs.Values.{truth}
use Rattle.task.specs.Choices.{Choices, chosen}
use Rattle.task.specs.Effect.{Effect, stores, continues, pushes, pops, enters, forks, waits, halts, faults, asked, integer, label, effect_of}
use Rattle.task.specs.Effect.{Op, move, plus, minus, times, divide, modulo, less, equal, word, if_jump, jralloc, fork, jump, halt, meet, push, pop, unknown, opcodes}
use Rattle.task.specs.Step.{register, operand, active_of, counted, side, with_task, emptied, faulted, has_place, has_value, onward, pushed, popped, applied, step, first_fault, joined_by, join}
use Rattle.task.proofs.Facts.{set_keeps, constant_at}
use Rattle.task.proofs.Effects.{stack-keeps, asked-keeps, integer-keeps, label-keeps, record_keeps, entered-keeps}
use Rattle.task.proofs.JoinKeeps.{copied-keeps}
use Rattle.steps.specs.Fields.{IntegersInField}

-- an integer of 64 bits, a record's depth of 32
abbrev pub NarrowValue : Value → Type 0
NarrowValue (Int z) = SFits w64 z
NarrowValue (Label b) = Unit {0}
NarrowValue (Record c d) = d < 2 ^ 32

abbrev pub NarrowRegister : Register → Type 0
NarrowRegister r = NarrowValue r.value

abbrev pub NarrowFork : Fork → Type 0
NarrowFork k = k.depth < 2 ^ 32

pub record Narrow (f : Frame) : Type 0 where
  pub values : (i : ℕ) → NarrowRegister (get_or f.registers i zero_register)
  pub entries : (i : ℕ) → NarrowRegister (get_or f.stack i zero_register)
  pub forks : (i : ℕ) → NarrowFork (get_or f.task.forks i zero_fork)

-- ---- values

pub zero_narrow : NarrowRegister zero_register
zero_narrow = record { sfits = omega arith }

-- bits read as signed, also more than 64 of them
pub read_fits : (n : ℕ) → SFits w64 (to_z w64 n)
read_fits n = go (ltb n (2 ^ 63)) refl
  where
    go : (t : Bool) → ltb n (2 ^ 63) ≡ t → SFits w64 (to_z w64 n)
    go true t = rw t (record { sfits = ltb-true n (2 ^ 63) t })
    go false t = let h = ltb-false n (2 ^ 63) t in rw t (record { sfits = omega arith })

truth_narrow : (t : Bool) → NarrowValue (truth t)
truth_narrow true = zero_narrow
truth_narrow false = record { sfits = omega arith }

operand_narrow : (f : Frame) (x : Instruction) → Narrow f → NarrowValue (operand f x)
unfolding operand
operand_narrow f x n = go (eqb x.kind 1) refl
  where
    other : (t : Bool) → eqb x.kind 2 ≡ t → eqb x.kind 1 ≡ false → NarrowValue (operand f x)
    other true t u = rw (u, t, operand) tt
    other false t u = rw (u, t, operand) (read_fits x.operand)

    go : (t : Bool) → eqb x.kind 1 ≡ t → NarrowValue (operand f x)
    go true t = rw (t, operand) (n.values x.operand)
    go false t = other (eqb x.kind 2) refl t

-- ---- what an instruction leaves

zeros_narrow : (i : ℕ) → NarrowRegister (get_or zeros i zero_register)
zeros_narrow i = rw (constant_at 16 i zero_register) zero_narrow

empty_narrow : (i : ℕ) → NarrowRegister (get_or empty_stack i zero_register)
empty_narrow i = rw (constant_at stack_length i zero_register) zero_narrow

-- the open forks stay, whatever else becomes of the task
same_forks : (f : Frame) (t : Task) → Narrow f → t.forks ≡ f.task.forks → Narrow (with_task t f)
same_forks f t n e = record { values = n.values; entries = n.entries; forks = λ i. rw e (n.forks i) }

emptied_narrow : (f : Frame) → Narrow f → Narrow (emptied f)
emptied_narrow f n = record { values = n.values; entries = empty_narrow; forks = n.forks }

faulted_narrow : (k : ℕ) (f : Frame) → Narrow f → Narrow (faulted k f)
faulted_narrow k f n = record { values = zeros_narrow; entries = empty_narrow; forks = n.forks }

pushed_narrow : (v : Value) (f : Frame) → NarrowValue v → Narrow f → Narrow (pushed v f)
pushed_narrow v f x n = record {
  values = n.values;
  entries = λ i. set_keeps NarrowRegister f.stack f.task.height i (record { value = v }) zero_register x (n.entries i);
  forks = n.forks;
}

-- the register gets an entry of the stack, whose place becomes integer 0
popped_narrow : (r : ℕ) (f : Frame) → Narrow f → Narrow (popped r f)
popped_narrow r f n = record {
  values = λ i. set_keeps NarrowRegister f.registers r i (get_or f.stack last zero_register) zero_register (n.entries last) (n.values i);
  entries = λ i. set_keeps NarrowRegister f.stack last i zero_register zero_register zero_narrow (n.entries i);
  forks = n.forks;
}
  where
    last : ℕ
    last = f.task.height - 1

-- the task that goes on or ends, or the two sides of a fork
abbrev pub AllNarrow : Stepped Frame → Type 0
AllNarrow (one g) = Narrow g
AllNarrow (two p c) = Narrow p × Narrow c

-- an effect that leaves every number in its field
abbrev NarrowEffect : Effect → Type 0
NarrowEffect (stores v) = NarrowValue v
NarrowEffect continues = Unit {0}
NarrowEffect (pushes v) = NarrowValue v
NarrowEffect pops = Unit {0}
NarrowEffect (enters b) = Unit {0}
NarrowEffect (forks k b) = NarrowFork k
NarrowEffect waits = Unit {0}
NarrowEffect halts = Unit {0}
NarrowEffect (faults n) = Unit {0}

module _ (program : Program) (choices : Choices) (r : ℕ) (f : Frame) (n : Narrow f) where
  side_narrow : (k : Fork) (pc counter : ℕ) → NarrowFork k → Narrow (with_task (side k pc counter f.task) f)
  side_narrow k pc counter x = record {
    values = n.values;
    entries = n.entries;
    forks = λ i. set_keeps NarrowFork f.task.forks f.task.depth i k zero_fork x (n.forks i);
  }

  applied_narrow : (e : Effect) → NarrowEffect e → AllNarrow (applied program choices r f e)
  applied_narrow (stores v) x = record {
    values = λ i. set_keeps NarrowRegister f.registers r i (record { value = v }) zero_register x (n.values i);
    entries = n.entries;
    forks = n.forks;
  }
  applied_narrow continues x = same_forks f _ n refl
  applied_narrow (pushes v) x =
      stack-keeps Narrow (has_place f.task) (pushed v (onward f)) (faulted 42 f) (faulted_narrow 42 f n)
      (λ e. pushed_narrow v (onward f) x (same_forks f _ n refl))
  applied_narrow pops x =
      stack-keeps Narrow (has_value f.task) (popped r (onward f)) (faulted 43 f) (faulted_narrow 43 f n)
      (λ e. popped_narrow r (onward f) (same_forks f _ n refl))
  applied_narrow (enters b) x =
      entered-keeps (λ t. Narrow (with_task t f)) program choices b f.task (same_forks f _ n refl) (same_forks f _ n refl)
  applied_narrow (forks k b) x = (side_narrow k _ _ x, emptied_narrow _ (side_narrow k _ _ x))
  applied_narrow waits x = same_forks f _ n refl
  applied_narrow halts x = same_forks f _ n refl
  applied_narrow (faults k) x = faulted_narrow k f n

module _ (program : Program) (words : List ℤ) (interval : ℕ) (fit : IntegersInField words) (t : Active) (opened : List Fork) (shallow : t.depth < 2 ^ 32)
    (s v : Value) (ns : NarrowValue s) (nv : NarrowValue v) where
  asks : (z : Bool) (k : ℕ) (after : Effect) → NarrowEffect after → NarrowEffect (asked z k after)
  asks z k after x = asked-keeps NarrowEffect z k after tt (λ e. x)

  -- both operands integers of 64 bits
  computes : (after : ℤ → ℤ → Effect) → ((a b : ℤ) → SFits w64 a → SFits w64 b → NarrowEffect (after a b))
      → NarrowEffect (integer s 31 λ a. integer v 31 (after a))
  computes after g =
      integer-keeps NarrowEffect s 31 _ tt λ a e. integer-keeps NarrowEffect v 31 _ tt λ b f. g a b (rw e at ns) (rw f at nv)

  jump_narrow : NarrowEffect (label v 34 enters)
  jump_narrow = label-keeps NarrowEffect v 34 _ tt λ b e. tt

  branch_narrow : (z : Bool) → NarrowEffect (cond z (label v 34 enters) continues)
  branch_narrow true = jump_narrow
  branch_narrow false = tt

  meet_narrow : (z : Bool) (b : ℕ) → NarrowEffect (cond z (enters b) waits)
  meet_narrow true b = tt
  meet_narrow false b = tt

  -- jralloc records the task's own depth
  effect_narrow : (op : Op) → NarrowEffect (effect_of program words (chosen interval) s v t opened op)
  effect_narrow move = nv
  effect_narrow plus = computes _ λ a b f g. wrapped-fits (a +ℤ b)
  effect_narrow minus = computes _ λ a b f g. wrapped-fits (a -ℤ b)
  effect_narrow times = computes _ λ a b f g. wrapped-fits (a *ℤ b)
  effect_narrow divide = computes _ λ a b f g. asks _ _ _ (wrapped-fits (quot_z a b))
  effect_narrow modulo = computes _ λ a b f g. asks _ _ _ (sfits_le (mag_rem a b) f)
  effect_narrow less = computes _ λ a b f g. truth_narrow (lt_z a b)
  effect_narrow equal = computes _ λ a b f g. truth_narrow (eq_z a b)
  effect_narrow word = integer-keeps NarrowEffect v 31 _ tt λ i e. asks _ _ _ (fit (nat_abs i))
  effect_narrow if_jump = integer-keeps NarrowEffect s 31 _ tt λ a e. branch_narrow (eq_z a (pos 0))
  effect_narrow jralloc = label-keeps NarrowEffect v 35 _ tt λ b e. asks _ _ _ shallow
  effect_narrow fork =
      record_keeps NarrowEffect s 36 _ tt λ k e. asks _ _ _ (label-keeps NarrowEffect v 34 _ tt λ b f. asks _ _ _ (rw e at ns))
  effect_narrow jump = jump_narrow
  effect_narrow halt = asks _ _ _ tt
  effect_narrow meet =
      record_keeps NarrowEffect v 36 _ tt λ k e. asks _ _ _ (meet_narrow (eqb k.depth t.depth) k.continuation)
  effect_narrow push = nv
  effect_narrow pop = tt
  effect_narrow unknown = tt

pub step_narrow : (program : Program) (words : List ℤ) (interval : ℕ) (f : Frame) → IntegersInField words → f.task.depth < 2 ^ 32 → Narrow f
    → AllNarrow (step program words (chosen interval) f)
unfolding step
step_narrow program words interval f fit shallow n =
    let e = program.instruction f.task.pc in
    let t = counted f.task in
    applied_narrow program (chosen interval) e.r (with_task t f) (same_forks f _ n refl)
    (effect_of program words (chosen interval) (register f e.s) (operand f e) (active_of t) t.forks (get_or opcodes e.opcode unknown))
    (effect_narrow program words interval fit (active_of t) t.forks shallow (register f e.s) (operand f e)
    (n.values e.s) (operand_narrow f e n) (get_or opcodes e.opcode unknown))

-- ---- a join

pub join_narrow : (program : Program) (p c : Frame) → Narrow p → Narrow c → Narrow (join program p c)
unfolding join
join_narrow program p c x y = go (first_fault (fault_of p.task.status) (fault_of c.task.status))
  where
    closed : (i : ℕ) → NarrowFork (get_or (joined_by none program 0 p c).task.forks i zero_fork)
    closed i = set_keeps NarrowFork p.task.forks (p.task.depth - 1) i zero_fork zero_fork (omega arith) (x.forks i)

    b : ℕ
    b = (get_or p.task.forks (p.task.depth - 1) zero_fork).continuation

    go : (o : Option ℕ) → Narrow (joined_by o program b p c)
    go none = record {
      values = copied-keeps NarrowRegister c.registers y.values _ _ p.registers x.values;
      entries = x.entries;
      forks = closed;
    }
    go (some k) = record { values = zeros_narrow; entries = empty_narrow; forks = closed }

-- ---- the fixed frames

pub vacant_narrow : Narrow vacant
vacant_narrow = record { values = zeros_narrow; entries = empty_narrow; forks = no-forks_narrow }
  where
    no-forks_narrow : (i : ℕ) → NarrowFork (get_or no_forks i zero_fork)
    no-forks_narrow i = rw (constant_at 6 i zero_fork) (omega arith)

integers_narrow : (zs : List ℤ) → IntegersInField zs → (i : ℕ) → NarrowRegister (get_or (integers zs) i zero_register)
integers_narrow [] fit i = zero_narrow
integers_narrow (z ∷ zs) fit zero = fit zero
integers_narrow (z ∷ zs) fit (suc i) = integers_narrow zs (λ j. fit (suc j)) i

pub start_narrow : (places : ℕ) (registers : List ℤ) → IntegersInField registers → Narrow (start_frame places (integers registers))
start_narrow places registers fit = record { values = integers_narrow registers fit; entries = empty_narrow; forks = vacant_narrow.forks }
