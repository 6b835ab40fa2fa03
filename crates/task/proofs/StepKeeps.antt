-- In an accepted program, an instruction of a formed running task leaves formed tasks.
use mathlib.Core.Path.{◌≡◌, refl, subst, ◌∙◌}
use mathlib.Core.Bool.{Bool, true, false, cond}
use mathlib.Core.List.{List}
use Prim.Native.Nat.{ℕ, zero, suc, ◌+◌, ◌-◌, ◌<◌, ◌≤◌}
use native.Mathlib.Omega.{arith}
use lib.Dec.{eqb}
use lib.IntN.{ℤ, pos}
use lib.Signed.{lt_z}
use lib.ListN.{get_or, length-set}
use borrow.Author.Tests.{eqb-true, eqb-false, ltb-true, leb-true, lt-ltb}
use Rattle.facts.proofs.Tests.{clash, true_both}
use Rattle.int64.specs.Equal.{eq_z}
use Rattle.image.specs.declared.Instruction.{Instruction}
use Rattle.image.specs.Program.{Program}
use Rattle.image.specs.Layout.{block_count, instruction_count, block_of, instruction_of, program_of}
use Rattle.image.proofs.Accepted.{Accepted}
use Rattle.task.specs.declared.Value.{Value}
use Rattle.task.specs.declared.Register.{Register}
use Rattle.task.specs.declared.Status.{Status}
use Rattle.task.specs.declared.Status.TheVariants.{Vacant, Running, Waiting, Halted, Faulted}
use Rattle.task.specs.declared.Fork.{Fork}
use Rattle.task.specs.declared.Task.{Task}
use Rattle.task.specs.declared.Frame.{Frame}
use Rattle.agreement.specs.Plain.{Stepped, one, two}
use Rattle.task.specs.Frames.{is_running, running, zero_register}
use Rattle.task.specs.Values.{truth}
use Rattle.task.specs.Choices.{Choices}
use Rattle.task.specs.Effect.{Effect, stores, continues, pushes, pops, enters, forks, waits, halts, faults, asked, integer, label, fits}
use Rattle.task.specs.Effect.{Op, move, plus, minus, times, divide, modulo, less, equal, word, if_jump, jralloc, fork, jump, halt, meet, push, pop, unknown, opcodes, effect_of}
use Rattle.task.specs.Step.{register, operand, active_of, counted, moved_to, ended, side, with_task, onward, emptied, faulted, has_place, has_value, pushed, popped, applied, step}
use Rattle.task.specs.Formed.{every, is_target, value_fits, status_fits}
use Rattle.task.proofs.Fitting.{fits_is}
use Rattle.task.proofs.Forks.{opened_fits}
use Rattle.task.proofs.Effects.{asked-keeps, integer-keeps, label-keeps, record_keeps, stack-keeps, entered-keeps}
use Rattle.task.proofs.Opcodes.{lasts, After, after, is_second, second}
use Rattle.task.proofs.Stacks.{empty-fits, used-fits, pushed-fits, popped-fits}
use Rattle.task.proofs.Facts.{set_keeps}
use Rattle.task.proofs.Formation.{Formed, Listed, second-listed, zeros-fit, target_below, target_from}

-- ---- values and status

pub running_is : (s : Status) → is_running s ≡ true → s ≡ Running
running_is Vacant e = clash e refl
running_is Running e = refl
running_is Waiting e = clash e refl
running_is Halted e = clash e refl
running_is (Faulted n) e = clash e refl

module _ (program : Program) where
  truth-fits : (t : Bool) → value_fits program (truth t) ≡ true
  truth-fits true = refl
  truth-fits false = refl

  pub operand-fits : (f : Frame) (x : Instruction) → ((i : ℕ) → value_fits program (register f i) ≡ true)
      → (x.kind ≡ 2 → x.operand < program.blocks) → value_fits program (operand f x) ≡ true
  unfolding operand
  operand-fits f x values below = go (eqb x.kind 1) refl
    where
      other : (t : Bool) → eqb x.kind 2 ≡ t → eqb x.kind 1 ≡ false → value_fits program (operand f x) ≡ true
      other true t u = rw (u, t, operand) (lt-ltb x.operand program.blocks (below (eqb-true x.kind 2 t)))
      other false t u = rw (u, t, operand)

      go : (t : Bool) → eqb x.kind 1 ≡ t → value_fits program (operand f x) ≡ true
      go true t = rw (t, operand) (values x.operand)
      go false t = other (eqb x.kind 2) refl t

-- ---- what an instruction leaves

module _ (cells : List ℕ) (ok : Accepted cells) (D : ℕ) (room : D ≤ 6) where
  abbrev program : Program
  program = program_of cells

  abbrev Is : ℕ → Frame → Type 0
  Is h f = Formed program D h f

  -- formed, and running
  record Live (h : ℕ) (f : Frame) : Type 0 where
    is : Is h f
    runs : f.task.status ≡ Running

  block_below : (b : ℕ) → b < block_count cells → (block_of cells b).first < instruction_count cells
  block_below b x = (ok.block b x).first_below

  moved-formed : {h : ℕ} {f : Frame} (pc counter : ℕ) → Live h f → pc < instruction_count cells
      → Is h (with_task (moved_to pc counter f.task) f)
  moved-formed pc counter x below = record {
    registers_full = x.is.registers_full;
    forks_full = x.is.forks_full;
    stack_full = x.is.stack_full;
    has_places = x.is.has_places;
    has_depth = x.is.has_depth;
    pc_below = below;
    its_status_fits = rw x.runs;
    its_forks_fit = x.is.its_forks_fit;
    values_fit = x.is.values_fit;
    height_most = x.is.height_most;
    its_entries_fit = x.is.its_entries_fit;
  }

  onward-formed : {h : ℕ} {f : Frame} → Live h f → f.task.pc + 1 < instruction_count cells → Is h (onward f)
  onward-formed x below = moved-formed _ _ x below

  ended-formed : {h : ℕ} {f : Frame} (s : Status) → Is h f → status_fits program.version (with_task (ended s f.task) f) s ≡ true
      → Is h (with_task (ended s f.task) f)
  ended-formed s x fit = record {
    registers_full = x.registers_full;
    forks_full = x.forks_full;
    stack_full = x.stack_full;
    has_places = x.has_places;
    has_depth = x.has_depth;
    pc_below = ok.some_instruction;
    its_status_fits = fit;
    its_forks_fit = x.its_forks_fit;
    values_fit = x.values_fit;
    height_most = x.height_most;
    its_entries_fit = x.its_entries_fit;
  }

  emptied-formed : {h : ℕ} {f : Frame} → Live h f → Is h (emptied f)
  emptied-formed x = record {
    registers_full = x.is.registers_full;
    forks_full = x.is.forks_full;
    stack_full = refl;
    has_places = x.is.has_places;
    has_depth = x.is.has_depth;
    pc_below = x.is.pc_below;
    its_status_fits = rw x.runs;
    its_forks_fit = x.is.its_forks_fit;
    values_fit = x.is.values_fit;
    height_most = omega arith;
    its_entries_fit = empty-fits program;
  }

  faulted-fits : (n : ℕ) (f : Frame) → Listed program.version n → status_fits program.version (faulted n f) (Faulted n) ≡ true
  unfolding every
  faulted-fits n f l = true_both l refl

  faulted-formed : {h : ℕ} {f : Frame} (n : ℕ) → Is h f → Listed program.version n → Is h (faulted n f)
  faulted-formed {h} {f} n x l = record {
    registers_full = refl;
    forks_full = x.forks_full;
    stack_full = refl;
    has_places = x.has_places;
    has_depth = x.has_depth;
    pc_below = ok.some_instruction;
    its_status_fits = faulted-fits n f l;
    its_forks_fit = x.its_forks_fit;
    values_fit = zeros-fit program;
    height_most = omega arith;
    its_entries_fit = empty-fits program;
  }

  -- ---- a value pushed on the stack, or popped from it

  pushed-formed : {h : ℕ} {f : Frame} (v : Value) → Live h f → value_fits program v ≡ true → f.task.height < 32 → Is h (pushed v f)
  pushed-formed {h} {f} v x fit place = record {
    registers_full = x.is.registers_full;
    forks_full = x.is.forks_full;
    stack_full = length-set f.stack f.task.height (record { value = v }) ∙ x.is.stack_full;
    has_places = x.is.has_places;
    has_depth = x.is.has_depth;
    pc_below = x.is.pc_below;
    its_status_fits = rw x.runs;
    its_forks_fit = x.is.its_forks_fit;
    values_fit = x.is.values_fit;
    height_most = omega (arith, place);
    its_entries_fit = pushed-fits program f.stack f.task.height (omega (arith, place, x.is.stack_full)) v fit x.is.its_entries_fit;
  }

  popped-formed : {h : ℕ} {f : Frame} (r : ℕ) → Live h f → 0 < f.task.height → Is h (popped r f)
  popped-formed {h} {f} r x some =
      let last = f.task.height - 1 in
      let one_more_lem : last + 1 ≡ f.task.height = omega (arith, some) in
      record {
        registers_full = simp length-set x.is.registers_full;
        forks_full = x.is.forks_full;
        stack_full = length-set f.stack last zero_register ∙ x.is.stack_full;
        has_places = x.is.has_places;
        has_depth = x.is.has_depth;
        pc_below = x.is.pc_below;
        its_status_fits = rw x.runs;
        its_forks_fit = x.is.its_forks_fit;
        values_fit = λ i.
            set_keeps (λ (k : Register). value_fits program k.value ≡ true) f.registers r i (get_or f.stack last zero_register) zero_register
            (used-fits program f.task.height f.stack x.is.its_entries_fit last (omega (arith, some))) (x.is.values_fit i);
        height_most = omega (arith, x.is.height_most);
        its_entries_fit =
            popped-fits program f.stack last (omega (arith, some, x.is.height_most, x.is.stack_full)) (rw one_more_lem x.is.its_entries_fit);
      }

  -- ---- one side of a fork

  side-formed : (j : ℕ) (f : Frame) (k : Fork) (pc counter : ℕ) → Live (suc j) f → is_target program k.continuation ≡ true
      → pc < instruction_count cells → Is j (with_task (side k pc counter f.task) f)
  side-formed j f k pc counter x target below =
      let deep : f.task.depth + suc j ≡ D = x.is.has_depth in
      record {
        registers_full = x.is.registers_full;
        forks_full = simp length-set x.is.forks_full;
        stack_full = x.is.stack_full;
        has_places = omega (arith, x.is.has_places);
        has_depth = omega arith;
        pc_below = below;
        its_status_fits = rw x.runs;
        its_forks_fit = opened_fits program f.task.forks f.task.depth (omega arith) x.is.forks_full k target x.is.its_forks_fit;
        values_fit = x.is.values_fit;
        height_most = x.is.height_most;
        its_entries_fit = x.is.its_entries_fit;
      }

  -- ---- the effects

  -- what an instruction of a task with 2 ^ h places may leave
  abbrev Leaves : ℕ → Stepped Frame → Type 0
  Leaves h (one g) = Is h g
  Leaves h (two p c) = (j : ℕ) × (h ≡ suc j) × Is j p × Is j c × (running p ≡ true)

  -- what is so of each effect of a task t that the shape test lets pass
  abbrev Sound : Task → Effect → Type 0
  Sound t (stores v) = (value_fits program v ≡ true) × (t.pc + 1 < instruction_count cells)
  Sound t continues = t.pc + 1 < instruction_count cells
  Sound t (pushes v) = (value_fits program v ≡ true) × Listed program.version 42 × (t.pc + 1 < instruction_count cells)
  Sound t pops = Listed program.version 43 × (t.pc + 1 < instruction_count cells)
  Sound t (enters b) = b < block_count cells
  Sound t (forks k b) = (is_target program k.continuation ≡ true) × (b < block_count cells) × (t.pc + 1 < instruction_count cells) × (2 ≤ t.places)
  Sound t waits = 0 < t.depth
  Sound t halts = eqb t.depth 0 ≡ true
  Sound t (faults n) = Listed program.version n

  module _ (choices : Choices) (r : ℕ) where
    splits_leave : (h : ℕ) (f : Frame) (k : Fork) (b : ℕ) → Live h f → Sound f.task (forks k b) → Leaves h (applied program choices r f (forks k b))
    splits_leave zero f k b x s = absurd (omega (arith, x.is.has_places, s.3))
    splits_leave (suc j) f k b x s = (
      j,
      refl,
      side-formed j f k _ _ x s.0 s.2,
      emptied-formed (record { is = side-formed j f k _ 0 x s.0 (block_below b s.1); runs = x.runs }),
      rw x.runs,
    )

    applied_leaves : {h : ℕ} {f : Frame} → Live h f → (e : Effect) → Sound f.task e → Leaves h (applied program choices r f e)
    applied_leaves {h} {f} x (stores v) s = record {
      registers_full = simp length-set x.is.registers_full;
      forks_full = x.is.forks_full;
      stack_full = x.is.stack_full;
      has_places = x.is.has_places;
      has_depth = x.is.has_depth;
      pc_below = s.1;
      its_status_fits = rw x.runs;
      its_forks_fit = x.is.its_forks_fit;
      values_fit = λ i.
          set_keeps (λ (k : Register). value_fits program k.value ≡ true) f.registers r i (record { value = v }) zero_register s.0
          (x.is.values_fit i);
      height_most = x.is.height_most;
      its_entries_fit = x.is.its_entries_fit;
    }
    applied_leaves x continues s = onward-formed x s
    applied_leaves {h} {f} x (pushes v) s =
        stack-keeps (Is h) (has_place f.task) _ _ (faulted-formed 42 x.is s.1) λ e.
        pushed-formed v (record { is = onward-formed x s.2; runs = x.runs }) s.0 (omega (arith, ltb-true f.task.height _ e))
    applied_leaves {h} {f} x pops s =
        stack-keeps (Is h) (has_value f.task) _ _ (faulted-formed 43 x.is s.0) λ e.
        popped-formed r (record { is = onward-formed x s.1; runs = x.runs }) (omega (arith, ltb-true _ f.task.height e))
    applied_leaves {h} {f} x (enters b) s =
        entered-keeps (λ t. Is h (with_task t f)) program choices b f.task (moved-formed _ 0 x (block_below _ (ok.block b s).label_below))
        (moved-formed _ _ x (block_below b s))
    applied_leaves {h} {f} x (forks k b) s = splits_leave h f k b x s
    applied_leaves {h} {f} x waits s = ended-formed Waiting x.is (true_both (lt-ltb 0 f.task.depth s) refl)
    applied_leaves x halts s = ended-formed Halted x.is (true_both s refl)
    applied_leaves x (faults n) s = faulted-formed n x.is s

  -- ---- the instructions, with the values s and v

  module _ (words : List ℤ) (choices : Choices) (t : Task) (s v : Value) (fs : value_fits program s ≡ true) (fv : value_fits program v ≡ true) where
    asks : (z : Bool) (n : ℕ) (after : Effect) → Listed program.version n → (z ≡ true → Sound t after) → Sound t (asked z n after)
    asks z n after l g = asked-keeps (Sound t) z n after l g

    -- both operands integers
    computes : (after : ℤ → ℤ → Effect) → ((a b : ℤ) → Sound t (after a b)) → Sound t (integer s 31 λ a. integer v 31 (after a))
    computes after g = integer-keeps (Sound t) s 31 _ refl λ a e. integer-keeps (Sound t) v 31 _ refl λ b e. g a b

    sound-jump : Sound t (label v 34 enters)
    sound-jump = label-keeps (Sound t) v 34 _ refl λ b e. ltb-true b program.blocks (rw e at fv)

    sound_branch : (z : Bool) → t.pc + 1 < instruction_count cells → Sound t (cond z (label v 34 enters) continues)
    sound_branch true next = sound-jump
    sound_branch false next = next

    sound_meet : (k : Fork) → is_target program k.continuation ≡ true → fits k t.depth t.forks ≡ true
        → Sound t (cond (eqb k.depth t.depth) (enters k.continuation) waits)
    sound_meet k target fit = go (eqb k.depth t.depth) refl
      where
        shallow : k.depth ≤ t.depth
        shallow = (fits_is k t.depth t.forks fit).shallow

        go : (z : Bool) → eqb k.depth t.depth ≡ z → Sound t (cond z (enters k.continuation) waits)
        go true e = target_below program k.continuation target
        go false e = let apart = eqb-false k.depth t.depth e in omega (arith, shallow)

    sound : (op : Op) → After (t.pc + 1 < instruction_count cells) (lasts op) → (is_second op ≡ true → program.version ≡ 2)
        → Sound t (effect_of program words choices s v (active_of t) t.forks op)
    sound move next new = (fv, next)
    sound plus next new = computes _ λ a b. (refl, next)
    sound minus next new = computes _ λ a b. (refl, next)
    sound times next new = computes _ λ a b. (refl, next)
    sound divide next new = computes _ λ a b. asks _ _ _ refl λ e. (refl, next)
    sound modulo next new = computes _ λ a b. asks _ _ _ refl λ e. (refl, next)
    sound less next new = computes _ λ a b. (truth-fits program (lt_z a b), next)
    sound equal next new = computes _ λ a b. (truth-fits program (eq_z a b), next)
    sound word next new = integer-keeps (Sound t) v 31 _ refl λ i e. asks _ _ _ refl λ e. (refl, next)
    sound if_jump next new = integer-keeps (Sound t) s 31 _ refl λ a e. sound_branch (eq_z a (pos 0)) next
    sound jralloc next new = label-keeps (Sound t) v 35 _ refl λ b e. asks _ _ _ refl λ target.
        (target_from program b (ltb-true b program.blocks (rw e at fv)) target, next)
    sound fork next new = record_keeps (Sound t) s 36 _ refl λ k e. asks _ _ _ refl λ fit.
        label-keeps (Sound t) v 34 _ refl λ b f. asks _ _ _ refl λ wide.
        (rw e at fs, ltb-true b program.blocks (rw f at fv), next, leb-true 2 t.places wide)
    sound jump next new = sound-jump
    sound halt next new = asks _ _ _ refl λ e. e
    sound meet next new = record_keeps (Sound t) v 36 _ refl λ k e. asks _ _ _ refl λ fit. sound_meet k (rw e at fv) fit
    sound push next new = (fv, (second-listed program.version (new refl)).0, next)
    sound pop next new = ((second-listed program.version (new refl)).1, next)
    sound unknown next new = absurd next

  step_leaves : (words : List ℤ) (choices : Choices) (h : ℕ) (f : Frame) → Is h f → running f ≡ true → Leaves h (step program words choices f)
  unfolding step
  step_leaves words choices h f x runs =
      let i = ok.instruction f.task.pc x.pc_below in
      let e = instruction_of cells f.task.pc in
      let t = counted f.task in
      applied_leaves choices e.r (record { is = counted-formed; runs = running_is f.task.status runs })
      (effect_of program words choices (register f e.s) (operand f e) (active_of t) t.forks (get_or opcodes e.opcode unknown))
      (sound words choices t (register f e.s) (operand f e)
      (x.values_fit e.s)
      (operand-fits program f e x.values_fit i.label_below)
      (get_or opcodes e.opcode unknown)
      (after (f.task.pc + 1 < instruction_count cells) program.version e.opcode i.opcode_least i.opcode_most i.next_below)
      (second program.version e.opcode i.opcode_most))
    where
      counted-formed : Is h (with_task (counted f.task) f)
      counted-formed = record {
        registers_full = x.registers_full;
        forks_full = x.forks_full;
        stack_full = x.stack_full;
        has_places = x.has_places;
        has_depth = x.has_depth;
        pc_below = x.pc_below;
        its_status_fits = rw (running_is f.task.status runs);
        its_forks_fit = x.its_forks_fit;
        values_fit = x.values_fit;
        height_most = x.height_most;
        its_entries_fit = x.its_entries_fit;
      }

  -- a running task goes on, or ends, with the places that it had
  pub step_one : (words : List ℤ) (choices : Choices) (h : ℕ) (f g : Frame) → Is h f → running f ≡ true → step program words choices f ≡ one g → Is h g
  step_one words choices h f g x r e = subst (Leaves h) e (step_leaves words choices h f x r)

  -- or makes two tasks of half its places each, the parent's running
  pub step_two : (words : List ℤ) (choices : Choices) (h : ℕ) (f p c : Frame) → Is h f → running f ≡ true → step program words choices f ≡ two p c
      → (j : ℕ) × (h ≡ suc j) × Is j p × Is j c × (running p ≡ true)
  step_two words choices h f p c x r e = subst (Leaves h) e (step_leaves words choices h f x r)
