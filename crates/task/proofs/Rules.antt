-- The rules of specs/Rules.antt.
use mathlib.Core.Path.{◌≡◌, refl, sym, ap, subst, ◌∙◌}
use mathlib.Core.Bool.{Bool, true, false, not, cond, ◌&&◌}
use mathlib.Core.List.{List}
use mathlib.Core.Option.{Option, none, some}
use Prim.Native.Nat.{ℕ, ◌+◌, ◌-◌, ◌<◌}
use lib.Dec.{eqb, leb}
use lib.IntN.{ℤ, pos}
use lib.ListN.{length, get_or, set, length-set}
use lib.Seq.{ext_get_or, get_or-set_same, get_or-set_other}
use lib.Signed.{lt_z}
use borrow.Author.Tests.{eqb-true, eqb-false, leb-true, not-true, eq-eqb, ne_eqb, le-leb, lt-ltb, le-ltb}
use native.Mathlib.Omega.{arith}
use Rattle.facts.proofs.Tests.{both_true, true_both, never}
use Rattle.int64.specs.Equal.{eq_z}
use Rattle.image.specs.declared.Instruction.{Instruction}
use Rattle.image.specs.Program.{Program}
use Rattle.agreement.specs.Plain.{Stepped, one, two}
use Rattle.task.specs.declared.Value.{Value}
use Rattle.task.specs.declared.Value.TheVariants.{Int}
use Rattle.task.specs.declared.Register.{Register}
use Rattle.task.specs.declared.Status.{Status}
use Rattle.task.specs.declared.Status.TheVariants.{Faulted}
use Rattle.task.specs.declared.Fork.{Fork}
use Rattle.task.specs.declared.Active.{Active}
use Rattle.task.specs.declared.Task.{Task}
use Rattle.task.specs.declared.Frame.{Frame}
use Rattle.task.specs.Frames.{zero_register, empty_stack, zero_fork, fault_of}
use Rattle.task.specs.Choices.{Choices, chosen}
use Rattle.task.specs.Values.{truth}
use Rattle.task.specs.Effect.{Effect, stores, continues, pushes, pops, enters, forks, waits, halts, faults, asked, fits, unknown, opcodes, effect_of}
use Rattle.task.specs.Step.{register, operand, active_of, counted, moved_to, with_task, onward, faulted, promotes, has_place, has_value, pushed, popped, applied, step, first_fault, joined_by, join}
use Rattle.task.specs.Rules.{JoinRules, SideRules, StackRules, Leaves, Limits, Due, EntryRules, Entrances, Comparisons, TaskRules}
use Rattle.task.proofs.Fitting.{is_fits}

-- ---- Joins

module _ (program : Program) (p c : Frame) where
  -- the continuation of the parent's innermost fork
  abbrev continuation : ℕ
  continuation = (get_or p.task.forks (p.task.depth - 1) zero_fork).continuation

  status_by : Option ℕ → Status
  status_by o = (joined_by o program continuation p c).task.status

  joined_by_lem : (a b : Option ℕ) → fault_of p.task.status ≡ a → fault_of c.task.status ≡ b
      → join program p c ≡ joined_by (first_fault a b) program continuation p c
  unfolding join
  joined_by_lem a b x y =
      ap (λ o. joined_by (first_fault o (fault_of c.task.status)) program continuation p c) x
      ∙ ap (λ o. joined_by (first_fault a o) program continuation p c) y

  by-faults : (a b : Option ℕ) → fault_of p.task.status ≡ a → fault_of c.task.status ≡ b → (join program p c).task.status ≡ status_by (first_fault a b)
  unfolding status_by
  by-faults a b x y = ap (λ (f : Frame). f.task.status) (joined_by_lem a b x y)

  -- a joined task that has faulted has no stack
  emptied-by : (o : Option ℕ) (n : ℕ) → (joined_by o program continuation p c).task.status ≡ Faulted n
      → ((joined_by o program continuation p c).stack ≡ empty_stack) × ((joined_by o program continuation p c).task.height ≡ 0)
  emptied-by none n e = let z : ◌≡◌ {A = ℕ} 0 1 = cc in absurd (omega arith)
  emptied-by (some m) n e = (refl, refl)

  -- what is so with a fault and without one
  by_both : {A : Type 0} (of : Task → A) (a : A) → ((o : Option ℕ) → of (joined_by o program continuation p c).task ≡ a) → of (join program p c).task ≡ a
  unfolding join
  by_both of a h = h (first_fault (fault_of p.task.status) (fault_of c.task.status))

  emptied : (n : ℕ) → (join program p c).task.status ≡ Faulted n → ((join program p c).stack ≡ empty_stack) × ((join program p c).task.height ≡ 0)
  unfolding join
  emptied n e = emptied-by (first_fault (fault_of p.task.status) (fault_of c.task.status)) n e

  join-rules : JoinRules program p c
  unfolding status_by
  join-rules = record {
    parent_fault_first = λ n e. by-faults (some n) (fault_of c.task.status) (ap fault_of e) refl;
    child_fault_else = λ n e f. by-faults none (some n) e (ap fault_of f);
    no_fault_runs = λ e f. by-faults none none e f;
    all_places = by_both (λ t. t.places) _ (elim [ none ↦ refl | some n ↦ refl ]);
    larger_span = by_both (λ t. t.span) _ (elim [ none ↦ refl | some n ↦ refl ]);
    counter_cleared = by_both (λ t. t.counter) _ (elim [ none ↦ refl | some n ↦ refl ]);
    parent_stack = λ e f. ap (λ (g : Frame). g.stack) (joined_by_lem none none e f);
    parent_height = λ e f. ap (λ (g : Frame). g.task.height) (joined_by_lem none none e f);
    faulted_empty = emptied;
  }

-- ---- Stacks

-- what is so of the two sides, where there are two
abbrev Sides : Frame → Stepped Frame → Type 0
Sides f (one g) = Unit {0}
Sides f (two p c) = SideRules f p c

module _ (program : Program) (words : List ℤ) (choices : Choices) where
  sides-applied : (r : ℕ) (f : Frame) (e : Effect) → Sides f (applied program choices r f e)
  sides-applied r f (stores v) = tt
  sides-applied r f continues = tt
  sides-applied r f (pushes v) = tt
  sides-applied r f pops = tt
  sides-applied r f (enters b) = tt
  sides-applied r f (forks k b) = record { parent_keeps = (refl, refl); child_empty = (refl, refl) }
  sides-applied r f waits = tt
  sides-applied r f halts = tt
  sides-applied r f (faults n) = tt

  -- an instruction that is counted leaves the stack
  as_before : (f : Frame) (s : Stepped Frame) → Sides (with_task (counted f.task) f) s → Sides f s
  as_before f (one g) x = tt
  as_before f (two p c) x = record { parent_keeps = x.parent_keeps; child_empty = x.child_empty }

  sides-step : (f : Frame) → Sides f (step program words choices f)
  unfolding step
  sides-step f =
      let e = program.instruction f.task.pc in
      let t = counted f.task in
      let x = effect_of program words choices (register f e.s) (operand f e) (active_of t) t.forks (get_or opcodes e.opcode unknown) in
      as_before f (applied program choices e.r (with_task t f) x) (sides-applied e.r (with_task t f) x)

  side-rules : (f p c : Frame) → step program words choices f ≡ two p c → SideRules f p c
  side-rules f p c e = subst (Sides f) e (sides-step f)

-- what is stored over an entry and taken away again leaves the list
set_back : (l : List Register) (n : ℕ) (a b : Register) → n < length l → get_or l n zero_register ≡ b → set (set l n a) n b ≡ l
set_back l n a b inside e =
    ext_get_or zero_register (set (set l n a) n b) l (length-set (set l n a) n b ∙ length-set l n a) (λ i p. go i (eqb i n) refl)
  where
    go : (i : ℕ) (t : Bool) → eqb i n ≡ t → get_or (set (set l n a) n b) i zero_register ≡ get_or l i zero_register
    go i true t = rw (eqb-true i n t, e) (get_or-set_same (set l n a) n b zero_register (omega (arith, length-set l n a)))
    go i false t =
        get_or-set_other (set l n a) n i b zero_register (eqb-false i n t) ∙ get_or-set_other l n i a zero_register (eqb-false i n t)

stack-rules : (r : ℕ) (v : Value) (f : Frame) → f.task.height < length f.stack
    → get_or f.stack f.task.height zero_register ≡ zero_register → StackRules r v f
stack-rules r v f inside free =
    let k : Register = record { value = v } in
    let back : f.task.height + 1 - 1 ≡ f.task.height = omega arith in
    record {
      value_back =
          ap (λ n. set f.registers r (get_or (set f.stack f.task.height k) n zero_register)) back
          ∙ ap (set f.registers r) (get_or-set_same f.stack f.task.height k zero_register inside);
      stack_back =
          ap (λ n. set (set f.stack f.task.height k) n zero_register) back ∙ set_back f.stack f.task.height k zero_register inside free;
      height_back = back;
    }

-- a push or a pop, after its question
module _ (program : Program) (words : List ℤ) (choices : Choices) (f : Frame) where
  abbrev x : Instruction
  x = program.instruction f.task.pc

  -- the frame that has counted the instruction
  abbrev g : Frame
  g = with_task (counted f.task) f

  abbrev by-opcode : ℕ → Stepped Frame
  by-opcode n =
      applied program choices x.r g
      (effect_of program words choices (register f x.s) (operand f x) (active_of g.task) f.task.forks (get_or opcodes n unknown))

  abbrev pushed-by : Bool → Stepped Frame
  pushed-by z = one (cond z (pushed (operand f x) (onward g)) (faulted 42 g))

  abbrev popped-by : Bool → Stepped Frame
  popped-by z = one (cond z (popped x.r (onward g)) (faulted 43 g))

  push_step : x.opcode ≡ 16 → (z : Bool) → has_place f.task ≡ z → pushed-by z ≡ step program words choices f
  unfolding step
  push_step o z e = ap pushed-by (sym e) ∙ ap by-opcode (sym o)

  pop_step : x.opcode ≡ 17 → (z : Bool) → has_value f.task ≡ z → popped-by z ≡ step program words choices f
  unfolding step
  pop_step o z e = ap popped-by (sym e) ∙ ap by-opcode (sym o)

  stack_limits : Limits program words choices f
  stack_limits = record {
    push_below = λ o h. subst (Leaves _ _) (push_step o true (lt-ltb f.task.height _ (omega arith))) (refl, refl);
    push_full = λ o h. subst (Leaves _ _) (push_step o false (le-ltb f.task.height _ (omega arith))) (refl, refl);
    pop_above = λ o h. subst (Leaves _ _) (pop_step o true (lt-ltb _ f.task.height (omega arith))) (refl, refl);
    pop_empty = λ o h. subst (Leaves _ _) (pop_step o false (le-ltb _ f.task.height (omega arith))) (refl, refl);
  }

-- ---- Entering a block

module _ (program : Program) (interval b : ℕ) (t : Task) where
  abbrev test : Bool
  test = promotes program (chosen interval) b t.counter t.places

  when_due : Due program interval b t → test ≡ true
  unfolding promotes
  when_due d =
      true_both (eq-eqb _ _ d.is_ready)
      (true_both
      (true_both (ap not (ne_eqb _ _ d.has_beat)) (le-leb interval t.counter d.is_reached))
      (le-leb 2 t.places d.two_places))

  is_due : test ≡ true → Due program interval b t
  unfolding promotes
  is_due h =
      let ready = both_true (eqb (program.block b).annotation 1) _ h in
      let two = both_true (not (eqb interval 0) && leb interval t.counter) (leb 2 t.places) ready.1 in
      let beat = both_true (not (eqb interval 0)) (leb interval t.counter) two.0 in
      record {
        is_ready = eqb-true _ _ ready.0;
        has_beat = eqb-false _ _ (not-true _ beat.0);
        is_reached = leb-true _ _ beat.1;
        two_places = leb-true _ _ two.1;
      }

  -- by the test's answer
  abbrev by : Bool → Task
  by z = cond z (moved_to (program.block (program.block b).label).first 0 t) (moved_to (program.block b).first t.counter t)

  abbrev u : Task
  u = by test

  stays : test ≡ false → (u.counter ≡ t.counter) × (u.pc ≡ (program.block b).first)
  stays e = (ap (λ z. (by z).counter) e, ap (λ z. (by z).pc) e)

  entry-rules : EntryRules program interval b t u
  unfolding promotes
  entry-rules = record {
    promoted = λ d. (ap (λ z. (by z).counter) (when_due d), ap (λ z. (by z).pc) (when_due d));
    not_promoted = λ n. stays (never test (λ h. n (is_due h)));
    target_stays = λ e. stays (rw e);
  }

-- ---- The table

module _ (program : Program) (words : List ℤ) (choices : Choices) (t : Active) (opened : List Fork) where
  entrances : (s : Value) (b : ℕ) → Entrances program words choices t opened s b
  unfolding asked
  entrances s b = record { by_jump = refl; by_if_jump = refl; by_join = rw (own_depth_fits, eq-eqb t.depth t.depth refl) }
    where
      own_depth_fits : fits (record { continuation = b; depth = t.depth }) t.depth opened ≡ true
      own_depth_fits = is_fits _ _ _ (record { shallow = omega arith; belongs = λ i a c. absurd (omega arith) })

  comparisons : (a b : ℤ) → Comparisons program words choices t opened a b
  unfolding asked
  comparisons a b = record { less_is = by-truth (lt_z a b); equal_is = by-truth (eq_z a b) }
    where
      by-truth : (z : Bool) → stores (truth z) ≡ stores (Int (cond z (pos 0) (pos 1)))
      by-truth true = refl
      by-truth false = refl

pub task-rules : TaskRules
task-rules = record {
  joins = join-rules;
  enters_block = entry-rules;
  one_entrance = entrances;
  compares = comparisons;
  limits = stack_limits;
  sides = side-rules;
  gives_back = stack-rules;
}
