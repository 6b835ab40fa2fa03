-- An instruction carried out on small values, and what it left put into the state, is a pick's work.
use mathlib.Core.Path.{◌≡◌, refl, sym, ap, ap₂, ◌∙◌}
use mathlib.Core.Bool.{Bool, true, false, cond}
use mathlib.Core.List.{List}
use Prim.Native.Nat.{ℕ, ◌+◌, ◌*◌, ◌-◌, ◌/◌, ◌^◌, ◌<◌, ◌≤◌}
use lib.Dec.{ltb}
use lib.Seq.{sets}
use borrow.Author.Tests.{lt-ltb, le-ltb}
use Rattle.facts.proofs.Tests.{clash, by-below}
use native.Mathlib.Nat.{pow-suc}
use lib.Pow.{pow_pos}
use native.Mathlib.Omega.{arith}
use lib.IntN.{ℤ, pos}
use lib.ListN.{get_or, set}
use Rattle.task.specs.Choices.{chosen}
use Rattle.agreement.specs.Plain.{one}
use Rattle.agreement.proofs.SlotLaws.{carry-two}
use Rattle.image.specs.declared.Instruction.{Instruction}
use Rattle.image.specs.Layout.{instruction_of, program_of}
use Rattle.task.specs.declared.Value.{Value}
use Rattle.task.specs.declared.Value.TheVariants.{Int}
use Rattle.task.specs.declared.Status.{Status}
use Rattle.task.specs.declared.Status.TheVariants.{Running}
use Rattle.task.specs.declared.Register.{Register}
use Rattle.task.specs.declared.Fork.{Fork}
use Rattle.task.specs.declared.Task.{Task}
use Rattle.task.specs.declared.Frame.{Frame}
use Rattle.task.specs.declared.Kind.{Kind}
use Rattle.task.specs.declared.Kind.TheVariants.{Stores, Goes, Pushes, Pops, Waits, Halts, Faults, Forks}
use Rattle.task.specs.declared.Executed.{Executed}
use Rattle.task.specs.Frames.{running, zero_register, zeros, stack_length, empty_stack, vacant}
use Rattle.task.specs.Values.{record_of}
use Rattle.task.specs.Step.{register, operand, active_of, counted, moved_to, ended, with_height, with_task, emptied, step}
use Rattle.task.specs.Execute.{executed}
use Rattle.task.specs.Stretches.{reads}
use Rattle.task.proofs.StepKeeps.{running_is}
use Rattle.task.proofs.Executing.{after, parent_side, child_side, made_by, made, step-executed}
use Rattle.drive.specs.declared.State.{State}
use Rattle.drive.specs.Writes.{with_task_at}
use Rattle.drive.specs.Moves.{with_arrays, filling, dropping, moved}
use Rattle.drive.specs.Slots.{at, put, ticked, slots_of}
use Rattle.drive.specs.Issue.{issued}
use Rattle.turns.specs.Kinds.{runs_on, stores_it, status_of, height_left, stacks_it, pops_it, stack_no, entry_of, restacked_by, side_of}
use Rattle.turns.specs.Moving.{faults, fork_moves, end_moves}
use Rattle.turns.proofs.LeafLaws.{pop_some, push-place}
use Rattle.drive.proofs.Copying.{drop_all}
use Rattle.drive.proofs.PlanLaws.{fork-moved, by_fault, end_moved}
use Rattle.drive.proofs.InPlace.{kept, changed, stored_at, put-task, put-stored, put_stacked, entry_at}
use Rattle.drive.proofs.RankLaws.{rank-small}
use Rattle.drive.proofs.Models.{Allowed, laws_hold}
use Rattle.drive.proofs.ShapeLaws.{Fits}
use Rattle.drive.proofs.ShapeSlots.{running-vacant}
use Rattle.drive.proofs.Popping.{pop-value}
use Rattle.drive.proofs.Stacking.{Stacked, formed_stacked}
use Rattle.drive.proofs.Carrying.{stand, goes-on-alone}

-- ---- kinds of steps

stores_kind : (kind : Kind) → stores_it kind ≡ true → kind ≡ Stores
stores_kind Stores h = refl
stores_kind Goes h = clash h refl
stores_kind Pushes h = clash h refl
stores_kind Pops h = clash h refl
stores_kind Waits h = clash h refl
stores_kind Halts h = clash h refl
stores_kind Faults h = clash h refl
stores_kind Forks h = clash h refl

goes-kind : (kind : Kind) → runs_on kind ≡ true → stores_it kind ≡ false → kind ≡ Goes
goes-kind Stores h s = clash refl s
goes-kind Goes h s = refl
goes-kind Pushes h s = clash h refl
goes-kind Pops h s = clash h refl
goes-kind Waits h s = clash h refl
goes-kind Halts h s = clash h refl
goes-kind Faults h s = clash h refl
goes-kind Forks h s = clash h refl

-- what was read, and what came of it
pub record Fetched (cells : List ℕ) (words : List ℤ) (m : State) (k : ℕ) (x : Instruction) (s v : Value) (e : Executed) : Type 0 where
  pub instruction : x ≡ instruction_of cells (at m k).task.pc
  pub left_value : s ≡ register (at m k) x.s
  pub right_value : v ≡ operand (at m k) x
  pub outcome : e ≡ executed (program_of cells) words (chosen m.interval) x s v (active_of (at m k).task) (at m k).task.forks

module _ {cells : List ℕ} {words : List ℤ} {m : State} {k : ℕ} {x : Instruction} {s v : Value} {e : Executed}
    (allowed : Allowed cells m.interval m.places) (fits : Fits cells m.interval m.places m) (below : k < m.places) (runs : running (at m k) ≡ true)
    (got : Fetched cells words m k x s v e) where
  abbrev f : Frame
  f = at m k

  abbrev did : Instruction → Value → Value → Executed
  did y a b = executed (program_of cells) words (chosen m.interval) y a b (active_of f.task) f.task.forks

  -- the outcome, of what the definition reads
  at_source : did x s v ≡ did (instruction_of cells f.task.pc) (register f (instruction_of cells f.task.pc).s) (operand f (instruction_of cells f.task.pc))
  at_source =
      ap₂ (λ (a b : Value). did x a b) got.left_value got.right_value
      ∙ ap (λ (y : Instruction). did y (register f y.s) (operand f y)) got.instruction

  steps : step (program_of cells) words (chosen m.interval) f ≡ made f x e
  steps =
      step-executed (program_of cells) words (chosen m.interval) f ∙ ap (λ (o : Executed). made f (instruction_of cells f.task.pc) o) (sym at_source)
      ∙ ap₂ (λ (y : Instruction) (o : Executed). made f y o) (sym got.instruction) (sym got.outcome)

  steps-by : (kind : Kind) → e.kind ≡ kind → step (program_of cells) words (chosen m.interval) f ≡ made_by kind f x.r e
  steps-by kind h = steps ∙ ap (λ (o : Kind). made_by o f x.r e) h

  -- ---- the task runs on

  pub stores_issued : stores_it e.kind ≡ true → x.r < 16 → {v : Register} → v.value ≡ e.value
      → ticked (stored_at m k (after e f.task) x.r v) ≡ issued cells words m k
  stores_issued h small {v} holds =
      let g : Frame = record { task = after e f.task; registers = set f.registers x.r (record { value = e.value }); stack = f.stack } in
      ap (λ (o : Register). ticked (stored_at m k (after e f.task) x.r o)) (λ i. record { value = holds i })
      ∙ ap ticked (sym (goes-on-alone allowed words m k fits below runs g (steps-by Stores (stores_kind e.kind h)) runs
      ∙ put-stored m k (after e f.task) x.r (record { value = e.value }) small))

  pub goes-issued : runs_on e.kind ≡ true → stores_it e.kind ≡ false → ticked (with_task_at m k (after e f.task)) ≡ issued cells words m k
  goes-issued h no_store =
      ap ticked (sym (goes-on-alone allowed words m k fits below runs (with_task (after e f.task) f) (steps-by Goes (goes-kind e.kind h no_store)) runs
      ∙ put-task m k (after e f.task)))

  -- what its stack has
  pub on_stack : Stacked f
  on_stack = let s = stand allowed words m k fits below runs in formed_stacked (program_of cells) _ s.height f s.formed

  -- ---- a push or a pop, after which it runs on

  -- the frame that it leaves
  abbrev stacked_frame : Bool → Frame
  stacked_frame pops = record {
    task = restacked_by pops f.task e.pc e.counter;
    registers = cond pops (set f.registers x.r (get_or f.stack (f.task.height - 1) zero_register)) f.registers;
    stack = set f.stack (entry_of pops f.task.height) (record { value = e.value });
  }

  stacks-steps : stacks_it e.kind ≡ true → stack_no (pops_it e.kind) f.task.height ≡ 0
      → step (program_of cells) words (chosen m.interval) f ≡ one (stacked_frame (pops_it e.kind))
  stacks-steps stacks asked = steps ∙ go e.kind refl stacks asked
    where
      go : (kind : Kind) → e.kind ≡ kind → stacks_it kind ≡ true → stack_no (pops_it kind) f.task.height ≡ 0
          → made_by kind f x.r e ≡ one (stacked_frame (pops_it kind))
      go Stores q s a = clash s refl
      go Goes q s a = clash s refl
      go Pushes q s a = rw (lt-ltb f.task.height stack_length (push-place false f.task.height refl a))
      go Pops q s a =
          let is : pops_it e.kind ≡ true = ap pops_it q in
          let left : e.value ≡ Int (pos 0) =
          ap (λ (o : Executed). o.value) got.outcome
          ∙ pop-value (program_of cells) words (chosen m.interval) _ _ _ _ _ (sym (ap (λ (o : Executed). pops_it o.kind) got.outcome) ∙ is) in
          rw (lt-ltb 0 f.task.height (pop_some true f.task.height refl a))
          (ap (λ (o : Value). one (record {
            task = (stacked_frame true).task;
            registers = (stacked_frame true).registers;
            stack = set f.stack (f.task.height - 1) (record { value = o });
          })) (sym left))
      go Waits q s a = clash s refl
      go Halts q s a = clash s refl
      go Faults q s a = clash s refl
      go Forks q s a = clash s refl

  -- a pop's value goes to its register
  abbrev pub bank_after : Bool → ℕ → List Register
  bank_after pops i = cond pops (set m.bank (16 * k + x.r) (get_or m.stacks (32 * k + i) zero_register)) m.bank

  pub stacks-issued : stacks_it e.kind ≡ true → x.r < 16 → {pops : Bool} → pops ≡ pops_it e.kind → stack_no pops f.task.height ≡ 0
      → {i : ℕ} → i ≡ entry_of pops f.task.height → i < stack_length → {v : Register} → v.value ≡ e.value
      → {t : Task} → t ≡ restacked_by pops f.task e.pc e.counter → {bank : List Register} → bank ≡ bank_after pops i
      → ticked (with_arrays m bank (set m.stacks (32 * k + i) v) (set m.tasks k t)) ≡ issued cells words m k
  stacks-issued stacks small {pops} is asked {i} there inside {v} holds {t} record_is {bank} banked =
      let g = stacked_frame pops in
      let step_is : step (program_of cells) words (chosen m.interval) f ≡ one g =
      stacks-steps stacks (ap (λ (b : Bool). stack_no b f.task.height) (sym is) ∙ asked) ∙ ap (λ (b : Bool). one (stacked_frame b)) (sym is) in
      let put_is = put_stacked m k g.task (entry_of pops f.task.height) (record { value = e.value }) g.registers
      (bank_after pops (entry_of pops f.task.height)) (omega (arith, there, inside)) (made_bank pops) in
      ap₂ (λ (b : List Register) (o : Task). ticked (with_arrays m b (set m.stacks (32 * k + i) v) (set m.tasks k o))) banked record_is
      ∙ ap₂ (λ (j : ℕ) (o : Register). ticked (with_arrays m (bank_after pops j) (set m.stacks (32 * k + j) o) (set m.tasks k g.task)))
      there (λ i. record { value = holds i })
      ∙ ap ticked (sym (goes-on-alone allowed words m k fits below runs g step_is runs ∙ put_is))
    where
      made_bank : (b : Bool) → sets m.bank (16 * k) (reads zero_register (stacked_frame b).registers 0 16) ≡ bank_after b (entry_of b f.task.height)
      made_bank true =
          changed m.bank (16 * k) 16 x.r _ small
          ∙ ap (set m.bank (16 * k + x.r)) (entry_at m k (f.task.height - 1) (omega (arith, on_stack.height_most)))
      made_bank false = kept m.bank (16 * k) 16

  -- ---- its side has ended

  -- the frame that it leaves: with this kind, and this number where it has faulted
  abbrev pub end_frame : Kind → ℕ → Frame
  end_frame kind n = record {
    task = with_height (height_left kind f.task.height) (ended (status_of kind n) (counted f.task));
    registers = cond (ltb 0 (faults kind)) zeros f.registers;
    stack = cond (ltb 0 (faults kind)) empty_stack f.stack;
  }

  pub ends-steps : runs_on e.kind ≡ false → stacks_it e.kind ≡ false → (e.kind ≡ Forks → ⊥)
      → step (program_of cells) words (chosen m.interval) f ≡ one (end_frame e.kind e.fault)
  ends-steps stops no_stack no-fork = steps ∙ go e.kind stops no_stack no-fork
    where
      go : (kind : Kind) → runs_on kind ≡ false → stacks_it kind ≡ false → (kind ≡ Forks → ⊥)
          → made_by kind f x.r e ≡ one (end_frame kind e.fault)
      go Stores h s o = clash refl h
      go Goes h s o = clash refl h
      go Pushes h s o = clash refl s
      go Pops h s o = clash refl s
      go Waits h s o = refl
      go Halts h s o = refl
      go Faults h s o = refl
      go Forks h s o = absurd (o refl)

  -- a push on a full stack, or a pop from an empty one
  pub refused-steps : stacks_it e.kind ≡ true → (stack_no (pops_it e.kind) f.task.height ≡ 0 → ⊥)
      → step (program_of cells) words (chosen m.interval) f ≡ one (end_frame Faults (stack_no (pops_it e.kind) f.task.height))
  refused-steps stacks refused = steps ∙ go e.kind stacks refused
    where
      h : ℕ
      h = f.task.height

      go : (kind : Kind) → stacks_it kind ≡ true → (stack_no (pops_it kind) h ≡ 0 → ⊥) → made_by kind f x.r e ≡ one (end_frame Faults (stack_no (pops_it kind) h))
      go Stores s a = clash s refl
      go Goes s a = clash s refl
      go Pushes s a = by-below h stack_length (λ z. absurd (a (rw (lt-ltb h stack_length z)))) (λ z. rw (le-ltb h stack_length z))
      go Pops s a = by-below 0 h (λ z. absurd (a (rw (lt-ltb 0 h z)))) (λ z. rw (le-ltb 0 h z))
      go Waits s a = clash s refl
      go Halts s a = clash s refl
      go Faults s a = clash s refl
      go Forks s a = clash s refl

  -- its record written and its moves made, that frame is put back
  pub end_put : (kind : Kind) (n : ℕ) {t : Task} → t ≡ (end_frame kind n).task
      → moved (end_moves k kind f.task.height) (ticked (with_task_at m k t)) ≡ ticked (put m k (end_frame kind n))
  end_put kind n {t} p =
      end_moved (ticked (with_task_at m k t)) k kind h ∙ by_fault Put kind (ap ticked (sym (put-task m k t))) emptied_all
      ∙ ap (λ (o : Task). ticked (put m k (framed (ltb 0 (faults kind)) o))) p
    where
      h : ℕ
      h = f.task.height

      framed : Bool → Task → Frame
      framed b o = record { task = o; registers = cond b zeros f.registers; stack = cond b empty_stack f.stack }

      cleared : State
      cleared = filling (ticked (with_task_at m k t)) k zeros 16

      Put : ℕ → Type 0
      Put z = cond (ltb 0 z) (dropping cleared k (z * h) 0) (ticked (with_task_at m k t)) ≡ ticked (put m k (framed (ltb 0 z) t))

      emptied_all : Put 1
      emptied_all =
          let all : 1 * h ≡ h = omega arith in
          ap (λ (z : ℕ). dropping cleared k z 0) all ∙ drop_all cleared k h (omega arith) on_stack.height_most on_stack.above_zero

  -- ---- it has forked

  -- there is room for an open fork more, and each side gets a place
  pub forks-room : e.kind ≡ Forks → (f.task.depth < 6) × (2 ≤ f.task.places)
  forks-room h =
      let laws = laws_hold allowed words in
      let s = stand allowed words m k fits below runs in
      let t = laws.step_two s.height f _ _ s.formed runs (steps-by Forks h) in
      let wide : 2 ^ s.height ≡ 2 ^ t.0 * 2 = ap (λ n. 2 ^ n) t.1 ∙ pow-suc 2 t.0 in (
        omega (arith, t.1, s.formed.has_depth, rank-small m.places allowed.its_places_allowed),
        omega (arith, wide, pow_pos t.0, s.formed.has_places),
      )

  -- both sides' records
  abbrev pub forked_at : Fork → State
  forked_at under =
      let parent = side_of f.task under e.pc e.counter in
      ticked (with_arrays m m.bank m.stacks
      (set (set m.tasks k parent) (k + f.task.places / 2) (with_height 0 (moved_to e.child 0 parent))))

  -- these written and the moves made
  pub forks-issued : {under : Fork} → e.kind ≡ Forks → under ≡ record_of e.value
      → moved (fork_moves k (k + f.task.places / 2)) (forked_at under) ≡ issued cells words m k
  forks-issued {under} h is =
      let half = f.task.places / 2 in
      let c = k + half in
      let on : Running ≡ f.task.status = sym (running_is f.task.status runs) in
      let parent : side_of f.task under e.pc e.counter ≡ parent_side e f.task = λ i. side-by (on i) (is i) in
      let two_places = (forks-room h).1 in
      -- the child's slot is vacant, so its stack is empty as it is
      let free : at m c ≡ vacant = running-vacant allowed m fits k below runs c (omega arith) (omega arith) in
      let still : m.stacks ≡ sets m.stacks (32 * c) (reads zero_register empty_stack 0 stack_length) =
      sym (kept m.stacks (32 * c) stack_length)
      ∙ ap (λ (g : Frame). sets m.stacks (32 * c) (reads zero_register g.stack 0 stack_length)) free in
      fork-moved (forked_at under) k c
      ∙ ap (λ (l : List Register). with_arrays (forked_at under) (sets m.bank (16 * c) (reads zero_register f.registers 0 16)) l (forked_at under).tasks) still
      ∙ ap (λ (o : State). ticked (put o c (emptied (with_task (moved_to e.child 0 (side_of f.task under e.pc e.counter)) f))))
      (sym (put-task m k (side_of f.task under e.pc e.counter)))
      ∙ ap (λ (p : Task). ticked (put (put m k (with_task p f)) c (emptied (with_task (moved_to e.child 0 p) f)))) parent
      ∙ ap ticked (sym (carry-two (slots_of (program_of cells)) (step (program_of cells) words (chosen m.interval)) m k
      (with_task (parent_side e f.task) f) (emptied (with_task (child_side e.child e f.task) f)) (steps-by Forks h)))
    where
      side-by : Status → Fork → Task
      side-by s u = record {
        status = s;
        places = f.task.places / 2;
        pc = e.pc;
        counter = e.counter;
        span = f.task.span + 1;
        depth = f.task.depth + 1;
        height = f.task.height;
        forks = set f.task.forks f.task.depth u;
      }
