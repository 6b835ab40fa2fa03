-- Rules that all evaluations share, so that no comparison of two would find them broken: whose fault a joined task has, what else a join
-- leaves, whose stack a task has, when a promotion comes and what it does to the counter, what a comparison gives, and what push and pop
-- do. `proofs/Rules.antt` proves them.
use Rattle.std.specs.Prelude.{◌≡◌, cond, List, ℕ, ◌+◌, ◌-◌, ◌≤◌, ◌<◌, max, ℤ, pos, length, get_or, set}
use Rattle.std.proofs.Math.Option.{none}
use Rattle.std.specs.Int.Signed.{lt_z}
use Rattle.int64.specs.Equal.{eq_z}
use Rattle.image.specs.Program.{Program}
use Rattle.agreement.specs.Plain.{Stepped, one, two}
use Rattle.task.specs.declared.Value.{Value}
use Rattle.task.specs.declared.Value.TheVariants.{Int, Label, Record}
use Rattle.task.specs.declared.Status.{Status}
use Rattle.task.specs.declared.Status.TheVariants.{Running, Faulted}
use Rattle.task.specs.declared.Fork.{Fork}
use Rattle.task.specs.declared.Active.{Active}
use Rattle.task.specs.declared.Task.{Task}
use Rattle.task.specs.declared.Frame.{Frame}
use Rattle.task.specs.Frames.{zero_register, empty_stack, fault_of}
use Rattle.task.specs.Choices.{Choices, chosen}
use Rattle.task.specs.Effect.{stores, enters, if_jump, jump, meet, less, equal, effect_of}
use Rattle.task.specs.Step.{entered, pushed, popped, step, join}

-- the task that two ended sides make
pub record JoinRules (program : Program) (p c : Frame) : Type 0 where
  -- the parent's fault if it has one, else the child's; without a fault it runs
  pub parent_fault_first : (n : ℕ) → p.task.status ≡ Faulted n → (join program p c).task.status ≡ Faulted n
  pub child_fault_else : (n : ℕ) → fault_of p.task.status ≡ none → c.task.status ≡ Faulted n → (join program p c).task.status ≡ Faulted n
  pub no_fault_runs : fault_of p.task.status ≡ none → fault_of c.task.status ≡ none → (join program p c).task.status ≡ Running
  pub all_places : (join program p c).task.places ≡ p.task.places + c.task.places
  pub larger_span : (join program p c).task.span ≡ max p.task.span c.task.span
  pub counter_cleared : (join program p c).task.counter ≡ 0
  -- a joined task has the parent's stack, a faulted one an empty stack
  pub parent_stack : fault_of p.task.status ≡ none → fault_of c.task.status ≡ none → (join program p c).stack ≡ p.stack
  pub parent_height : fault_of p.task.status ≡ none → fault_of c.task.status ≡ none → (join program p c).task.height ≡ p.task.height
  pub faulted_empty : (n : ℕ) → (join program p c).task.status ≡ Faulted n
      → ((join program p c).stack ≡ empty_stack) × ((join program p c).task.height ≡ 0)

-- the two sides that a fork makes of a task: the parent's keeps its stack, a child starts with an empty one
pub record SideRules (f p c : Frame) : Type 0 where
  pub parent_keeps : (p.stack ≡ f.stack) × (p.task.height ≡ f.task.height)
  pub child_empty : (c.stack ≡ empty_stack) × (c.task.height ≡ 0)

-- a push and then a pop: r has the value, and the stack is as it was
pub record StackRules (r : ℕ) (v : Value) (f : Frame) : Type 0 where
  pub value_back : (popped r (pushed v f)).registers ≡ set f.registers r (record { value = v })
  pub stack_back : (popped r (pushed v f)).stack ≡ f.stack
  pub height_back : (popped r (pushed v f)).task.height ≡ f.task.height

-- an instruction leaves one task, of this status and this height
abbrev pub Leaves : Status → ℕ → Stepped Frame → Type 0
Leaves s height (one g) = (g.task.status ≡ s) × (g.task.height ≡ height)
Leaves s height (two p c) = ⊥

-- a stack has 32 values: 42 for a push (16) on a full one, 43 for a pop (17) from an empty one; else the task has one more, or one less
pub record Limits (program : Program) (words : List ℤ) (choices : Choices) (f : Frame) : Type 0 where
  pub push_below : (program.instruction f.task.pc).opcode ≡ 16 → f.task.height < 32
      → Leaves f.task.status (f.task.height + 1) (step program words choices f)
  pub push_full : (program.instruction f.task.pc).opcode ≡ 16 → f.task.height ≡ 32 → Leaves (Faulted 42) 0 (step program words choices f)
  pub pop_above : (program.instruction f.task.pc).opcode ≡ 17 → 0 < f.task.height
      → Leaves f.task.status (f.task.height - 1) (step program words choices f)
  pub pop_empty : (program.instruction f.task.pc).opcode ≡ 17 → f.task.height ≡ 0 → Leaves (Faulted 43) 0 (step program words choices f)

-- what a promotion takes of a task that enters block b: the beat comes on the interval, not after it
pub record Due (program : Program) (interval b : ℕ) (t : Task) : Type 0 where
  pub is_ready : (program.block b).annotation ≡ 1
  pub has_beat : interval ≡ 0 → ⊥
  pub is_reached : interval ≤ t.counter
  pub two_places : 2 ≤ t.places

-- the task u that has entered block b
pub record EntryRules (program : Program) (interval b : ℕ) (t u : Task) : Type 0 where
  -- the counter becomes 0 and control goes to the handler
  pub promoted : Due program interval b t → (u.counter ≡ 0) × (u.pc ≡ (program.block (program.block b).label).first)
  -- otherwise the counter stays and control enters the block
  pub not_promoted : (Due program interval b t → ⊥) → (u.counter ≡ t.counter) × (u.pc ≡ (program.block b).first)
  -- a join enters join targets only (35), so it never promotes
  pub target_stays : (program.block b).annotation ≡ 2 → (u.counter ≡ t.counter) × (u.pc ≡ (program.block b).first)

module _ (program : Program) (words : List ℤ) (choices : Choices) (t : Active) (opened : List Fork) where
  -- the three ways of entering a block have one effect
  pub record Entrances (s : Value) (b : ℕ) : Type 0 where
    pub by_jump : effect_of program words choices s (Label b) t opened jump ≡ enters b
    pub by_if_jump : effect_of program words choices (Int (pos 0)) (Label b) t opened if_jump ≡ enters b
    pub by_join : effect_of program words choices s (Record b t.depth) t opened meet ≡ enters b

  -- 0 when true, 1 when false
  pub record Comparisons (a b : ℤ) : Type 0 where
    pub less_is : effect_of program words choices (Int a) (Int b) t opened less ≡ stores (Int (cond (lt_z a b) (pos 0) (pos 1)))
    pub equal_is : effect_of program words choices (Int a) (Int b) t opened equal ≡ stores (Int (cond (eq_z a b) (pos 0) (pos 1)))

pub record TaskRules : Type 0 where
  pub joins : (program : Program) (p c : Frame) → JoinRules program p c
  pub enters_block : (program : Program) (interval b : ℕ) (t : Task) → EntryRules program interval b t (entered program (chosen interval) b t)
  pub one_entrance : (program : Program) (words : List ℤ) (choices : Choices) (t : Active) (opened : List Fork) (s : Value) (b : ℕ)
      → Entrances program words choices t opened s b
  pub compares : (program : Program) (words : List ℤ) (choices : Choices) (t : Active) (opened : List Fork) (a b : ℤ)
      → Comparisons program words choices t opened a b
  pub limits : (program : Program) (words : List ℤ) (choices : Choices) (f : Frame) → Limits program words choices f
  pub sides : (program : Program) (words : List ℤ) (choices : Choices) (f p c : Frame) → step program words choices f ≡ two p c → SideRules f p c
  -- of a stack with a place left, whose next entry is the integer 0, as the shape test has it
  pub gives_back : (r : ℕ) (v : Value) (f : Frame) → f.task.height < length f.stack
      → get_or f.stack f.task.height zero_register ≡ zero_register → StackRules r v f
