-- Turns of the loop: instructions that the task in hand carries out by itself, held against `step` and against `serial`'s run. The task is
-- given by its numbers. Its counter is the difference of `beat` and what is left of the budget, so that an instruction counts both at once.
use Rattle.std.specs.Prelude.{◌≡◌, true, List, ℕ, ◌+◌, ◌*◌, ◌-◌, ◌/◌, ◌<◌, ◌≤◌, ℤ}
use Rattle.image.specs.Program.{Program}
use Rattle.image.specs.Layout.{instruction_count, instruction_of, program_of}
use Rattle.agreement.specs.Plain.{one, Rules}
use Rattle.serial.specs.Serial.{Pending, held, run}
use Rattle.task.specs.declared.Register.{Register}
use Rattle.task.specs.declared.Status.TheVariants.{Running}
use Rattle.task.specs.declared.Fork.{Fork}
use Rattle.task.specs.declared.Frame.{Frame}
use Rattle.task.specs.declared.Kind.TheVariants.{Faults}
use Rattle.task.specs.declared.Executed.{Executed}
use Rattle.task.specs.Frames.{running}
use Rattle.task.specs.Choices.{Choices, chosen}
use Rattle.task.specs.Formed.{value_fits, formed, within}
use Rattle.task.specs.Step.{register, operand, active_of, step, join}
use Rattle.task.specs.Execute.{ending, executed}
use Rattle.arms.specs.declared.Way.{Way}
use Rattle.arms.specs.declared.Way.TheVariants.{Off, Fault}
use Rattle.arms.specs.declared.Gone.{Gone}
use Rattle.arms.specs.declared.Stopped.{Stopped}
use Rattle.arms.specs.Registers.{registers_of, Sized, in_register}
use Rattle.arms.specs.Arms.{IfOn, IfOff, IfFault}
use Rattle.arms.specs.Stacks.{stack_of, Lies, SameBelow}
-- for the crates above, too
pub use Rattle.arms.specs.Stacks.{Stacked}

-- a running task with these numbers, this stack and these registers
abbrev pub frame_at : ℕ → ℕ → List Fork → ℕ → ℕ → ℕ → Stacked → List Register → Frame
frame_at places depth forks pc counter span u registers = record {
  task = record { status = Running; places = places; pc = pc; counter = counter; span = span; depth = depth; height = u.height; forks = forks };
  registers = registers;
  stack = u.values;
}

-- what the tasks of a job do by themselves
abbrev pub rules : List ℕ → List ℤ → ℕ → Rules Frame
rules cells words interval =
    record { running = running; step = step (program_of cells) words (chosen interval); join = join (program_of cells) }

-- ---- One instruction

-- what the instruction of a running task is, carried out
abbrev pub executed_of : Program → List ℤ → Choices → Frame → Executed
executed_of program words choices f =
    let x = program.instruction f.task.pc in
    executed program words choices x (register f x.s) (operand f x) (active_of f.task) f.task.forks

-- ---- What they rest on

-- a task at the place pc of the decoded code
pub record At (cells nums kinds : List ℕ) (depth left beat pc : ℕ) : Type 0 where
  pub sized : Sized nums kinds
  pub on_place : pc ≡ 4 * (pc / 4)
  pub inside_program : pc / 4 < instruction_count cells
  pub counter_least : left < beat
  pub values_fit : (i : ℕ) → value_fits (program_of cells) (in_register i (registers_of nums kinds)) ≡ true
  pub depth_most : depth ≤ 6

-- a task where instructions by itself begin: well-formed
pub record Starts (cells nums kinds pile tags : List ℕ) (places depth left beat pc low piled : ℕ) : Type 0 where
  pub rank : ℕ
  pub height : ℕ
  pub forks : List Fork
  pub span : ℕ
  pub room : rank ≤ 6
  pub its_is_formed : formed (program_of cells) rank height
      (frame_at places depth forks (pc / 4) (beat - left) span (stack_of pile tags low piled) (registers_of nums kinds)) ≡ true
  pub lies : Lies pile tags low
  pub sized : Sized nums kinds
  pub on_place : pc ≡ 4 * (pc / 4)
  pub inside_program : pc / 4 < instruction_count cells
  pub counter_least : left ≤ beat

-- ---- What they do

-- the opcode of an instruction that `turn` does not carry out: fork, join, halt, push or pop. The loop then carries out a push that has a place
-- and a pop that has a value
abbrev pub LeftOpcode : ℕ → Type 0
LeftOpcode n = (n ≡ 12 → ⊥) → (n ≡ 15 → ⊥) → (n ≡ 16 → ⊥) → (n ≡ 17 → ⊥) → n ≡ 14

module _ (cells : List ℕ) (words : List ℤ) (interval places depth : ℕ) where
  -- the instruction at pc, which such a task with these registers does not carry out by itself: a fault with this number, or fork, halt, join,
  -- push or pop
  pub record Ends (way : Way) (pc counter : ℕ) (registers : List Register) : Type 0 where
    pub faults_there : IfFault way (λ n. (forks : List Fork) (span : ℕ) (u : Stacked)
        → executed_of (program_of cells) words (chosen interval) (frame_at places depth forks pc counter span u registers) ≡ ending Faults n)
    pub left_there : IfOff way (LeftOpcode (instruction_of cells pc).opcode)

  -- one instruction, after which `left` is left
  pub record Turned (pc beat left : ℕ) (before : List Register) (g : Gone) (after : List Register) : Type 0 where
    pub steps : IfOn g.way ((forks : List Fork) (span : ℕ) (u : Stacked)
        → step (program_of cells) words (chosen interval) (frame_at places depth forks (pc / 4) (beat - (left + 1)) span u before)
        ≡ one (frame_at places depth forks (g.pc / 4) (g.beat - left) (span + 1) u after))
    pub stays : IfOff g.way ((after ≡ before) × Ends Off (pc / 4) (beat - (left + 1)) before)
    pub faults : IfFault g.way (λ n. (2 ≤ n) × (after ≡ before) × Ends (Fault n) (pc / 4) (beat - (left + 1)) before)
    pub aligned : g.pc ≡ 4 * (g.pc / 4)
    pub inside : IfOn g.way (g.pc / 4 < instruction_count cells)
    pub counted : left ≤ g.beat
    pub beat_most : g.beat ≤ beat

  -- several: they are the run so far, whatever the task's open forks, its span and the forks pending; u and u' are its stack
  pub record Runs (pc beat left : ℕ) (u : Stacked) (before : List Register) (pc' beat' left' : ℕ) (u' : Stacked) (after : List Register) : Type 0 where
    pub same_run : (forks : List Fork) (span : ℕ) (s : Pending Frame)
        → run (rules cells words interval) left (held (frame_at places depth forks (pc / 4) (beat - left) span u before) s)
        ≡ run (rules cells words interval) left' (held (frame_at places depth forks (pc' / 4) (beat' - left') (span + (left - left')) u' after) s)
    pub keeps_formed : (forks : List Fork) (span : ℕ) (D h : ℕ) → D ≤ 6
        → formed (program_of cells) D h (frame_at places depth forks (pc / 4) (beat - left) span u before) ≡ true
        → formed (program_of cells) D h (frame_at places depth forks (pc' / 4) (beat' - left') (span + (left - left')) u' after) ≡ true
    pub keeps_within : (forks : List Fork) (span : ℕ) (W : ℕ)
        → within W (frame_at places depth forks (pc / 4) (beat - left) span u before) ≡ true
        → within (W + (left - left')) (frame_at places depth forks (pc' / 4) (beat' - left') (span + (left - left')) u' after) ≡ true
    pub aligned : pc' ≡ 4 * (pc' / 4)
    pub inside : pc' / 4 < instruction_count cells
    pub counted : left' ≤ beat'
    pub beat_most : beat' ≤ beat
    pub fewer : left' ≤ left

  -- until one that the task does not carry out by itself, or the budget is used up; the stack begins at `low`
  pub record RunsUntil (pc beat left low piled : ℕ) (pile tags : List ℕ) (before : List Register) (z : Stopped) (pile' tags' : List ℕ) (after : List Register) : Type 0 where
    pub runs : Runs pc beat left (stack_of pile tags low piled) before z.pc z.beat z.left (stack_of pile' tags' low z.height) after
    pub same_below : SameBelow low pile tags pile' tags'
    pub when_spent : IfOn z.way (z.left ≡ 0)
    pub when_not : IfOn z.way ⊥ → (0 < z.left) × Ends z.way (z.pc / 4) (z.beat - z.left) after
