-- An instruction as the code hands it to the machine: its effect, with the instruction and the counter that the task goes on with. And two
-- ended sides likewise. `proofs/Executing.antt` proves that the machine, applying this to the frame, carries out `step`.
use Rattle.std.specs.Prelude.{◌≡◌, Bool, true, false, List, ℕ, ◌+◌, ◌-◌, ◌<◌, ◌≤◌, eqb, ℤ, pos, get_or}
use Rattle.std.proofs.Math.Option.{Option, none, some}
use Rattle.std.specs.Int.{w64}
use Rattle.std.proofs.Common.{to_z}
use Rattle.image.specs.declared.Instruction.{Instruction}
use Rattle.image.specs.Program.{Program}
use Rattle.image.specs.Layout.{block_count, instruction_count, program_of}
use Rattle.image.specs.Questions.{program_no}
use Rattle.task.specs.declared.Value.{Value}
use Rattle.task.specs.declared.Value.TheVariants.{Int, Label, Record}
use Rattle.task.specs.declared.Register.{Register}
use Rattle.task.specs.declared.Status.{Status}
use Rattle.task.specs.declared.Status.TheVariants.{Running, Faulted}
use Rattle.task.specs.declared.Fork.{Fork}
use Rattle.task.specs.declared.Task.{Task}
use Rattle.task.specs.declared.Active.{Active}
use Rattle.task.specs.declared.Kind.{Kind}
use Rattle.task.specs.declared.Kind.TheVariants.{Stores, Goes, Pushes, Pops, Waits, Halts, Faults, Forks}
use Rattle.task.specs.declared.Executed.{Executed}
use Rattle.task.specs.declared.Joint.{Joint}
use Rattle.task.specs.Frames.{zeros, empty_stack, zero_fork, fault_of, work_limit}
use Rattle.task.specs.Choices.{Choices}
use Rattle.task.specs.Effect.{Effect, stores, continues, pushes, pops, enters, forks, waits, halts, faults, Op, unknown, opcodes, effect_of}
use Rattle.task.specs.Step.{promotes, copied, first_fault, outward_task}
use Rattle.task.specs.Formed.{value_fits}

-- ---- An instruction

-- it adds 1 to the counter; the span, which it does not look at, is left to the machine
abbrev pub counted_active : Active → Active
counted_active t = record { places = t.places; pc = t.pc; counter = t.counter + 1; depth = t.depth }

-- the task goes on at pc, its registers as they are
abbrev pub going : ℕ → ℕ → Executed
going pc counter = record { kind = Goes; value = Int (pos 0); pc = pc; counter = counter; fault = 0; child = 0 }

-- it goes on to the next instruction, with this value in r or on its stack
abbrev pub passing : Kind → Value → Active → Executed
passing kind v t = record { kind = kind; value = v; pc = t.pc + 1; counter = t.counter; fault = 0; child = 0 }

abbrev pub storing : Value → Active → Executed
storing v t = passing Stores v t

-- it waits, has halted or has faulted, with the fault's number, else 0
abbrev pub ending : Kind → ℕ → Executed
ending kind fault = record { kind = kind; value = Int (pos 0); pc = 0; counter = 0; fault = fault; child = 0 }

-- it goes on as the parent's side of a fork under the record v; the child starts at instruction `child`
abbrev pub forking : Value → ℕ → Active → Executed
forking v child t = record { kind = Forks; value = v; pc = t.pc + 1; counter = t.counter; fault = 0; child = child }

module _ (program : Program) (choices : Choices) where
  abbrev pub entering_by : Bool → ℕ → Active → Executed
  entering_by true b t = going (program.block (program.block b).label).first 0
  entering_by false b t = going (program.block b).first t.counter

  abbrev pub entering : ℕ → Active → Executed
  entering b t = entering_by (promotes program choices b t.counter t.places) b t

  -- of a task that has counted the instruction
  abbrev pub handed : Active → Effect → Executed
  handed t (stores v) = storing v t
  handed t continues = going (t.pc + 1) t.counter
  handed t (pushes v) = passing Pushes v t
  -- the machine has the value
  handed t pops = passing Pops (Int (pos 0)) t
  handed t (enters b) = entering b t
  handed t (forks k b) = forking (Record k.continuation k.depth) (program.block b).first t
  handed t waits = ending Waits 0
  handed t halts = ending Halts 0
  handed t (faults n) = ending Faults n

module _ (program : Program) (words : List ℤ) (choices : Choices) where
  abbrev pub answered : Value → Value → Active → List Fork → Op → Executed
  answered s v t opened op = handed program choices t (effect_of program words choices s v t opened op)

  unfoldable pub executed : Instruction → Value → Value → Active → List Fork → Executed
  executed x s v t opened = answered s v (counted_active t) opened (get_or opcodes x.opcode unknown)

-- the value of operand v, where `held` is that of the register that an operand of kind 1 names
unfoldable pub selected : Instruction → Value → Value
selected x held = elim (eqb x.kind 1) [
  | true ↦ held
  | false ↦ elim (eqb x.kind 2) [ true ↦ Label x.operand | false ↦ Int (to_z w64 x.operand) ]
]

-- what is made of two integers, of which `post` says what it can be; other values fault with 31
abbrev pub OfIntegers : (ℤ → ℤ → Executed → Type 0) → Value → Value → Executed → Type 0
OfIntegers post (Int a) (Int b) e = post a b e
OfIntegers post (Int a) (Label b) e = e ≡ ending Faults 31
OfIntegers post (Int a) (Record c d) e = e ≡ ending Faults 31
OfIntegers post (Label b) v e = e ≡ ending Faults 31
OfIntegers post (Record c d) v e = e ≡ ending Faults 31

-- ---- The task that two ended sides make, but for its registers and its stack

-- its status
abbrev pub status_by : Option ℕ → Status
status_by none = Running
status_by (some n) = Faulted n

-- by the fault that one of them has, at the continuation block b
abbrev pub joint_by : Option ℕ → Program → ℕ → Task → Task → Joint
joint_by (some n) program b p c = record { task = outward_task (Faulted n) 0 0 p c; faulted = true; pairs = 0; packed = 0 }
joint_by none program b p c = record {
  task = outward_task Running (program.block (program.block b).label).first p.height p c;
  faulted = false;
  pairs = (program.block b).pairs;
  packed = (program.block b).packed;
}

unfoldable pub joint_of : Program → Task → Task → Joint
joint_of program p c =
    joint_by (first_fault (fault_of p.status) (fault_of c.status)) program (get_or p.forks (p.depth - 1) zero_fork).continuation p c

-- the registers that it leaves: 16 integers 0, or the parent's with the pairs copied from the child's
abbrev pub joint_registers : Bool → ℕ → ℕ → List Register → List Register → List Register
joint_registers true pairs packed p c = zeros
joint_registers false pairs packed p c = copied c pairs packed p

-- and the stack: an empty one, or the parent's
abbrev pub joint_stack : Bool → List Register → List Register
joint_stack true p = empty_stack
joint_stack false p = p

-- ---- What the machine ensures

-- of a running task of a state of the shape, below the work's limit: what carrying out its instruction needs to be safe. `drive` proves it
-- in its `proofs/Readiness.antt`
pub record Ready (cells : List ℕ) (s v : Value) (t : Active) : Type 0 where
  pub accepted_program : program_no cells ≡ 0
  pub pc_below : t.pc < instruction_count cells
  pub s_fits : value_fits (program_of cells) s ≡ true
  pub v_fits : value_fits (program_of cells) v ≡ true
  pub counter_below : t.counter < work_limit
  pub depth_most : t.depth ≤ 6
  -- a task that can fork has room for the open fork that the machine adds
  pub fork_room : 2 ≤ t.places → t.depth < 6

-- of two ended sides of a fork, the parent's first
pub record Joinable (cells : List ℕ) (p c : Task) : Type 0 where
  pub accepted_program : program_no cells ≡ 0
  pub depth_least : 1 ≤ p.depth
  pub depth_most : p.depth ≤ 6
  pub places_most : p.places + c.places ≤ 64
  -- the parent's innermost fork names a block
  pub continuation_below : (get_or p.forks (p.depth - 1) zero_fork).continuation < block_count cells
