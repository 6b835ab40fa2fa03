-- What an arm of the loop does, held against the table of instructions (`effect_of`). An arm answers that the task goes on, or the fault,
-- and has then changed nothing.
use Rattle.std.specs.Prelude.{◌≡◌, true, not, List, ℕ, ◌+◌, ◌*◌, ◌-◌, ◌/◌, ◌%◌, ◌<◌, ◌≤◌, ℤ, pos, length, get_or, set, Option, MatchOption, ⊤}
use Rattle.std.specs.Int.{w64}
use Rattle.std.proofs.Common.{to_z}
use Rattle.image.specs.Program.{Program}
use Rattle.image.specs.Layout.{block_count, instruction_count, block_of, program_of}
use Rattle.int64.specs.Equal.{eq_z}
use Rattle.task.specs.declared.Value.{Value}
use Rattle.task.specs.declared.Value.TheVariants.{Int}
use Rattle.task.specs.declared.Register.{Register}
use Rattle.task.specs.declared.Fork.{Fork}
use Rattle.task.specs.declared.Active.{Active}
use Rattle.task.specs.declared.Kind.TheVariants.{Faults}
use Rattle.task.specs.declared.Executed.{Executed}
use Rattle.task.specs.Choices.{Choices, chosen}
use Rattle.task.specs.Effect.{Effect, stores, faults, asked, integer, Op, unknown, opcodes, effect_of}
use Rattle.task.specs.Formed.{value_fits}
use Rattle.task.specs.Execute.{going, ending, answered}
use Rattle.arms.specs.declared.Way.{Way}
use Rattle.arms.specs.declared.Way.TheVariants.{On, Off, Fault}
use Rattle.arms.specs.declared.Gone.{Gone}
use Rattle.arms.specs.declared.Registers.{Registers}
use Rattle.arms.specs.Registers.{registers_of, registers_in, Sized, in_register, operand_by}

-- what an instruction looks at of a task with these numbers
abbrev pub active : ℕ → ℕ → ℕ → ℕ → Active
active places pc counter depth = record { places = places; pc = pc; counter = counter; depth = depth }

-- what an instruction rests on besides its operands, the numbers of the task and its open forks
pub record Context : Type 0 where
  pub program : Program
  pub words : List ℤ
  pub choices : Choices
  pub depth : ℕ

abbrev pub context_with : Program → List ℤ → Choices → ℕ → Context
context_with program words choices depth = record { program = program; words = words; choices = choices; depth = depth }

-- of a task of this depth, in a job with this program, call record and interval
abbrev pub context_of : List ℕ → List ℤ → ℕ → ℕ → Context
context_of cells words interval depth = context_with (program_of cells) words (chosen interval) depth

-- ---- What an instruction comes to

-- P, where the task goes on by itself
abbrev pub IfOn : Way → Type 0 → Type 0
IfOn On P = P
IfOn Off P = ⊤
IfOn (Fault n) P = ⊤

-- P, where the instruction is left to others
abbrev pub IfOff : Way → Type 0 → Type 0
IfOff On P = ⊤
IfOff Off P = P
IfOff (Fault n) P = ⊤

-- P of the fault's number, where there is one
abbrev pub IfFault : Way → (ℕ → Type 0) → Type 0
IfFault On P = ⊤
IfFault Off P = ⊤
IfFault (Fault n) P = P n

-- ---- It sets a register

-- it did, as the effect e says; or e is a fault with this number, and it left all as it was
pub record Sets (way : Way) (r : ℕ) (before after : List Register) (e : Effect) : Type 0 where
  pub did : IfOn way ((w : Value) × (e ≡ stores w) × (after ≡ set before r (record { value = w })))
  pub failed : IfFault way (λ n. (2 ≤ n) × (e ≡ faults n) × (after ≡ before))
  pub not_off : IfOff way ⊥

-- of two integers, as in the rows 2 to 8 of the table
abbrev pub computing : (ℤ → ℤ → Effect) → Value → Value → Effect
computing after s v = integer s 31 λ a. integer v 31 λ b. after a b

-- of the integers with the bits a and b it stores the one with these bits; or there are none, since the divisor b is 0 (32)
abbrev pub Computes : (ℤ → ℤ → Effect) → ℕ → ℕ → Option ℕ → Type 0
Computes after a b bits =
    MatchOption bits (after (to_z w64 a) (to_z w64 b) ≡ faults 32) (λ u. after (to_z w64 a) (to_z w64 b) ≡ stores (Int (to_z w64 u)))

-- the rows 5 and 6, by what they give of two integers, the second not 0
abbrev pub dividing : (ℤ → ℤ → ℤ) → ℤ → ℤ → Effect
dividing op a b = asked (not (eq_z b (pos 0))) 32 (stores (Int (op a b)))

-- as the table says of an instruction with these operands, whatever the task's other numbers and its open forks
abbrev pub SetsAs : Context → Op → Way → ℕ → Registers → Registers → (List Register → Value) → (List Register → Value) → Type 0
SetsAs x op way r before after s v =
    Sized after.nums after.kinds × ((t : Active) (o : List Fork) → t.depth ≡ x.depth → Sets way r (registers_in before) (registers_in after)
    (effect_of x.program x.words x.choices (s (registers_in before)) (v (registers_in before)) t o op))

-- what such an arm may rest on; the register r that it sets stands in the decoded code, after the arm
pub record CanSet (cells code nums kinds : List ℕ) (depth pc arm s v : ℕ) : Type 0 where
  pub sized : Sized nums kinds
  pub stored : pc + 1 < length code
  pub r_small : get_or code (pc + 1) 0 < 16
  pub s_small : s < 16
  pub register_operand : 32 ≤ arm → arm < 64 → v < 16
  pub label_operand : 64 ≤ arm → arm < 96 → v < block_count cells
  pub values_fit : (i : ℕ) → value_fits (program_of cells) (in_register i (registers_of nums kinds)) ≡ true
  pub depth_most : depth ≤ 6

-- the arm of opcode n and operand kind k is n + 32 k: as the table says of that opcode; or it sets no register, and is left as it was.
-- Of the kinds from `least` on, all that set one do
pub record SetsBy (x : Context) (least arm : ℕ) (way : Way) (r s v : ℕ) (before after : Registers) : Type 0 where
  pub still_sized : Sized after.nums after.kinds
  pub carried : IfOff way ⊥ → (arm < 128) × (arm % 32 < 13)
  pub as_table : IfOff way ⊥ → (n k : ℕ) → n ≤ 17 → arm ≡ n + 32 * k
      → SetsAs x (get_or opcodes n unknown) way r before after (in_register s) (operand_by k v)
  pub untouched : IfOff way (registers_in after ≡ registers_in before)
  -- the opcodes 10 and 12 to 17
  pub others : IfOff way ((n k : ℕ) → 1 ≤ n → n ≤ 17 → least ≤ k → k ≤ 3 → arm ≡ n + 32 * k → (10 ≤ n) × (n ≡ 11 → ⊥))

-- ---- It goes elsewhere

-- to the place g.pc of the decoded code, with the difference of g.beat and left as its counter, as the instruction e says; or e is a
-- fault with this number
pub record Leads (cells : List ℕ) (most left : ℕ) (g : Gone) (e : Executed) : Type 0 where
  pub leads : IfOn g.way (e ≡ going (g.pc / 4) (g.beat - left))
  pub failed : IfFault g.way (λ n. (2 ≤ n) × (e ≡ ending Faults n))
  pub not_off : IfOff g.way ⊥
  pub aligned : g.pc ≡ 4 * (g.pc / 4)
  pub inside : IfOn g.way (g.pc / 4 < instruction_count cells)
  pub counted : left ≤ g.beat
  pub beat_most : g.beat ≤ most

-- as the table says of an instruction with these values, whatever the call record and the open forks
abbrev pub LeadsAs : List ℕ → ℕ → Op → ℕ → ℕ → ℕ → ℕ → Gone → Value → Value → Type 0
LeadsAs cells interval op places pc beat left g s v =
    (depth : ℕ) (w : List ℤ) (o : List Fork)
    → Leads cells beat left g (answered (program_of cells) w (chosen interval) s v (active places (pc / 4) (beat - left) depth) o op)

-- block b is not promotion-ready, and v is its first place in the decoded code
pub record Unready (cells : List ℕ) (b v : ℕ) : Type 0 where
  pub unready : (block_of cells b).annotation ≡ 1 → ⊥
  pub its_first : v ≡ 4 * (block_of cells b).first
  pub first_inside : (block_of cells b).first < instruction_count cells
