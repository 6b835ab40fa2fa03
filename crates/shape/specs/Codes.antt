-- The working numbers of the shape test's code: what 16 registers come to, what a stack comes to, and what a slot comes to. Only the parts
-- of the code cite these; that a state's codes pass just where the state does is a law.
use Rattle.std.specs.Prelude.{◌≡◌, Bool, true, false, not, ◌&&◌, ◌||◌, List, ℕ, zero, suc, ◌+◌, ◌*◌, ◌-◌, ◌^◌, ◌≤◌, ◌<◌, eqb, ltb, leb, length, get_or}
use Rattle.image.specs.Layout.{program_cells, block_count}
use Rattle.image.specs.Program.{Program}
use Rattle.task.specs.declared.Value.{Value}
use Rattle.task.specs.declared.Register.{Register}
use Rattle.task.specs.declared.Task.{Task}
use Rattle.task.specs.declared.Frame.{Frame}
use Rattle.task.specs.Frames.{zero_register, no_task, running}
use Rattle.task.specs.Formed.{every, value_fits, is_zero, entry_fits, is_vacant, formed}
use Rattle.task.specs.Stretches.{reads}

-- the buffer has the annotation of each block
abbrev pub Stored : List ℕ → Type 0
Stored cells = (block_count cells ≤ 128) × (length cells ≡ program_cells)

-- ---- The largest mark of each slot

-- of the marks g j of slot k's values that stand before i, c is the largest, or 0 where there is none
pub record Largest (slot g : ℕ → ℕ) (i k c : ℕ) : Type 0 where
  pub above : (j : ℕ) → slot j ≡ k → j < i → g j ≤ c
  pub least : (n : ℕ) → ((j : ℕ) → slot j ≡ k → j < i → g j ≤ n) → c ≤ n

abbrev pub LargestSlots : (ℕ → ℕ) → (ℕ → ℕ) → ℕ → List ℕ → Type 0
LargestSlots slot g i cs = (length cs ≡ 64) × ((k : ℕ) → k < 64 → Largest slot g i k (get_or cs k 0))

-- ---- Registers

-- a value's grade: 0 the integer 0, 1 another value that fits the program, 2 one that does not
abbrev pub grade : Bool → Bool → ℕ
grade true fits = 0
grade false true = 1
grade false false = 2

abbrev pub grade_of : Program → Value → ℕ
grade_of program v = grade (is_zero v) (value_fits program v)

-- n is the worst grade of 16 registers: it tells whether all are 0, and whether all fit
pub record Graded (program : Program) (registers : List Register) (n : ℕ) : Type 0 where
  pub sixteen : length registers ≡ 16
  pub all_zero : every (λ i. is_zero (get_or registers i zero_register).value) 16 0 ≡ eqb n 0
  pub all_fit : every (λ i. value_fits program (get_or registers i zero_register).value) 16 0 ≡ leb n 1

-- each slot's grade
abbrev pub GradedSlots : Program → List Register → List ℕ → Type 0
GradedSlots program bank grades = (k : ℕ) → k < 64 → Graded program (reads zero_register bank (16 * k) 16) (get_or grades k 0)

-- ---- Stacks

-- how far entry i reaches: 0 the integer 0, i + 1 another value that fits the program, 33 one that does not
abbrev pub reach : Bool → Bool → ℕ → ℕ
reach true fits i = 0
reach false true i = i + 1
reach false false i = 33

abbrev pub reach_of : Program → Value → ℕ → ℕ
reach_of program v i = reach (is_zero v) (value_fits program v) i

-- n is the furthest reach of 32 entries: it tells whether all are 0, and whether they are the stack of a task with height h
pub record Reached (program : Program) (stack : List Register) (n : ℕ) : Type 0 where
  pub thirty_two : length stack ≡ 32
  pub all_zero : every (λ i. is_zero (get_or stack i zero_register).value) 32 0 ≡ eqb n 0
  pub all_fit : (h : ℕ) → h ≤ 32 → every (λ i. entry_fits program (ltb i h) (get_or stack i zero_register).value) 32 0 ≡ leb n h

-- each slot's reach
abbrev pub ReachedSlots : Program → List Register → List ℕ → Type 0
ReachedSlots program stacks reaches = (k : ℕ) → k < 64 → Reached program (reads zero_register stacks (32 * k) 32) (get_or reaches k 0)

-- ---- Slots

abbrev pub framed : Task → List Register → List Register → Frame
framed t registers stack = record { task = t; registers = registers; stack = stack }

-- a slot's code: 0 vacant, h + 1 a running task of 2 ^ h places, h + 9 another task of 2 ^ h places, 255 what no slot may hold
abbrev pub code : Bool → Bool → Bool → ℕ → ℕ
code true live runs h = 0
code false false runs h = 255
code false true true h = h + 1
code false true false h = h + 9

-- in a job of 2 ^ D places
abbrev pub code_of : Program → ℕ → Frame → ℕ
code_of program D f = code (is_vacant f) (formed program D (D - f.task.depth) f) (running f) (D - f.task.depth)

-- x is what a test gives of a task, whatever registers have this grade and whatever stack has this reach
abbrev pub Answers : {A : Type 0} → Program → (Frame → A) → Task → ℕ → ℕ → A → Type 0
Answers program test t grade reach x =
    (registers stack : List Register) → Graded program registers grade → Reached program stack reach → x ≡ test (framed t registers stack)

-- each slot's code
abbrev pub CodedTasks : Program → ℕ → List Task → List ℕ → List ℕ → List ℕ → Type 0
CodedTasks program D tasks grades reaches codes =
    (k : ℕ) → k < 64 → Answers program (code_of program D) (get_or tasks k no_task) (get_or grades k 0) (get_or reaches k 0) (get_or codes k 0)

-- ---- The test over codes

-- a task of 2 ^ h places
abbrev pub stands : ℕ → ℕ → Bool
stands c h = eqb c (h + 1) || eqb c (h + 9)

-- the n slots from a on are vacant
abbrev pub clear : List ℕ → ℕ → ℕ → Bool
clear codes n a = every (λ i. eqb (get_or codes i 0) 0) n a

-- of two sides of 2 ^ h places each, not both have ended
abbrev pub not_both_ended : List ℕ → ℕ → ℕ → Bool
not_both_ended codes h b = not (eqb (get_or codes b 0) (h + 9) && eqb (get_or codes (b + 2 ^ h) 0) (h + 9))

-- the 2 ^ h slots from b on are one task's, or two halves of which not both have ended
unfoldable pub tiled : List ℕ → ℕ → ℕ → Bool
tiled codes zero b = elim (stands (get_or codes b 0) zero) [ true ↦ clear codes (2 ^ zero - 1) (b + 1) | false ↦ false ]
tiled codes (suc h) b = elim (stands (get_or codes b 0) (suc h)) [
  | true ↦ clear codes (2 ^ suc h - 1) (b + 1)
  | false ↦ elim (tiled codes h b) [
    | true ↦ elim (tiled codes h (b + 2 ^ h)) [ true ↦ not_both_ended codes h b | false ↦ false ]
    | false ↦ false
  ]
]

-- all slots of a job of 2 ^ D places are tiled, and all others vacant
abbrev pub tree : List ℕ → ℕ → Bool
tree codes D = tiled codes D 0 && clear codes (64 - 2 ^ D) (2 ^ D)
