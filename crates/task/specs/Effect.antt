-- What an instruction asks, and what it then does: document 01's table, row by row. `Step` says what an effect makes of a task, and puts the
-- two questions about a task's stack.
use Rattle.std.specs.Prelude.{Bool, true, false, not, cond, ◌&&◌, List, [], ◌∷◌, ℕ, zero, suc, ◌+◌, ◌-◌, eqb, ltb, leb, ℤ, pos, nat_abs, ◌+ℤ◌, ◌-ℤ◌, ◌*ℤ◌, length, get_or}
use Rattle.std.specs.Int.Signed.{lt_z, non_neg}
use Rattle.int64.specs.Equal.{eq_z}
use Rattle.int64.specs.Wrapped.{wrapped}
use Rattle.image.specs.Program.{Program}
use Rattle.task.specs.declared.Value.{Value}
use Rattle.task.specs.declared.Value.TheVariants.{Int, Label, Record}
use Rattle.task.specs.declared.Fork.{Fork}
use Rattle.task.specs.declared.Active.{Active}
use Rattle.task.specs.Frames.{zero_fork}
use Rattle.task.specs.Values.{truth}
use Rattle.task.specs.Choices.{Choices}

-- r := a value, and on to the next instruction; on to it; a value pushed, or the last one popped into r, and on to it; into a block; a fork
-- under a record, whose child starts a block; the end of the task's side or of the job; the end of its side with a fault's number
pub data Effect : Type 0 where
  stores : Value → Effect
  continues : Effect
  pushes : Value → Effect
  pops : Effect
  enters : ℕ → Effect
  forks : Fork → ℕ → Effect
  waits halts : Effect
  faults : ℕ → Effect

-- a question inside a task: the fault n where the test fails, else what comes after it
unfoldable pub asked : Bool → ℕ → Effect → Effect
asked true n after = after
asked false n after = faults n

-- questions about a value's kind: what comes after is told the integer, the label or the record
abbrev pub integer : Value → ℕ → (ℤ → Effect) → Effect
integer (Int z) n after = after z
integer (Label b) n after = faults n
integer (Record c d) n after = faults n

abbrev pub label : Value → ℕ → (ℕ → Effect) → Effect
label (Int z) n after = faults n
label (Label b) n after = after b
label (Record c d) n after = faults n

abbrev pub join_record : Value → ℕ → (Fork → Effect) → Effect
join_record (Int z) n after = faults n
join_record (Label b) n after = faults n
join_record (Record c d) n after = after (record { continuation = c; depth = d })

-- ---- When a record fits

-- two records, or a record and an open fork, are the same
abbrev pub same_fork : Fork → Fork → Bool
same_fork k opened = eqb opened.continuation k.continuation && eqb opened.depth k.depth

-- the n open forks from i on belong to the record k
unfoldable pub belong : List Fork → Fork → ℕ → ℕ → Bool
belong opened k zero i = true
belong opened k (suc n) i =
    elim (eqb (get_or opened i zero_fork).continuation k.continuation && eqb (get_or opened i zero_fork).depth k.depth) [
      | true ↦ belong opened k n (i + 1)
      | false ↦ false
    ]

-- a record fits a task when its depth is not above the task's and every fork opened beyond that depth belongs to it
unfoldable pub fits : Fork → ℕ → List Fork → Bool
fits k depth opened = leb k.depth depth && belong opened k (depth - k.depth) k.depth

-- ---- The table

pub data Op : Type 0 where
  move plus minus times divide modulo less equal word if_jump jralloc fork jump halt meet push pop unknown : Op

-- the opcodes 1 to 17, after 0
abbrev pub opcodes : List Op
opcodes =
    unknown ∷ move ∷ plus ∷ minus ∷ times ∷ divide ∷ modulo ∷ less ∷ equal ∷ word ∷ if_jump ∷ jralloc ∷ fork ∷ jump ∷ halt ∷ meet ∷ push ∷ pop ∷ []

-- what it does with the values s and v of its operands, to a task with the numbers t and these open forks
module _ (program : Program) (words : List ℤ) (choices : Choices) where
  abbrev pub effect_of : Value → Value → Active → List Fork → Op → Effect
  -- 1 r := v
  effect_of s v t opened move = stores v
  -- 2 to 8 r := s op v. Both operands integers? (31) Sums, differences and products keep the low 64 bits, read as signed
  effect_of s v t opened plus = integer s 31 λ a. integer v 31 λ b. stores (Int (wrapped (a +ℤ b)))
  effect_of s v t opened minus = integer s 31 λ a. integer v 31 λ b. stores (Int (wrapped (a -ℤ b)))
  effect_of s v t opened times = integer s 31 λ a. integer v 31 λ b. stores (Int (wrapped (a *ℤ b)))
  -- divisor not 0? (32)
  effect_of s v t opened divide =
      integer s 31 λ a. integer v 31 λ b. asked (not (eq_z b (pos 0))) 32 (stores (Int (choices.quotient a b)))
  effect_of s v t opened modulo =
      integer s 31 λ a. integer v 31 λ b. asked (not (eq_z b (pos 0))) 32 (stores (Int (choices.remainder a b)))
  effect_of s v t opened less = integer s 31 λ a. integer v 31 λ b. stores (truth (lt_z a b))
  effect_of s v t opened equal = integer s 31 λ a. integer v 31 λ b. stores (truth (eq_z a b))
  -- 9 r := word v of the call record. Index an integer? (31) Inside the record? (33)
  effect_of s v t opened word =
      integer v 31 λ i. asked (non_neg i && ltb (nat_abs i) (length words)) 33 (stores (Int (get_or words (nat_abs i) (pos 0))))
  -- 10 if-jump s, v: jumps when s is 0, and only then looks at v. If-jump register an integer? (31) Jump target a label? (34)
  effect_of s v t opened if_jump = integer s 31 λ a. cond (eq_z a (pos 0)) (label v 34 enters) continues
  -- 11 r := jralloc v: the continuation block and the task's present depth. A label of a join target? (35)
  effect_of s v t opened jralloc = label v 35 λ b. asked (eqb (program.block b).annotation 2) 35 (stores (Record b t.depth))
  -- 12 fork s, v. A record that fits? (36) A label? (34) Two places to fork? (37)
  effect_of s v t opened fork =
      join_record s 36 λ k. asked (fits k t.depth opened) 36 (label v 34 λ b. asked (leb 2 t.places) 37 (forks k b))
  -- 13 jump v. Jump target a label? (34)
  effect_of s v t opened jump = label v 34 enters
  -- 14 halt. No open fork at halt? (38)
  effect_of s v t opened halt = asked (eqb t.depth 0) 38 halts
  -- 15 join v. A record that fits? (36) Its depth equal to the task's: to the continuation. Otherwise the task waits
  effect_of s v t opened meet =
      join_record v 36 λ k. asked (fits k t.depth opened) 36 (cond (eqb k.depth t.depth) (enters k.continuation) waits)
  -- 16 push v (02, request 4), 17 pop r. Where the stack is, in `Step`: a place left on it? (42) Something on it? (43)
  effect_of s v t opened push = pushes v
  effect_of s v t opened pop = pops
  -- an accepted program has no other opcode (8)
  effect_of s v t opened unknown = faults 8
