-- The plain evaluation: one task carried to its end. It knows no slot, no pick and no machine.
use Rattle.std.specs.Prelude.{ℕ, zero, suc, ◌+◌, Bool, true, false}

-- what one instruction makes of a task: one task, or the two sides of a fork, the parent's first
pub data Stepped (F : Type 0) : Type 0 where
  one : F → Stepped F
  two : F → F → Stepped F

-- What a task does by itself. A frame is a task with its registers.
pub record Rules (F : Type 0) : Type 0 where
  -- has it an instruction to issue? If not, it has ended its side
  pub running : F → Bool
  -- one instruction
  pub step : F → Stepped F
  -- of two ended sides, the parent's first, the joined task
  pub join : F → F → F

-- what an evaluation ended with, and its work; `out`: it did not end within the fuel
pub data Ran (F : Type 0) : Type 0 where
  out : Ran F
  ran : F → ℕ → Ran F

-- n more instructions
abbrev pub tally : {F : Type 0} → ℕ → Ran F → Ran F
tally n out = out
tally n (ran e w) = ran e (n + w)

-- two sides and what comes after them, the works added
abbrev pub gather : {F : Type 0} → Ran F → Ran F → (F → F → Ran F) → Ran F
gather out y after = out
gather (ran a u) out after = out
gather (ran a u) (ran b v) after = tally (u + v) (after a b)

module _ {F : Type 0} (R : Rules F) where
  open R use {running, step, join}

  -- one task goes on; of two sides the parent's is evaluated first, then the child's, then their join
  abbrev pub sides : (F → Ran F) → Stepped F → Ran F
  sides go (one g) = go g
  sides go (two p c) = gather (go p) (go c) λ a b. go (join a b)

  -- `fuel` bounds how deep the recursion goes; the work is counted apart
  unfoldable pub eval : ℕ → F → Ran F
  eval zero f = elim (running f) [ true ↦ out | false ↦ ran f 0 ]
  eval (suc fuel) f = elim (running f) [
    | true ↦ tally 1 (sides (λ g. eval fuel g) (step f))
    | false ↦ ran f 0
  ]
