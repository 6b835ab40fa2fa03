-- The plain evaluation in its own order, one task at a time: a task in hand, the forks that it stands inside, and a budget of
-- instructions. At a fork the parent's side is taken in hand, and the child's is left pending; when the parent's has ended, the child's
-- is taken; when both have, their join. The statement at the end: it finds what `eval` finds.
use Rattle.std.specs.Prelude.{ℕ, zero, suc, ◌-◌, ◌≤◌, ◌≡◌, true, false, List, [], ◌∷◌, leb}
use Rattle.agreement.specs.Plain.{Stepped, one, two, Rules, Ran, out, ran, eval}

-- an open fork. The parent's side is in hand, and the child's still to come; or the parent's has ended, and the child's is in hand
pub data Open (F : Type 0) : Type 0 where
  to_come : F → Open F
  finished : F → Open F

-- the forks that a task stands inside, innermost first
abbrev pub Pending : Type 0 → Type 0
Pending F = List (Open F)

-- the task in hand, and those forks
pub data Held (F : Type 0) : Type 0 where
  held : F → Pending F → Held F

-- what it ended with, and what is left of the budget; or the budget was used up before
pub data Outcome (F : Type 0) : Type 0 where
  spent : Outcome F
  done : F → ℕ → Outcome F

module _ {F : Type 0} (R : Rules F) where
  open R use {running, step, join}

  -- the task in hand has ended its side: the innermost fork's other side is taken, or the fork closed, and so on outward
  unfoldable pub outward : Pending F → F → Held F
  outward [] f = held f []
  outward (to_come c ∷ s) f = elim (running c) [
    | true ↦ held c (finished f ∷ s)
    | false ↦ elim (running (join f c)) [ true ↦ held (join f c) s | false ↦ outward s (join f c) ]
  ]
  outward (finished p ∷ s) f = elim (running (join p f)) [ true ↦ held (join p f) s | false ↦ outward s (join p f) ]

  -- a task, ended or not: where the evaluation goes on
  unfoldable pub onward : F → Pending F → Held F
  onward f s = elim (running f) [ true ↦ held f s | false ↦ outward s f ]

  -- what one instruction of the task in hand leads to
  abbrev pub taken : Pending F → Stepped F → Held F
  taken s (one g) = onward g s
  taken s (two p c) = onward p (to_come c ∷ s)

  -- at most n instructions
  unfoldable pub run : ℕ → Held F → Outcome F
  run zero (held f s) = elim (running f) [ true ↦ spent | false ↦ done f 0 ]
  run (suc n) (held f s) = elim (running f) [ true ↦ run n (taken s (step f)) | false ↦ done f (suc n) ]

-- ---- The statement

-- what an evaluation says of a budget of n: where its work is at most n, it is done, and the rest is left
abbrev pub within_budget : {F : Type 0} → ℕ → Ran F → Outcome F
within_budget n out = spent
within_budget n (ran e w) = elim (leb w n) [ true ↦ done e (n - w) | false ↦ spent ]

-- within a budget of n, from a fresh task on, is what the plain evaluation says of that budget, whatever fuel it has from n on
abbrev pub SerialIsPlain : {F : Type 0} → Rules F → Type 0
SerialIsPlain {F} R = (n m : ℕ) → n ≤ m → (f : F) → run R n (onward R f []) ≡ within_budget n (eval R m f)
