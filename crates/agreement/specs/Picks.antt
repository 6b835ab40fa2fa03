-- Picks: one carried out or refused, a list of them, and how many were carried out.
use Rattle.std.specs.Prelude.{ℕ, ◌+◌, Bool, true, false, ◌&&◌, List, [], ◌∷◌, eqb, ltb}
use Rattle.agreement.specs.Plain.{Stepped, Rules}
use Rattle.agreement.specs.Slots.{Slots, side_ended, carry}

-- One job's machine: its program, call record, interval and places are fixed.
pub record Model (F S : Type 0) : Type 0 where
  pub slots : Slots F S
  -- one instruction of one task
  pub step : F → Stepped F
  -- P: the job has the slots below it
  pub job_places : ℕ
  -- the most work that a state can show
  pub limit : ℕ
  pub work : S → ℕ
  -- 1 more work
  pub tick : S → S

-- what its tasks do by themselves: all that the plain evaluation is given
abbrev pub rules : {F S : Type 0} → Model F S → Rules F
rules M = record { running = M.slots.running; step = M.step; join = M.slots.join }

abbrev pub if_picked : Bool → ℕ → ℕ
if_picked true n = n
if_picked false n = 0

-- every pick counted
abbrev pub once : ℕ → ℕ
once k = 1

-- the picks of slot i counted, and no others
abbrev pub only_at : ℕ → ℕ → ℕ
only_at i k = if_picked (eqb k i) 1

module _ {F S : Type 0} (M : Model F S) where
  open M use {slots, step, job_places, limit, work, tick}
  open slots use {running, at}

  -- has the job ended?
  abbrev pub job_ended : S → Bool
  job_ended m = side_ended slots m 0 0

  -- is a pick of slot k carried out? (That the job has not ended is no test of its own: an ended job has no running task.)
  abbrev pub can_pick : S → ℕ → Bool
  can_pick m k = ltb k job_places && (running (at m k) && ltb (work m) limit)

  -- a refused pick hands back the old state
  unfoldable pub pick : S → ℕ → S
  pick m k = elim (can_pick m k) [ true ↦ tick (carry slots step m k) | false ↦ m ]

  -- an order: picks of any slots, refused ones included
  unfoldable pub play : S → List ℕ → S
  play m [] = m
  play m (k ∷ ks) = play (pick m k) ks

  -- the picks of an order that are carried out, each by the weight of its slot
  unfoldable pub carried_out : (ℕ → ℕ) → S → List ℕ → ℕ
  carried_out count m [] = 0
  carried_out count m (k ∷ ks) = if_picked (can_pick m k) (count k) + carried_out count (pick m k) ks
