-- A sequence of calls is an order of picks: `proofs/Orders.antt` proves it.
use Rattle.std.specs.Prelude.{◌≡◌, true, List, [], ◌∷◌, ℕ, length}
use Rattle.image.specs.RoundTrip.{Bytes}
use Rattle.drive.specs.declared.State.{State}
use Rattle.machine.specs.Starting.{empty}
use Rattle.machine.specs.Picking.{pick_no, picked}
use Rattle.orders.specs.Demand.{Job, WhateverTheOrder, start_on, played}
use Rattle.state.specs.State.{state_bytes}
use Rattle.state.specs.Reading.{stands_state, state_in}
use Rattle.steps.specs.Buffers.{cells_of, integers_of}
use Rattle.steps.specs.Calls.{started_no, state_after_start, picked_no, state_after_pick, ran_no, run_outcome, state_after_run}

-- what start is lent and given; every pick gets the same program and words
pub record Lent : Type 0 where
  pub program : List ℕ
  pub places : ℕ
  pub interval : ℕ
  pub registers : List ℕ
  pub words : List ℕ

module _ (l : Lent) where
  open l use {program, places, interval, registers, words}

  -- the job that it is
  abbrev pub job_lent : Job
  job_lent = record {
    cells = cells_of program;
    places = places;
    interval = interval;
    registers = integers_of registers;
    words = integers_of words;
  }

  -- start's answer, and the state's buffer after it
  abbrev pub start_answer : List ℕ → ℕ
  start_answer state = started_no program places interval registers words (length state)

  abbrev pub after_start : List ℕ → List ℕ
  after_start state = state_after_start program places interval registers words state

  -- the buffer after calls of pick one after the other, refused ones included
  unfoldable pub after_picks : List ℕ → List ℕ → List ℕ
  after_picks state [] = state
  after_picks state (k ∷ ks) = after_picks (state_after_pick program words k state) ks

  -- the state that the same picks lead to, from the same start
  abbrev pub in_order : List ℕ → State
  in_order ks = played job_lent (start_on job_lent (empty 0 0)) ks

-- of a start on the state's buffer and the calls of pick after it
pub record CallsAre (l : Lent) (state : List ℕ) (ks : List ℕ) : Type 0 where
  -- the buffer holds the bytes of the state that the picks lead to, and stands for it
  pub its_bytes : after_picks l (after_start l state) ks ≡ state_bytes (in_order l ks)
  pub its_state : state_in (after_picks l (after_start l state) ks) ≡ in_order l ks
  pub stands : stands_state (after_picks l (after_start l state) ks) ≡ true
  -- the next call answers as the next pick does
  pub next_answer : (k : ℕ) → picked_no l.program l.words k (after_picks l (after_start l state) ks)
      ≡ pick_no (cells_of l.program) (integers_of l.words) (in_order l ks) k
  -- so demand 3 holds of them
  pub whatever_the_order : WhateverTheOrder (job_lent l) (start_on (job_lent l) (empty 0 0)) ks

-- for everything that start does not refuse, whatever the state's buffer held, and for every list of numbers as slots
abbrev pub CallsAreAnOrder : Type 0
CallsAreAnOrder = (l : Lent) (state : List ℕ) → start_answer l state ≡ 0 → (ks : List ℕ) → CallsAre l state ks

-- ---- From any bytes that stand for a state, reached or not: after an accepted call they stand for the new one

pub record GoesOn (program words state : List ℕ) : Type 0 where
  pub after_pick : (k : ℕ) → picked_no program words k state ≡ 0
      → (stands_state (state_after_pick program words k state) ≡ true)
      × (state_in (state_after_pick program words k state) ≡ picked (cells_of program) (integers_of words) (state_in state) k)
  pub after_run : (budget report : ℕ) → ran_no program words state report ≡ 0
      → (stands_state (state_after_run program words budget state report) ≡ true)
      × (state_in (state_after_run program words budget state report) ≡ (run_outcome program words budget state).machine.state)

abbrev pub EveryBufferGoesOn : Type 0
EveryBufferGoesOn = (program words state : List ℕ) → Bytes state → stands_state state ≡ true → GoesOn program words state
