-- Demand 3: whatever the order of picks, a job agrees with its plain evaluation. It speaks of whole orders, and of any start and pick.
-- Ours, as `machine` defines them, are one instance: `proofs/Demand.antt` proves it of them, and `teeth` that it is false of wrong ones.
-- What it rests on, in reading order: agreement's Plain (the evaluation) and Slots (what an instruction does to the slots), image's Program,
-- task's Frames, Values, Choices, Effect and Step (an instruction, a join), drive's Slots, Ending and Issue, machine's Starting and Picking. The
-- shape test that a pick makes (drive's Shape) refuses no pick of an order: Shapes.antt.
use Rattle.std.specs.Prelude.{ℕ, ◌+◌, ◌≤◌, ◌<◌, ◌≡◌, true, false, List, [], ◌∷◌, eqb, ℤ}
use Rattle.agreement.specs.Plain.{Ran, ran, eval}
use Rattle.agreement.specs.Picks.{if_picked, once}
use Rattle.image.specs.Program.{Program}
use Rattle.image.specs.Layout.{program_of}
use Rattle.task.specs.declared.Frame.{Frame}
use Rattle.task.specs.Frames.{running, integers, start_frame, work_limit}
use Rattle.task.specs.Choices.{Choices, chosen}
use Rattle.task.specs.Step.{step, join}
use Rattle.drive.specs.declared.State.{State}
use Rattle.drive.specs.Slots.{at}
use Rattle.drive.specs.Ending.{end_of, ending, job_ended}
use Rattle.machine.specs.Starting.{start_no, started}
use Rattle.machine.specs.Picking.{pick_no, picked}

-- what start is given: a program, P, the interval, start registers and a call record
pub record Job : Type 0 where
  pub cells : List ℕ
  pub places : ℕ
  pub interval : ℕ
  pub registers : List ℤ
  pub words : List ℤ

-- what start and pick answer, 0 or the number of a refusal, and the states that they hand back
pub record Engine : Type 0 where
  -- given a program, P, the interval, start registers and a call record; called on a state
  pub start_no : List ℕ → ℕ → ℕ → List ℤ → List ℤ → ℕ
  pub started : State → List ℕ → ℕ → ℕ → List ℤ → List ℤ → State
  -- given a program and a call record; called on a state, with a slot
  pub pick_no : List ℕ → List ℤ → State → ℕ → ℕ
  pub picked : List ℕ → List ℤ → State → ℕ → State

module _ (engine : Engine) (j : Job) where
  open j use {cells, places, interval, registers, words}

  -- start does not refuse it
  abbrev pub AcceptedOf : Type 0
  AcceptedOf = engine.start_no cells places interval registers words ≡ 0

  -- the state that start hands back, called on the state m
  abbrev pub start_of : State → State
  start_of m = engine.started m cells places interval registers words

  -- ---- Orders. All picks get start's program and call record

  -- a list of picks of any slots, refused ones included: each gets the state that the one before handed back
  unfoldable pub played_of : State → List ℕ → State
  played_of m [] = m
  played_of m (k ∷ ks) = played_of (engine.picked cells words m k) ks

  -- the picks of an order that are carried out, that is, not refused, each counted as much as `count` says of its slot
  unfoldable pub carried_out_of : (ℕ → ℕ) → State → List ℕ → ℕ
  carried_out_of count m [] = 0
  carried_out_of count m (k ∷ ks) = if_picked (eqb (engine.pick_no cells words m k) 0) (count k) + carried_out_of count (engine.picked cells words m k) ks

  -- a task can be picked
  abbrev pub PickableOf : State → Type 0
  PickableOf m = (k : ℕ) × (engine.pick_no cells words m k ≡ 0)

-- ---- The plain evaluation. It is fed the program and the job's start, and knows no picks, slots or buffers

abbrev pub evaluation_of : Program → Choices → ℕ → List ℤ → List ℤ → ℕ → Ran Frame
evaluation_of program choices places registers words fuel =
    eval (record { running = running; step = step program words choices; join = join program }) fuel
    (start_frame places (integers registers))

-- two buffers that hold the same program have the same evaluation. `proofs/Programs.antt` proves it
abbrev pub SameProgram : Type 0
SameProgram =
    (x y : List ℕ) → program_of x ≡ program_of y → (choices : Choices) (places : ℕ) (registers words : List ℤ) (fuel : ℕ)
    → evaluation_of (program_of x) choices places registers words fuel ≡ evaluation_of (program_of y) choices places registers words fuel

module _ (j : Job) where
  open j use {cells, places, interval, registers, words}

  abbrev pub evaluation : ℕ → Ran Frame
  evaluation fuel = evaluation_of (program_of cells) (chosen interval) places registers words fuel

  -- it ends with the frame e and the work W, within the limit. (The fuel bounds how deep its recursion goes. Each level issues an
  -- instruction, so that the limit is fuel enough)
  pub record Ends (e : Frame) (W : ℕ) : Type 0 where
    pub evaluates : evaluation work_limit ≡ ran e W
    pub within_limit : W ≤ work_limit

-- ---- What the state m after an order is like

-- where the evaluation ends with e and W, and the job has ended
pub record SameResult (m : State) (e : Frame) (W : ℕ) : Type 0 where
  -- halt or fault, and the fault's number
  pub its_same_end : ending m ≡ end_of e
  pub same_registers : (at m 0).registers ≡ e.registers
  pub same_span : (at m 0).task.span ≡ e.task.span
  pub same_work : m.work ≡ W
  -- in all it is the same task
  pub same_task : at m 0 ≡ e

-- where the evaluation ends with e and W
pub record AgreesOf (engine : Engine) (j : Job) (m : State) (e : Frame) (W : ℕ) : Type 0 where
  pub work_never_above : m.work ≤ W
  pub ended_when_equal : m.work ≡ W → job_ended m ≡ true
  pub equal_when_ended : job_ended m ≡ true → m.work ≡ W
  pub then_same_result : job_ended m ≡ true → SameResult m e W
  pub before_that_pickable : m.work < W → PickableOf engine j m

-- where it doesn't end within the limit
pub record UnendingOf (engine : Engine) (j : Job) (m : State) : Type 0 where
  pub never_ended : job_ended m ≡ false
  pub below_limit_pickable : m.work < work_limit → PickableOf engine j m

-- ---- The demand

-- of the order ks from the state m₀ that start handed back
pub record WhateverTheOrderOf (engine : Engine) (j : Job) (m₀ : State) (ks : List ℕ) : Type 0 where
  pub work_counted : (played_of engine j m₀ ks).work ≡ carried_out_of engine j once m₀ ks
  pub where_it_ends : (e : Frame) (W : ℕ) → Ends j e W → AgreesOf engine j (played_of engine j m₀ ks) e W
  pub where_it_does_not_end : ((e : Frame) (W : ℕ) → Ends j e W → ⊥) → UnendingOf engine j (played_of engine j m₀ ks)

-- for every job that start does not refuse, whatever state it was called on, and for every list of numbers as slots
abbrev pub Demand3Of : Engine → Type 0
Demand3Of engine = (j : Job) → AcceptedOf engine j → (m : State) (ks : List ℕ) → WhateverTheOrderOf engine j (start_of engine j m) ks

-- ---- Of our start and pick

abbrev pub ours : Engine
ours = record { start_no = start_no; started = started; pick_no = pick_no; picked = picked }

abbrev pub Accepted : Job → Type 0
Accepted j = AcceptedOf ours j

abbrev pub start_on : Job → State → State
start_on j m = start_of ours j m

abbrev pub played : Job → State → List ℕ → State
played j m ks = played_of ours j m ks

abbrev pub carried_out : Job → (ℕ → ℕ) → State → List ℕ → ℕ
carried_out j count m ks = carried_out_of ours j count m ks

abbrev pub Pickable : Job → State → Type 0
Pickable j m = PickableOf ours j m

abbrev pub Agrees : Job → State → Frame → ℕ → Type 0
Agrees j m e W = AgreesOf ours j m e W

abbrev pub Unending : Job → State → Type 0
Unending j m = UnendingOf ours j m

abbrev pub WhateverTheOrder : Job → State → List ℕ → Type 0
WhateverTheOrder j m₀ ks = WhateverTheOrderOf ours j m₀ ks

abbrev pub Demand3 : Type 0
Demand3 = Demand3Of ours

-- an evaluation with any fuel that ends within the limit is the one that counts
abbrev pub AnyFuel : Type 0
AnyFuel = (j : Job) (fuel : ℕ) (e : Frame) (W : ℕ) → evaluation j fuel ≡ ran e W → W ≤ work_limit → Ends j e W
