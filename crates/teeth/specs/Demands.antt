-- What document 01 demands besides demand 3, over any reader, start, pick and run, as far as its list of wrong machines needs it.
-- `proofs/Ours.antt` proves it of ours.
use Rattle.std.specs.Prelude.{ℕ, ◌≤◌, ◌≡◌, ◌⊎◌, false, ℤ, length}
use mathlib.Core.List.{List, [], ◌∷◌, Memᴰ}
use Rattle.image.specs.Layout.{image_of}
use Rattle.image.specs.Questions.{program_no}
use Rattle.image.specs.RoundTrip.{Cells, Writes}
use Rattle.drive.specs.declared.State.{State}
use Rattle.machine.specs.Outcome.{Outcome}
use Rattle.task.specs.Frames.{work_limit}
use Rattle.drive.specs.Issue.{issued}
use Rattle.orders.specs.Demand.{Job, Engine, AcceptedOf, Accepted, start_on, played}
use Rattle.orders.specs.Runs.{RunAfter}

-- ---- No good input is refused

-- what a reader answers to the bytes of an image: the image of every program that the writer accepts is accepted
abbrev pub NoGoodImageRefused : (List ℕ → ℕ) → Type 0
NoGoodImageRefused reader = (cells : List ℕ) → Cells cells → Writes cells → reader (image_of cells) ≡ 0

-- start's questions, each answered with yes
pub record GoodJob (j : Job) : Type 0 where
  -- the program's, 3, 4 and 6 to 9
  pub program_accepted : program_no j.cells ≡ 0
  -- P allowed? (11)
  pub its_places_allowed : Memᴰ j.places (1 ∷ 2 ∷ 4 ∷ 8 ∷ 16 ∷ 32 ∷ 64 ∷ [])
  -- Interval 0 or 8 to 65,535? (12)
  pub its_interval_allowed : (j.interval ≡ 0) ⊎ ((8 ≤ j.interval) × (j.interval ≤ 65535))
  -- Sixteen registers? (13)
  pub sixteen_registers : length j.registers ≡ 16
  -- At most 4,096 words? (14)
  pub words_few : length j.words ≤ 4096
  -- Every lent buffer of the length docs/ names? (15)
  pub whole_buffer : length j.cells ≡ 5891

abbrev pub NoGoodJobRefused : Engine → Type 0
NoGoodJobRefused engine = (j : Job) → GoodJob j → AcceptedOf engine j

-- ---- The state after each pick

pub record PickIssues (engine : Engine) (cells : List ℕ) (words : List ℤ) (m : State) (k : ℕ) : Type 0 where
  -- a carried-out pick issues one instruction of that slot's task, makes the joins that are due, and adds 1 to the work
  pub one_instruction : engine.pick_no cells words m k ≡ 0 → engine.picked cells words m k ≡ issued cells words m k
  -- a refused pick hands back the old
  pub old_state : (engine.pick_no cells words m k ≡ 0 → ⊥) → engine.picked cells words m k ≡ m

-- in every state, reached or not
abbrev pub EachPickIssues : Engine → Type 0
EachPickIssues engine = (cells : List ℕ) (words : List ℤ) (m : State) (k : ℕ) → PickIssues engine cells words m k

-- ---- The budgeted run

-- what a run hands back, given a program, a call record, a state and a budget
abbrev pub Runner : Type 0
Runner = List ℕ → List ℤ → State → ℕ → Outcome

-- what a run of budget b answers after the order ks from the state m₀ that start handed back
pub record RunAnswers (j : Job) (m₀ : State) (ks : List ℕ) (b : ℕ) (o : Outcome) : Type 0 where
  -- its picks are an order that goes on where ks stopped; it reports as many, and says ended exactly where the job has ended
  pub an_order : RunAfter j m₀ ks o
  pub its_within_budget : o.picks ≤ b
  -- spent once it has carried out exactly the budget's picks or the work stands at the limit
  pub spent_when : o.ended ≡ false → (o.picks ≡ b) ⊎ (work_limit ≤ o.machine.state.work)

-- for every job that start does not refuse, whatever was picked before, and every budget
abbrev pub SpentWhenDue : Runner → Type 0
SpentWhenDue runner =
    (j : Job) → Accepted j → (m : State) (ks : List ℕ) (b : ℕ)
    → RunAnswers j (start_on j m) ks b (runner j.cells j.words (played j (start_on j m) ks) b)
