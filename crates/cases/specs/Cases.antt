-- A worked case: what a job is given, and what document 01 says that it comes to, by the plain evaluation and in every order of picks.
use Rattle.std.specs.Prelude.{◌≡◌, ℕ, zero, suc, ◌+◌, ℤ}
use mathlib.Core.List.{List, [], ◌∷◌, ◌++◌, Memᴰ}
use Rattle.image.specs.Layout.{cells_in}
use Rattle.image.specs.Doors.{image_no}
use Rattle.task.specs.declared.Value.{Value}
use Rattle.task.specs.declared.Frame.{Frame}
use Rattle.task.specs.Step.{register}
use Rattle.drive.specs.declared.State.{State}
use Rattle.drive.specs.declared.End.{End}
use Rattle.drive.specs.Slots.{at}
use Rattle.drive.specs.Ending.{end_of}
use Rattle.orders.specs.Demand.{Job, Accepted, start_on, played, Ends}
use Rattle.orders.specs.Complete.{Complete}

-- the bytes of an image, P, interval, start registers and words
pub record Given : Type 0 where
  pub image : List ℕ
  pub places : ℕ
  pub interval : ℕ
  pub registers : List ℤ
  pub words : List ℤ

-- a register, and what it holds at the end
pub data Held : Type 0 where
  held : ℕ → Value → Held

pub record Outcome : Type 0 where
  pub end : End
  pub work : ℕ
  pub span : ℕ
  pub registers : List Held

pub record Case : Type 0 where
  pub given : Given
  -- orders of picks that end the job, besides passes over all slots
  pub orders : List (List ℕ)
  pub outcome : Outcome

-- ---- Its job, and orders of picks

-- the program is what the reader makes of the image
abbrev pub job_of : Case → Job
job_of x = record {
  cells = cells_in x.given.image;
  places = x.given.places;
  interval = x.given.interval;
  registers = x.given.registers;
  words = x.given.words;
}

-- the state that start hands back, called on the state m; and the state after the order ks
abbrev pub start : Case → State → State
start x m = start_on (job_of x) m

abbrev pub after : Case → State → List ℕ → State
after x m ks = played (job_of x) (start x m) ks

-- n slots, from i on
abbrev pub slots_from : ℕ → ℕ → List ℕ
slots_from zero i = []
slots_from (suc n) i = i ∷ slots_from n (i + 1)

-- n passes over some slots
abbrev pub passes_over : List ℕ → ℕ → List ℕ
passes_over slots zero = []
passes_over slots (suc n) = slots ++ passes_over slots n

-- slots 0 to P - 1 again and again, a pass for each instruction; and the case's own
abbrev pub orders_of : Case → List (List ℕ)
orders_of x = passes_over (slots_from x.given.places 0) x.outcome.work ∷ x.orders

-- ---- What a case says

-- the frame f and the work that its job ends with are the outcome's, and the last task has all places
pub record Shows (x : Case) (f : Frame) (work : ℕ) : Type 0 where
  pub its_end : end_of f ≡ x.outcome.end
  pub its_work : work ≡ x.outcome.work
  pub its_span : f.task.span ≡ x.outcome.span
  pub its_registers : (r : ℕ) (v : Value) → Memᴰ (held r v) x.outcome.registers → register f r ≡ v
  pub its_places : f.task.places ≡ x.given.places

pub record Right (x : Case) : Type 0 where
  -- the reader and start accept it
  pub image_accepted : image_no x.given.image ≡ 0
  pub start_accepted : Accepted (job_of x)
  -- the plain evaluation ends within the limit, with the outcome
  pub evaluated : (e : Frame) × Ends (job_of x) e x.outcome.work × Shows x e x.outcome.work
  -- the orders above are complete, whatever state start was called on
  pub orders_complete : (m : State) (ks : List ℕ) → Memᴰ ks (orders_of x) → Complete (job_of x) (start x m) ks
  -- they and all other complete orders end with the outcome
  pub orders_show : (m : State) (ks : List ℕ) → Complete (job_of x) (start x m) ks → Shows x (at (after x m ks) 0) (after x m ks).work
