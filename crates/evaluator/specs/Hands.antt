-- The task in hand as numbers (`Hand`), registers and a stretch of the pile, and the other side of each fork that it stands inside as numbers
-- (`Kept`), a bank and a stretch: what they mean as frames, and as a point of `serial`'s run.
use Rattle.std.specs.Prelude.{◌≡◌, Bool, true, cond, List, [], ◌∷◌, ℕ, zero, suc, ◌+◌, ◌*◌, ◌-◌, ◌/◌, ◌^◌, ◌<◌, ◌≤◌, max, eqb, ℤ, length, get_or, set}
use Rattle.image.specs.Layout.{program_of}
use Rattle.agreement.specs.Plain.{Stepped, one, two}
use Rattle.serial.specs.Serial.{Pending, onward, Outcome, spent, done, run}
use Rattle.task.specs.declared.Register.{Register}
use Rattle.task.specs.declared.Status.{Status}
use Rattle.task.specs.declared.Status.TheVariants.{Vacant, Running, Waiting, Halted, Faulted}
use Rattle.task.specs.declared.Fork.{Fork}
use Rattle.task.specs.declared.Frame.{Frame}
use Rattle.task.specs.declared.Kind.{Kind}
use Rattle.task.specs.declared.Kind.TheVariants.{Stores, Goes, Pushes, Pops, Waits, Halts, Faults, Forks}
use Rattle.task.specs.declared.Executed.{Executed}
use Rattle.task.specs.Frames.{zeros, stack_length, no_forks, is_running, work_limit}
use Rattle.task.specs.Values.{record_of}
use Rattle.task.specs.Formed.{value_fits}
use Rattle.arms.specs.declared.Registers.{Registers}
use Rattle.evaluator.specs.declared.Hand.{Hand}
use Rattle.evaluator.specs.declared.Kept.{Kept}
use Rattle.evaluator.specs.declared.Ran.{Ran}
use Rattle.evaluator.specs.declared.Rows.{Rows}
use Rattle.evaluator.specs.declared.Finished.{Finished}
use Rattle.arms.specs.Registers.{value_of, registers_of, Sized, in_register}
use Rattle.evaluator.specs.Banks.{bank_of, no_bank, bank_at, fork_of, forks_of, Nested}
use Rattle.arms.specs.Stacks.{Stacked, stack_of}
use Rattle.arms.specs.Arms.{IfOn}
use Rattle.arms.specs.Turns.{rules, Ends}
use Rattle.evaluator.specs.Sides.{Side, frame_of, open_of, Base, Good, made_of}

-- ---- Frames

-- a faulted task's registers are 16 integers 0, whatever the rows hold
abbrev pub registers_from : Status → List Register → List Register
registers_from Vacant l = l
registers_from Running l = l
registers_from Waiting l = l
registers_from Halted l = l
registers_from (Faulted n) l = zeros

-- with the stack u: that of a faulted task has height 0, and so is empty, whatever the rows hold
abbrev pub frame_from : Status → ℕ → ℕ → List Fork → ℕ → ℕ → ℕ → Stacked → List Register → Frame
frame_from status places depth forks pc counter span u registers = record {
  task = record {
    status = status;
    places = places;
    pc = pc;
    counter = counter;
    span = span;
    depth = depth;
    height = u.height;
    forks = forks;
  };
  registers = registers_from status registers;
  stack = u.values;
}

-- ---- The rows

-- the counter is the difference of `beat` and what is left of the budget, the span that of `spun`
abbrev pub hand_frame : Hand → Rows → Frame
hand_frame h r = frame_from h.status h.places h.depth (forks_of r.records h.depth) (h.pc / 4) (h.beat - h.left) (h.spun - h.left)
    (stack_of r.pile.nums r.pile.kinds h.low h.height) (bank_of r.registers)

-- the side that is kept at depth d, where there is one
abbrev pub kept_of : List Kept → ℕ → Kept
kept_of sides d = get_or sides d (record { status = Vacant; places = 0; pc = 0; span = 0; height = 0 })

-- where the next stack begins, above a side with this status (one that runs is still to come, and its stack is empty)
abbrev pub above : Status → ℕ → ℕ
above s low = cond (is_running s) low (low + stack_length)

-- where a stack inside the outermost d forks begins: above those of their sides that have ended
unfoldable pub low_of : List Kept → ℕ → ℕ
low_of sides zero = 0
low_of sides (suc d) = above (kept_of sides d).status (low_of sides d)

-- the numbers of one side are stored, and no others
pub record Keeps (sides : List Kept) (d : ℕ) (k : Kept) (sides' : List Kept) : Type 0 where
  pub same_length : length sides' ≡ length sides
  pub there : kept_of sides' d ≡ k
  pub elsewhere : (i : ℕ) → (i ≡ d → ⊥) → kept_of sides' i ≡ kept_of sides i

-- of the fork opened at depth d
abbrev pub kept_frame : Rows → ℕ → Frame
kept_frame r d =
    let k = kept_of r.sides d in
    frame_from k.status k.places (d + 1) (forks_of r.records (d + 1)) (k.pc / 4) 0 k.span
    (stack_of r.pile.nums r.pile.kinds (low_of r.sides d) k.height) (bank_at r.banks d)

-- the innermost n forks, by their kept sides
unfoldable pub pending_from : (ℕ → Frame) → ℕ → Pending Frame
pending_from kept zero = []
pending_from kept (suc d) = open_of (kept d) ∷ pending_from kept d

-- the arrays have the lengths of their types, which a value in a law does not carry
pub record Full (r : Rows) : Type 0 where
  pub sized : Sized r.registers.nums r.registers.kinds
  pub banks_full : length r.banks ≡ 6
  pub banks_sized : (d : ℕ) → d < 6 → let b = get_or r.banks d no_bank in Sized b.nums b.kinds
  pub records_full : length r.records ≡ 6
  pub sides_full : length r.sides ≡ 6
  pub pile_full : length r.pile.nums ≡ 224
  pub tags_full : length r.pile.kinds ≡ 224

-- the stack in hand lies above those of the sides that have ended, so that a push leaves them as they are; a side to come has an empty one
pub record Piled (h : Hand) (sides : List Kept) : Type 0 where
  pub own_low : h.low ≡ low_of sides h.depth
  pub none_yet : (i : ℕ) → i < h.depth → (kept_of sides i).status ≡ Running → (kept_of sides i).height ≡ 0

-- ---- A point of the run

pub record Point (cells : List ℕ) (h : Hand) (r : Rows) : Type 0 where
  pub rank : ℕ
  pub height : ℕ
  pub room : rank ≤ 6
  pub limited : h.left ≤ work_limit
  pub own_good : Good cells rank height (work_limit - h.left) (hand_frame h r)
  pub kept_good : (i : ℕ) → i < h.depth → Good cells rank (rank - (i + 1)) (work_limit - h.left) (kept_frame r i)
  pub full : Full r
  pub piled : Piled h r.sides
  pub nested : Nested r.records h.depth
  pub on_place : h.pc ≡ 4 * (h.pc / 4)
  pub kept_on_place : (i : ℕ) → i < h.depth → (kept_of r.sides i).pc ≡ 4 * ((kept_of r.sides i).pc / 4)
  pub counter_least : h.left ≤ h.beat
  pub span_least : h.left ≤ h.spun

-- what is found from there
abbrev pub found : List ℕ → List ℤ → ℕ → Hand → Rows → Outcome Frame
found cells words interval h r =
    run (rules cells words interval) h.left (onward (rules cells words interval) (hand_frame h r) (pending_from (kept_frame r) h.depth))

-- from one to the other
pub record LeadsTo (cells : List ℕ) (words : List ℤ) (interval : ℕ) (h : Hand) (r : Rows) (h' : Hand) (r' : Rows) : Type 0 where
  pub point : Point cells h' r'
  pub its_same_end : found cells words interval h r ≡ found cells words interval h' r'

-- ---- The start

abbrev pub first_hand : ℕ → ℕ → Hand
first_hand places budget =
    record { status = Running; places = places; depth = 0; pc = 0; beat = budget; left = budget; spun = budget; low = 0; height = 0 }

-- ---- One instruction

-- where a running task's instructions by itself end: the budget is used up, or there is one that it does not carry out by itself
pub record Rests (cells : List ℕ) (words : List ℤ) (interval : ℕ) (h : Hand) (z : Ran) (registers : List Register) : Type 0 where
  pub still_runs : z.hand.status ≡ Running
  pub fewer : z.hand.left ≤ h.left
  pub when_spent : IfOn z.way (z.hand.left ≡ 0)
  pub when_not : IfOn z.way ⊥ → (0 < z.hand.left)
      × Ends cells words interval z.hand.places z.hand.depth z.way (z.hand.pc / 4) (z.hand.beat - z.hand.left) registers

-- the task in hand, where it runs
abbrev pub hand_side : Hand → List ℕ → Registers → Side
hand_side h records registers = record {
  task = record {
    status = Running;
    places = h.places;
    pc = h.pc / 4;
    counter = h.beat - h.left;
    span = h.spun - h.left;
    depth = h.depth;
    height = h.height;
    forks = forks_of records h.depth;
  };
  registers = registers;
}

-- what it leaves of the numbers: the task goes on or has ended, with a stack of this height; or goes on as the parent's side of a fork, whose
-- child's is kept
abbrev pub gone_on : Hand → ℕ → ℕ → ℕ → Hand
gone_on h pc counter height = record {
  status = Running;
  places = h.places;
  depth = h.depth;
  pc = 4 * pc;
  beat = h.left - 1 + counter;
  left = h.left - 1;
  spun = h.spun;
  low = h.low;
  height = height;
}

abbrev pub ended_with : Hand → Status → ℕ → Hand
ended_with h status height = record {
  status = status;
  places = h.places;
  depth = h.depth;
  pc = 0;
  beat = h.left - 1;
  left = h.left - 1;
  spun = h.spun;
  low = h.low;
  height = height;
}

abbrev pub parent_of : Hand → ℕ → ℕ → Hand
parent_of h pc counter = record {
  status = Running;
  places = h.places / 2;
  depth = h.depth + 1;
  pc = 4 * pc;
  beat = h.left - 1 + counter;
  left = h.left - 1;
  spun = h.spun;
  low = h.low;
  height = h.height;
}

abbrev pub child_of : Hand → ℕ → Kept
child_of h child = record { status = Running; places = h.places / 2; pc = 4 * child; span = h.spun - (h.left - 1); height = 0 }

-- a push: no place is left (42), or the value is stored above the others
pub record Pushed (h : Hand) (e : Executed) (pile tags : List ℕ) (z : Hand) (pile' tags' : List ℕ) : Type 0 where
  pub no_place : 32 ≤ h.height → (z ≡ ended_with h (Faulted 42) 0) × (pile' ≡ pile) × (tags' ≡ tags)
  pub its_has_place : h.height < 32 → (u : ℕ) × (k : ℕ) × (value_of k u ≡ e.value) × (z ≡ gone_on h e.pc e.counter (h.height + 1))
      × (pile' ≡ set pile (h.low + h.height) u) × (tags' ≡ set tags (h.low + h.height) k)

-- a pop: there is none (43), or the last one goes to r
pub record Popped (h : Hand) (r : ℕ) (e : Executed) (pile tags nums kinds : List ℕ) (z : Hand) (nums' kinds' : List ℕ) : Type 0 where
  pub no_value : h.height ≡ 0 → (z ≡ ended_with h (Faulted 43) 0) × (nums' ≡ nums) × (kinds' ≡ kinds)
  pub has_value : 0 < h.height → (z ≡ gone_on h e.pc e.counter (h.height - 1))
      × (nums' ≡ set nums r (get_or pile (h.low + (h.height - 1)) 0)) × (kinds' ≡ set kinds r (get_or tags (h.low + (h.height - 1)) 0))

-- one task, or two sides
abbrev pub stepped_in : Kind → Frame → Frame → Stepped Frame
stepped_in Stores p c = one p
stepped_in Goes p c = one p
stepped_in Pushes p c = one p
stepped_in Pops p c = one p
stepped_in Waits p c = one p
stepped_in Halts p c = one p
stepped_in Faults p c = one p
stepped_in Forks p c = two p c

-- the task in hand as a running one, with its stack
abbrev pub own_frame : Hand → Rows → Frame
own_frame h r = frame_of (hand_side h r.records r.registers) (stack_of r.pile.nums r.pile.kinds h.low h.height).values

-- what an instruction e, whose register is r, makes of a running task in hand
pub record Applied (h : Hand) (rows : Rows) (r : ℕ) (e : Executed) (z : Hand) (rows' : Rows) : Type 0 where
  pub made : stepped_in e.kind (hand_frame z rows') (kept_frame rows' h.depth) ≡ made_of e.kind (own_frame h rows) r e
  pub same_below : (i : ℕ) → i < h.depth → kept_frame rows' i ≡ kept_frame rows i
  pub same_kept : (i : ℕ) → i < h.depth → kept_of rows'.sides i ≡ kept_of rows.sides i
  pub child_kept : e.kind ≡ Forks → kept_of rows'.sides h.depth ≡ child_of h e.child
  pub same_forks : (i : ℕ) → i ≤ h.depth → forks_of rows'.records i ≡ forks_of rows.records i
  pub record_kept : e.kind ≡ Forks → fork_of (get_or rows'.records h.depth 0) ≡ record_of e.value
  pub still_full : Full rows'
  pub less : z.left ≡ h.left - 1
  pub on_place : z.pc ≡ 4 * (z.pc / 4)
  pub counter_least : z.left ≤ z.beat
  pub same_spun : z.spun ≡ h.spun
  pub same_low : z.low ≡ h.low

-- ---- A side that has ended

-- as it is kept
abbrev pub side_of : Hand → Kept
side_of h = record { status = h.status; places = h.places; pc = h.pc; span = h.spun - h.left; height = h.height }

-- the other side, taken in hand: its stack lies above that of the side that has ended
abbrev pub other_of : Hand → Kept → Hand
other_of h k = record {
  status = k.status;
  places = k.places;
  depth = h.depth;
  pc = k.pc;
  beat = h.left;
  left = h.left;
  spun = h.left + k.span;
  low = h.low + 32;
  height = k.height;
}

-- the task that both make, with this status at pc; its stack is the parent's, with this height
abbrev pub joined_of : Hand → Kept → Status → ℕ → ℕ → Hand
joined_of h k status pc height = record {
  status = status;
  places = k.places + h.places;
  depth = h.depth - 1;
  pc = pc;
  beat = h.left;
  left = h.left;
  spun = h.left + max k.span (h.spun - h.left);
  low = h.low - 32;
  height = height;
}

-- ---- The end

-- a task that has ended, inside no fork
abbrev pub last_frame : Status → ℕ → ℕ → Stacked → List Register → Frame
last_frame status places span u registers = frame_from status places 0 no_forks 0 0 span u registers

-- one that runs has used up its budget
abbrev pub outcome_from : Status → ℕ → ℕ → ℕ → Stacked → List Register → Outcome Frame
outcome_from status places span left u registers = cond (is_running status) spent (done (last_frame status places span u registers) left)

abbrev pub finished_of : Finished → Stacked → List ℕ → List ℕ → Outcome Frame
finished_of z u nums kinds = outcome_from z.status z.places z.span z.left u (registers_of nums kinds)

-- this outcome, but for the last task's stack, which nobody is handed
abbrev pub Finds : Finished → List ℕ → List ℕ → Outcome Frame → Type 0
Finds z nums kinds x = (u : Stacked) × (finished_of z u nums kinds ≡ x)

-- nothing more to do: a running task without a budget, or one that has ended and stands inside no fork
abbrev pub over_by : Status → ℕ → ℕ → Bool
over_by status left depth = cond (is_running status) (eqb left 0) (eqb depth 0)

-- what each round takes something of
abbrev pub ended_by : Status → ℕ
ended_by status = cond (is_running status) 0 1

abbrev pub weight : Hand → ℕ
weight h = 16 * h.left + (2 * h.depth + ended_by h.status)

-- what an evaluation may rest on: the job's 2 ^ rank places, its first registers
pub record CanEvaluate (cells : List ℕ) (places budget : ℕ) (nums kinds : List ℕ) : Type 0 where
  pub rank : ℕ
  pub base : Base rank budget
  pub all_places : places ≡ 2 ^ rank
  pub values_fit : (i : ℕ) → value_fits (program_of cells) (in_register i (registers_of nums kinds)) ≡ true

-- what is known of the end besides: a fault's number is of the list, 31 to 43, the last task does not wait, a halted task's values fit the program
pub record Closes (cells : List ℕ) (z : Finished) (nums kinds : List ℕ) : Type 0 where
  pub last_sized : Sized nums kinds
  pub its_fault_listed : (n : ℕ) → z.status ≡ Faulted n → (31 ≤ n) × (n ≤ 43)
  pub at_end : (z.status ≡ Vacant → ⊥) × (z.status ≡ Waiting → ⊥)
  pub last_fit : z.status ≡ Halted → (i : ℕ) → value_fits (program_of cells) (in_register i (registers_of nums kinds)) ≡ true
  pub span_most : z.span ≤ work_limit
