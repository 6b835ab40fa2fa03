-- The rounds of the loop, from the first task to the end.
use mathlib.Core.Path.{◌≡◌, refl, sym, ap, subst, ◌∙◌}
use mathlib.Core.Bool.{true, false, cond}
use mathlib.Core.List.{List, [], ◌∷◌}
use Prim.Native.Nat.{ℕ, zero, suc, ◌-◌, ◌<◌, ◌≤◌}
use native.Mathlib.Omega.{arith}
use lib.Dec.{eqb, ltb}
use lib.IntN.{ℤ}
use lib.ListN.{length, get_or, replicate}
use borrow.Author.Tests.{eqb-true, eqb-false, ltb-true}
use Rattle.facts.proofs.Tests.{clash, both_true}
use Rattle.image.specs.Program.{Program}
use Rattle.image.specs.Layout.{version_of, program_of}
use Rattle.image.specs.Questions.{program_no}
use Rattle.image.proofs.Accepted.{accepted}
use Rattle.agreement.specs.Plain.{eval}
use Rattle.serial.specs.Serial.{onward, spent, done, run, within_budget}
use Rattle.serial.proofs.SerialLaws.{serial_is_plain}
use Rattle.task.specs.declared.Status.{Status}
use Rattle.task.specs.declared.Status.TheVariants.{Vacant, Running, Waiting, Halted, Faulted}
use Rattle.task.specs.declared.Frame.{Frame}
use Rattle.task.specs.Frames.{zero_fork, no_forks, is_running, start_frame, work_limit}
use Rattle.task.specs.Formed.{every, fork_fits, value_fits, fault_listed, status_fits}
use Rattle.task.proofs.EveryLaws.{every-at}
use Rattle.task.proofs.Formation.{Formed, formed_is, its_is_formed, listed-within}
use Rattle.task.proofs.Stacks.{empty-fits}
use Rattle.task.proofs.Counts.{within_is, is_within, start-within}
use Rattle.evaluator.specs.declared.Hand.{Hand}
use Rattle.arms.specs.Registers.{registers_of, Sized, in_register}
use Rattle.evaluator.proofs.BankLaws.{BankSized}
use Rattle.evaluator.specs.declared.Rows.{Rows}
use Rattle.arms.specs.declared.Registers.{Registers}
use Rattle.evaluator.specs.Banks.{bank_of, forks_of}
use Rattle.arms.specs.Stacks.{Stacked, stack_of}
use Rattle.arms.specs.Turns.{rules}
use Rattle.evaluator.specs.Sides.{Good}
use Rattle.evaluator.specs.Hands.{registers_from, frame_from, hand_frame, kept_frame, pending_from, Full, Point}
use Rattle.evaluator.specs.Hands.{found, LeadsTo, first_hand, over_by, ended_by, weight, last_frame, outcome_from, CanEvaluate, Closes}
use Rattle.evaluator.proofs.ForkLaws.{no-forks}
use Rattle.evaluator.proofs.StackLaws.{by-running, not-running, low-none, low_most}
use Rattle.evaluator.proofs.GoodLaws.{good_depth}
use Rattle.evaluator.proofs.FrameLaws.{pending_none, run-over, run_out}
use Rattle.evaluator.proofs.HandLaws.{stack-none}
use Rattle.evaluator.proofs.CloseLaws.{rests}

-- ---- one after the other

module _ (cells : List ℕ) (words : List ℤ) (interval : ℕ) where
  pub leads_on : {h i j : Hand} {r s t : Rows} → LeadsTo cells words interval h r i s → LeadsTo cells words interval i s j t → LeadsTo cells words interval h r j t
  leads_on x y = record { point = y.point; its_same_end = x.its_same_end ∙ y.its_same_end }

  pub leads_none : {h : Hand} {r : Rows} → Point cells h r → LeadsTo cells words interval h r h r
  leads_none p = record { point = p; its_same_end = refl }

-- ---- over or not

pub over_runs : (w : Status) (left depth : ℕ) → w ≡ Running → eqb left 0 ≡ over_by w left depth
over_runs w left depth e = rw e

pub over-ended : (w : Status) (left depth : ℕ) → (w ≡ Running → ⊥) → eqb depth 0 ≡ over_by w left depth
over-ended w left depth n = ap (λ b. cond b (eqb left 0) (eqb depth 0)) (sym (not-running w n))

pub still-left : (w : Status) (left depth : ℕ) → w ≡ Running → over_by w left depth ≡ false → 0 < left
still-left w left depth e h = let n = eqb-false left 0 (over_runs w left depth e ∙ h) in omega (arith, n)

pub still_deep : (w : Status) (left depth : ℕ) → (w ≡ Running → ⊥) → over_by w left depth ≡ false → 0 < depth
still_deep w left depth n h = let m = eqb-false depth 0 (over-ended w left depth n ∙ h) in omega (arith, m)

-- ---- what a round takes

ended-one : (w : Status) → (w ≡ Running → ⊥) → ended_by w ≡ 1
ended-one w n = ap (λ b. cond b 0 1) (not-running w n)

ended_most : (w : Status) → ended_by w ≤ 1
ended_most w = by-running w (λ e. rw e (omega arith)) (λ n. omega (arith, ended-one w n))

pub depth_most : (cells : List ℕ) (h : Hand) (r : Rows) → Point cells h r → h.depth ≤ 6
depth_most cells h r p = omega (arith, good_depth cells p.rank p.height (work_limit - h.left) (hand_frame h r) p.own_good, p.room)

pub low_small : (cells : List ℕ) (h : Hand) (r : Rows) → Point cells h r → h.low ≤ 192
low_small cells h r p = omega (arith, p.piled.own_low, low_most r.sides h.depth, depth_most cells h r p)

pub less-left : (cells : List ℕ) (h z : Hand) (r : Rows) → Point cells z r → z.left < h.left → weight z < weight h
less-left cells h z r p l = omega (arith, depth_most cells z r p, ended_most z.status, l)

pub less-ended : (h z : Hand) → (h.status ≡ Running → ⊥) → z.left ≡ h.left → z.depth ≡ h.depth → z.status ≡ Running → weight z < weight h
less-ended h z n l d e = omega (arith, ended-one h.status n, l, d, ap ended_by e)

pub less_deep : (h z : Hand) → (h.status ≡ Running → ⊥) → z.left ≡ h.left → z.depth < h.depth → weight z < weight h
less_deep h z n l d = omega (arith, ended-one h.status n, ended_most z.status, l, d)

-- ---- the start

length-registers : (nums kinds : List ℕ) → length nums ≡ length kinds → length (registers_of nums kinds) ≡ length nums
unfolding registers_of
length-registers [] kinds h = refl
length-registers (u ∷ nums) [] h = absurd (omega (arith, h))
length-registers (u ∷ nums) (k ∷ kinds) h = ap suc (length-registers nums kinds (omega (arith, h)))

none-fit : (program : Program) → every (λ i. fork_fits program (ltb i 0) (get_or no_forks i zero_fork)) 6 0 ≡ true
unfolding every
none-fit program = refl

-- what stands beside the first task
abbrev pub start_rows : Registers → Rows
start_rows registers = record {
  registers = registers;
  banks = replicate 6 (record { nums = replicate 16 0; kinds = replicate 16 0 });
  records = replicate 6 0;
  sides = replicate 6 (record { status = Running; places = 0; pc = 0; span = 0; height = 0 });
  pile = record { nums = replicate 224 0; kinds = replicate 224 0 };
}

pub start_full : (registers : Registers) → Sized registers.nums registers.kinds → Full (start_rows registers)
start_full registers sized = record {
  sized = sized;
  banks_full = refl;
  banks_sized = all;
  records_full = refl;
  sides_full = refl;
  pile_full = refl;
  tags_full = refl;
}
  where
    all : (d : ℕ) → d < 6 → BankSized (start_rows registers).banks d
    all zero l = (refl, refl)
    all (suc zero) l = (refl, refl)
    all (suc (suc zero)) l = (refl, refl)
    all (suc (suc (suc zero))) l = (refl, refl)
    all (suc (suc (suc (suc zero)))) l = (refl, refl)
    all (suc (suc (suc (suc (suc zero))))) l = (refl, refl)
    all (suc (suc (suc (suc (suc (suc d)))))) l = absurd (omega (arith, l))

module _ (cells : List ℕ) (accept : program_no cells ≡ 0) (places budget : ℕ) (rows : Rows) (can : CanEvaluate cells places budget rows.registers.nums rows.registers.kinds) (full : Full rows) where
  abbrev first : Hand
  first = first_hand places budget

  abbrev start : Frame
  start = start_frame places (bank_of rows.registers)

  first_is : hand_frame first rows ≡ start
  first_is =
      let a : budget - budget ≡ 0 = omega arith in
      let f : forks_of rows.records 0 ≡ no_forks = no-forks rows.records ∙ ap (λ n. replicate n zero_fork) full.records_full in
      let s = stack-none rows.pile.nums rows.pile.kinds 0 0 refl in
      λ j. frame_from Running places 0 (f j) 0 (a j) (a j) (s j) (bank_of rows.registers)

  start-formed : Formed (program_of cells) can.rank can.rank start
  start-formed = record {
    registers_full = length-registers rows.registers.nums rows.registers.kinds (full.sized.0 ∙ sym full.sized.1) ∙ full.sized.0;
    forks_full = refl;
    stack_full = refl;
    has_places = can.all_places;
    has_depth = omega arith;
    pc_below = (accepted cells accept).some_instruction;
    its_status_fits = refl;
    its_forks_fit = λ i p. every-at (λ i. fork_fits (program_of cells) (ltb i 0) (get_or no_forks i zero_fork)) 6 0 (none-fit (program_of cells)) i (omega arith) (omega arith);
    values_fit = can.values_fit;
    height_most = omega arith;
    its_entries_fit = empty-fits (program_of cells);
  }

  pub start_point : {z : Hand} → z ≡ first → Point cells z rows
  start_point e = subst (λ z. Point cells z rows) (sym e) (record {
    rank = can.rank;
    height = can.rank;
    room = can.base.room;
    limited = can.base.limited;
    own_good = subst (Good cells can.rank can.rank (work_limit - budget)) (sym first_is)
        (record {
          its_is_formed = its_is_formed (program_of cells) can.rank can.rank start start-formed;
          is_within = is_within (work_limit - budget) start
              (start-within (work_limit - budget) places (bank_of rows.registers));
        });
    kept_good = λ i l. absurd (omega (arith, l));
    full = full;
    piled = record { own_low = sym (low-none rows.sides); none_yet = λ i l. absurd (omega (arith, l)) };
    nested = record { fitted = λ i l. absurd (omega (arith, l)) };
    on_place = refl;
    kept_on_place = λ i l. absurd (omega (arith, l));
    counter_least = omega arith;
    span_least = omega arith;
  })

  pub start-found : (words : List ℤ) (interval : ℕ) {z : Hand} → z ≡ first → found cells words interval z rows ≡ within_budget budget (eval (rules cells words interval) work_limit start)
  start-found words interval e =
      ap (λ z. found cells words interval z rows) e
      ∙ ap (λ f. run (rules cells words interval) budget (onward (rules cells words interval) f (pending_from (kept_frame rows) 0))) first_is
      ∙ ap (λ s. run (rules cells words interval) budget (onward (rules cells words interval) start s)) (pending_none (kept_frame rows))
      ∙ serial_is_plain (rules cells words interval) budget work_limit can.base.limited start

-- ---- the end

-- a task inside no fork, which is not vacant, does not wait; a fault is of the list
no-wait : (version : ℕ) (f : Frame) (s : Status) → status_fits version f s ≡ true → (s ≡ Running → ⊥) → f.task.depth ≡ 0 → (s ≡ Vacant → ⊥) × (s ≡ Waiting → ⊥)
no-wait version f Vacant e n d = clash e refl
no-wait version f Running e n d = absurd (n refl)
no-wait version f Waiting e n d = absurd (omega (arith, d, ltb-true 0 f.task.depth (both_true (ltb 0 f.task.depth) _ e).0))
no-wait version f Halted e n d =
    (λ q. let z : ◌≡◌ {A = ℕ} 0 1 = cc in absurd (omega arith), λ q. let z : ◌≡◌ {A = ℕ} 0 1 = cc in absurd (omega arith))
no-wait version f (Faulted k) e n d =
    (λ q. let z : ◌≡◌ {A = ℕ} 0 1 = cc in absurd (omega arith), λ q. let z : ◌≡◌ {A = ℕ} 0 1 = cc in absurd (omega arith))

is-end : (version : ℕ) (f : Frame) (s : Status) → status_fits version f s ≡ true → ((s ≡ Running → ⊥) → f.task.depth ≡ 0) → (s ≡ Vacant → ⊥) × (s ≡ Waiting → ⊥)
is-end version f s e d = by-running s
    (λ q. (
      λ x. let z : ◌≡◌ {A = Status} Running Vacant = sym q ∙ x in let y : ◌≡◌ {A = ℕ} 0 1 = cc in absurd (omega arith),
      λ x. let z : ◌≡◌ {A = Status} Running Waiting = sym q ∙ x in let y : ◌≡◌ {A = ℕ} 0 1 = cc in absurd (omega arith),
    ))
    (λ n. no-wait version f s e n (d n))

listed_by : (version : ℕ) (f : Frame) (s : Status) (n : ℕ) → status_fits version f s ≡ true → s ≡ Faulted n → (31 ≤ n) × (n ≤ 43)
listed_by version f s n e q = listed-within version n (both_true (fault_listed version n) _ (ap (status_fits version f) (sym q) ∙ e)).0

module _ (cells : List ℕ) (words : List ℤ) (interval : ℕ) (h : Hand) (r : Rows) (p : Point cells h r) (over : over_by h.status h.left h.depth ≡ true) where
  pub end_spent : h.status ≡ Running → h.left ≡ 0
  end_spent e = eqb-true h.left 0 (over_runs h.status h.left h.depth e ∙ over)

  end_shallow : (h.status ≡ Running → ⊥) → h.depth ≡ 0
  end_shallow n = eqb-true h.depth 0 (over-ended h.status h.left h.depth n ∙ over)

  -- the last task's stack
  abbrev last-stack : Stacked
  last-stack = stack_of r.pile.nums r.pile.kinds h.low h.height

  last_is : (n : h.status ≡ Running → ⊥) → hand_frame h r ≡ last_frame h.status h.places (h.spun - h.left) last-stack (bank_of r.registers)
  last_is n =
      let a = end_shallow n in
      let f : forks_of r.records h.depth ≡ no_forks = ap (forks_of r.records) a ∙ no-forks r.records ∙ ap (λ m. replicate m zero_fork) p.full.records_full in
      let b = rests cells h r p n in
      λ j. frame_from h.status h.places (a j) (f j) (b.0 j) (b.1 j) (h.spun - h.left) last-stack (bank_of r.registers)

  -- what is told of the task in hand is what is found from there
  pub ends_as : outcome_from h.status h.places (h.spun - h.left) h.left last-stack (bank_of r.registers) ≡ found cells words interval h r
  ends_as = by-running h.status
      (λ e. ap (λ w. outcome_from w h.places (h.spun - h.left) h.left last-stack (bank_of r.registers)) e
      ∙ sym (ap (λ n. run (rules cells words interval) n (onward (rules cells words interval) (hand_frame h r) (pending_from (kept_frame r) h.depth))) (end_spent e)
      ∙ run_out cells words interval (hand_frame h r) (pending_from (kept_frame r) h.depth) (ap is_running e)))
      (λ n. ap (λ b. cond b spent (done (last_frame h.status h.places (h.spun - h.left) last-stack (bank_of r.registers)) h.left)) (not-running h.status n)
      ∙ sym (ap (λ m. run (rules cells words interval) h.left (onward (rules cells words interval) (hand_frame h r) (pending_from (kept_frame r) m))) (end_shallow n)
      ∙ run-over cells words interval (hand_frame h r) h.left (kept_frame r) (not-running h.status n)
      ∙ ap (λ f. done f h.left) (last_is n)))

  pub closes : Closes cells (record { status = h.status; places = h.places; left = h.left; span = h.spun - h.left }) r.registers.nums r.registers.kinds
  closes =
      let f = formed_is (program_of cells) p.rank p.height (hand_frame h r) p.own_good.its_is_formed in
      record {
        last_sized = p.full.sized;
        its_fault_listed = λ n e. listed_by (version_of cells) (hand_frame h r) h.status n f.its_status_fits e;
        at_end = is-end (version_of cells) (hand_frame h r) h.status f.its_status_fits end_shallow;
        last_fit = λ e i. ap (λ w. value_fits (program_of cells) (in_register i (registers_from w (bank_of r.registers)))) (sym e) ∙ f.values_fit i;
        span_most = omega (arith, (within_is (work_limit - h.left) (hand_frame h r) p.own_good.is_within).span_most);
      }
