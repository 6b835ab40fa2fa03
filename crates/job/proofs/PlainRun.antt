-- The evaluation of an accepted job: its registers in rows, what the evaluator asks, and the report of what it finds.
use mathlib.Core.Path.{◌≡◌, refl, sym, ap, ◌∙◌}
use mathlib.Core.Bool.{Bool, true, false}
use mathlib.Core.List.{List, [], ◌∷◌}
use Prim.Native.Nat.{ℕ, zero, suc, ◌+◌, ◌*◌, ◌-◌, ◌<◌, ◌≤◌}
use native.Mathlib.Omega.{arith}
use lib.Dec.{ltb, leb}
use lib.IntN.{ℤ, pos}
use lib.ListN.{length, get_or, set, replicate, length-replicate}
use lib.Seq.{get_or-set_same, get_or-set_other, ext_get_or}
use mir.Syntax.{w64}
use mir.Val.{SFits, to_z, of_z}
use mir.ValLaws.{to_z-of_z}
use borrow.Author.Tests.{ltb-true}
use Rattle.facts.proofs.Tests.{by_order}
use Rattle.image.specs.Program.{Program}
use Rattle.image.specs.Layout.{cells_in, instruction_count, program_of}
use Rattle.image.specs.Questions.{program_no}
use Rattle.image.proofs.Accepted.{accepted}
use Rattle.agreement.specs.Plain.{Ran, out, ran, eval}
use Rattle.serial.specs.Serial.{Outcome, spent, done, within_budget}
use Rattle.task.specs.declared.Status.{Status}
use Rattle.task.specs.declared.Status.TheVariants.{Vacant, Running, Waiting, Halted, Faulted}
use Rattle.task.specs.declared.Value.{Value}
use Rattle.task.specs.declared.Value.TheVariants.{Int}
use Rattle.task.specs.declared.Register.{Register}
use Rattle.task.specs.declared.Frame.{Frame}
use Rattle.task.specs.Frames.{zero_register, zeros, integers, start_frame, work_limit}
use Rattle.task.specs.Choices.{chosen}
use Rattle.task.specs.Formed.{value_fits}
use Rattle.evaluator.specs.declared.Finished.{Finished}
use Rattle.arms.specs.Registers.{value_of, registers_of, Sized, in_register}
use Rattle.arms.specs.Turns.{Stacked, rules}
use Rattle.evaluator.specs.Hands.{outcome_from, finished_of, CanEvaluate, Closes}
use Rattle.arms.proofs.RegisterLaws.{label_at}
use Rattle.drive.specs.declared.End.TheVariants.{NotEnded, Halt, Fault}
use Rattle.drive.specs.Settings.{rank}
use Rattle.drive.proofs.RankLaws.{rank-small, rank_power}
use Rattle.machine.proofs.StartLaws.{StartAccepted, start_accepted}
use Rattle.orders.specs.Demand.{Job, evaluation_of}
use Rattle.report.specs.declared.Report.{Report}
use Rattle.outcomes.specs.Outcomes.{allowance, report_from}
use Rattle.job.specs.Job.{job_image, job_places, job_interval, job_registers, job_words, job_no}
use Rattle.job.specs.Replay.{job_in}
use Rattle.job.specs.Run.{report_in}
use Rattle.job.specs.Evaluated.{BitsOf, CanReport, CanRun}
use Rattle.job.proofs.Replaying.{start-agrees}
use Rattle.job.proofs.PlainReport.{report_is_plain}

-- ---- Into rows

-- the bits of one integer more
pub bits_more : (zs : List ℤ) (nums : List ℕ) (i u : ℕ) → i < length nums → ((j : ℕ) → j < i → to_z w64 (get_or nums j 0) ≡ get_or zs j (pos 0))
    → SFits w64 (get_or zs i (pos 0)) → u ≡ of_z w64 (to_z w64 (of_z w64 (get_or zs i (pos 0))))
    → (j : ℕ) → j < i + 1 → to_z w64 (get_or (set nums i u) j 0) ≡ get_or zs j (pos 0)
bits_more zs nums i u inside h fits e j l = by_order j i
    (λ b. ap (to_z w64) (get_or-set_other nums i j u 0 (omega (arith, b))) ∙ h j b)
    (λ b.
    let q : to_z w64 u ≡ get_or zs i (pos 0) = ap (to_z w64) (e ∙ ap (of_z w64) (to_z-of_z w64 _ fits)) ∙ to_z-of_z w64 _ fits in
    rw (b, get_or-set_same nums i u 0 inside) q)
    (λ b. absurd (omega (arith, b, l)))

-- bits with kinds 0 are the integers
pub rows_mean : (zs : List ℤ) (nums : List ℕ) → BitsOf zs nums → registers_of nums (replicate (length zs) 0) ≡ integers zs
unfolding registers_of
rows_mean [] [] b = refl
rows_mean [] (u ∷ nums) b = absurd (omega (arith, b.same_length))
rows_mean (z ∷ zs) [] b = absurd (omega (arith, b.same_length))
rows_mean (z ∷ zs) (u ∷ nums) b =
    let q : to_z w64 u ≡ z = b.same_number 0 (omega arith) in
    let rest : BitsOf zs nums =
    record { same_length = omega (arith, b.same_length); same_number = λ j l. b.same_number (suc j) (omega (arith, l)) } in
    λ i. record { value = Int (q i) } ∷ rows_mean zs nums rest i

integers-fit : (program : Program) (zs : List ℤ) (i : ℕ) → value_fits program (in_register i (integers zs)) ≡ true
integers-fit program [] zero = refl
integers-fit program [] (suc i) = refl
integers-fit program (z ∷ zs) zero = refl
integers-fit program (z ∷ zs) (suc i) = integers-fit program zs i

-- ---- Out of them

abbrev pub register_at : List ℕ → List ℕ → ℕ → Register
register_at nums kinds i = record { value = value_of (get_or kinds i 0) (get_or nums i 0) }

abbrev pub held : Value → Register
held v = record { value = v }

-- the rows' registers one by one
pub row_at : (nums kinds : List ℕ) (i : ℕ) → i < length nums → i < length kinds → get_or (registers_of nums kinds) i zero_register ≡ register_at nums kinds i
unfolding registers_of
row_at [] kinds i p q = absurd (omega arith)
row_at (u ∷ nums) [] i p q = absurd (omega arith)
row_at (u ∷ nums) (k ∷ kinds) zero p q = refl
row_at (u ∷ nums) (k ∷ kinds) (suc i) p q = row_at nums kinds i (omega arith) (omega arith)

length-rows : (nums kinds : List ℕ) → length nums ≡ length kinds → length (registers_of nums kinds) ≡ length nums
unfolding registers_of
length-rows [] kinds h = refl
length-rows (u ∷ nums) [] h = absurd (omega (arith, h))
length-rows (u ∷ nums) (k ∷ kinds) h = ap suc (length-rows nums kinds (omega (arith, h)))

-- an array of 16 that has them all
pub registers_all : (nums kinds : List ℕ) (l : List Register) → Sized nums kinds → length l ≡ 16
    → ((i : ℕ) → i < 16 → get_or l i zero_register ≡ register_at nums kinds i) → l ≡ registers_of nums kinds
registers_all nums kinds l h e f = ext_get_or zero_register l (registers_of nums kinds)
    (e ∙ sym h.0 ∙ sym (length-rows nums kinds (h.0 ∙ sym h.1)))
    (λ i p. f i (omega (arith, p, e)) ∙ sym (row_at nums kinds i (omega (arith, p, e, h.0)) (omega (arith, p, e, h.1))))

-- one more
pub registers-more : (nums kinds : List ℕ) (l : List Register) (i : ℕ) (a : Register) → i < length l
    → ((j : ℕ) → j < i → get_or l j zero_register ≡ register_at nums kinds j) → a ≡ register_at nums kinds i
    → (j : ℕ) → j < i + 1 → get_or (set l i a) j zero_register ≡ register_at nums kinds j
registers-more nums kinds l i a inside h e j b = by_order j i
    (λ o. get_or-set_other l i j a zero_register (omega (arith, o)) ∙ h j o)
    (λ o. rw (o, get_or-set_same l i a zero_register inside) e)
    (λ o. absurd (omega (arith, o, b)))

-- ---- What the evaluator asks

module _ (cells : List ℕ) (lent places n : ℕ) (registers : List ℤ) (can : CanRun cells lent places n registers) (nums : List ℕ)
    (bits : BitsOf registers nums) where
  first-registers : registers_of nums (replicate 16 0) ≡ integers registers
  first-registers = ap (λ m. registers_of nums (replicate m 0)) (sym can.sixteen) ∙ rows_mean registers nums bits

  pub can_evaluate : CanEvaluate cells places n nums (replicate 16 0)
  can_evaluate = record {
    rank = rank places;
    base = record {
      room = rank-small places can.its_places_allowed;
      limited = can.limited;
    };
    all_places = rank_power places can.its_places_allowed;
    values_fit = λ i. ap (λ l. value_fits (program_of cells) (in_register i l)) first-registers ∙ integers-fit (program_of cells) registers i;
  }

  pub found_is : (words : List ℤ) (interval : ℕ) {x : Outcome Frame}
      → x ≡ within_budget n (eval (rules cells words interval) work_limit (start_frame places (registers_of nums (replicate 16 0))))
      → x ≡ within_budget n (evaluation_of (program_of cells) (chosen interval) places registers words work_limit)
  found_is words interval e = e ∙ ap (λ l. within_budget n (eval (rules cells words interval) work_limit (start_frame places l))) first-registers

-- ---- What the report asks

abbrev left_in : Outcome Frame → ℕ
left_in spent = 0
left_in (done e left) = left

left-within : (n : ℕ) (x : Ran Frame) → left_in (within_budget n x) ≤ n
left-within n out = omega arith
left-within n (ran e w) = by (leb w n)
  where
    by : (b : Bool) → left_in (elim b [ true ↦ done e (n - w) | false ↦ spent ]) ≤ n
    by true = omega arith
    by false = omega arith

left_by : (s : Status) (places span left : ℕ) (u : Stacked) (l : List Register) (n : ℕ) (x : Ran Frame) → (s ≡ Running → left ≡ 0)
    → outcome_from s places span left u l ≡ within_budget n x → left ≤ n
left_by Running places span left u l n x z e = omega (arith, z refl)
left_by Vacant places span left u l n x z e = let q : left ≡ left_in (within_budget n x) = ap left_in e in omega (arith, q, left-within n x)
left_by Waiting places span left u l n x z e = let q : left ≡ left_in (within_budget n x) = ap left_in e in omega (arith, q, left-within n x)
left_by Halted places span left u l n x z e = let q : left ≡ left_in (within_budget n x) = ap left_in e in omega (arith, q, left-within n x)
left_by (Faulted f) places span left u l n x z e = let q : left ≡ left_in (within_budget n x) = ap left_in e in omega (arith, q, left-within n x)

pub can_report : (cells : List ℕ) (n : ℕ) (z : Finished) (u : Stacked) (nums kinds : List ℕ) (x : Ran Frame) → program_no cells ≡ 0 → n ≤ work_limit
    → finished_of z u nums kinds ≡ within_budget n x → (z.status ≡ Running → z.left ≡ 0) → Closes cells z nums kinds → CanReport n z nums kinds
can_report cells n z u nums kinds x ok limited e none closes = record {
  sized = closes.last_sized;
  limited = limited;
  left_most = left_by z.status z.places z.span z.left u (registers_of nums kinds) n x none e;
  span_most = closes.span_most;
  its_fault_listed = closes.its_fault_listed;
  at_end = closes.at_end;
  labels_fit = λ h i l k.
      let f : ltb (get_or nums i 0) (program_of cells).blocks ≡ true = ap (value_fits (program_of cells)) (sym (label_at nums kinds i closes.last_sized l k)) ∙ closes.last_fit h i in
      omega (arith, ltb-true (get_or nums i 0) (program_of cells).blocks f, (accepted cells ok).few_blocks);
}

-- ---- The report

module _ (n : ℕ) (z : Finished) (nums kinds : List ℕ) (u : Stacked) where
  abbrev by_status : Status → Report
  by_status s = report_from n (outcome_from s z.places z.span z.left u (registers_of nums kinds))

  pub reports_halt : z.status ≡ Halted → {l : List Register} → l ≡ registers_of nums kinds
      → ◌≡◌ {A = Report} (record { end = Halt; picks = n - z.left; work = n - z.left; span = z.span; registers = l }) (report_from n (finished_of z u nums kinds))
  reports_halt e q =
      (λ i. record { end = Halt; picks = n - z.left; work = n - z.left; span = z.span; registers = q i }) ∙ ap by_status (sym e)

  pub reports_spent : z.status ≡ Running
      → ◌≡◌ {A = Report} (record { end = NotEnded; picks = n; work = n; span = 0; registers = zeros }) (report_from n (finished_of z u nums kinds))
  reports_spent e = ap by_status (sym e)

  pub reports_fault : (f : ℕ) → z.status ≡ Faulted f
      → ◌≡◌ {A = Report} (record { end = Fault f; picks = n - z.left; work = n - z.left; span = z.span; registers = zeros })
      (report_from n (finished_of z u nums kinds))
  reports_fault f e = ap by_status (sym e)

-- ---- An accepted job

-- a buffer of zeros has its room
pub room_in : (m : ℕ) {k : ℕ} → k ≤ m → k ≤ length {A = ℕ} (replicate m 0)
room_in m h = rw (length-replicate {A = ℕ} m 0) h

module _ (bytes : List ℕ) (accepted-job : job_no bytes ≡ 0) where
  abbrev j : Job
  j = job_in bytes

  start : StartAccepted j.cells j.places j.interval j.registers j.words
  start = start_accepted j.cells j.places j.interval j.registers j.words (start-agrees bytes accepted-job)

  module _ {cells : List ℕ} (p : cells ≡ cells_in (job_image bytes)) where
    pub its-program : program_no cells ≡ 0
    its-program = ap program_no p ∙ start.allowed.program

    pub cells-stored : 2 < length cells
    cells-stored =
        let k = accepted cells its-program in
        omega (arith, (k.instruction 0 (omega (arith, k.some_instruction))).is_stored)

    pub few_instructions : instruction_count cells ≤ 1024
    few_instructions = (accepted cells its-program).few_instructions

  module _ {cells : List ℕ} {places : ℕ} {registers : List ℤ} (p : cells ≡ cells_in (job_image bytes)) (q : places ≡ job_places bytes)
      (s : registers ≡ job_registers bytes) (budget : ℕ) {n : ℕ} (a : n ≡ allowance budget) where
    pub can_run : (lent : ℕ) → 4 * instruction_count cells ≤ lent → CanRun cells lent places n registers
    can_run lent room = record {
      accepted_program = its-program p;
      room = room;
      its_places_allowed = rw q start.allowed.its_places_allowed;
      sixteen = ap length s ∙ start.sixteen;
      limited = omega (arith, a);
    }

    pub job_reported : {interval : ℕ} {words : List ℤ} {r : Report} → interval ≡ job_interval bytes → words ≡ job_words bytes
        → r ≡ report_from n (within_budget n (evaluation_of (program_of cells) (chosen interval) places registers words work_limit)) → r ≡ report_in bytes budget
    job_reported v t e =
        e ∙ (λ i. report_from (a i) (within_budget (a i) (evaluation_of (program_of (p i)) (chosen (v i)) (q i) (s i) (t i) work_limit)))
        ∙ sym (report_is_plain bytes accepted-job budget)
