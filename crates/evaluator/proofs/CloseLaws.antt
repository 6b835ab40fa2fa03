-- The task in hand has ended its side: the other side's turn, and the join of both.
use mathlib.Core.Path.{◌≡◌, refl, sym, ap, subst, ◌∙◌}
use mathlib.Core.Bool.{true, false}
use mathlib.Core.List.{List}
use mathlib.Core.Option.{Option, none, some}
use Prim.Native.Nat.{ℕ, suc, ◌+◌, ◌*◌, ◌-◌, ◌/◌, ◌^◌, ◌<◌, ◌≤◌, max}
use native.Mathlib.Omega.{arith}
use native.Mathlib.Nat.{pow-le-pow_right}
use lib.Dec.{eqb, ltb}
use lib.IntN.{ℤ}
use lib.ListN.{length, get_or, set, length-set}
use borrow.Author.Tests.{eqb-true, lt-ltb}
use Rattle.facts.proofs.Tests.{clash, both_true, by_order}
use Rattle.image.specs.Questions.{program_no}
use Rattle.image.specs.Layout.{version_of, block_count, block_of, program_of}
use Rattle.agreement.specs.Plain.{Rules}
use Rattle.serial.specs.Serial.{onward, run}
use Rattle.task.specs.declared.Register.{Register}
use Rattle.task.specs.declared.Status.{Status}
use Rattle.task.specs.declared.Status.TheVariants.{Vacant, Running, Waiting, Halted, Faulted}
use Rattle.task.specs.declared.Fork.{Fork}
use Rattle.task.specs.declared.Task.{Task}
use Rattle.task.specs.declared.Frame.{Frame}
use Rattle.task.specs.Frames.{zeros, zero_fork, is_running, running, fault_of, work_limit}
use Rattle.task.specs.Formed.{is_target, at_rest, fault_listed, status_fits}
use Rattle.task.specs.Step.{copied, outward_task, first_fault, joined_by, join}
use Rattle.task.specs.Execute.{status_by}
use Rattle.task.proofs.Formation.{Formed, formed_is, target_below}
use Rattle.task.proofs.Counts.{within_is}
use Rattle.evaluator.specs.declared.Hand.{Hand}
use Rattle.evaluator.specs.declared.Kept.{Kept}
use Rattle.evaluator.specs.declared.Rows.{Rows}
use Rattle.arms.specs.declared.Registers.{Registers}
use Rattle.arms.specs.Registers.{Sized}
use Rattle.evaluator.specs.Banks.{bank_of, bank_at, Exchanged, fork_of, forks_of}
use Rattle.arms.specs.Stacks.{entries_from, stack_of}
use Rattle.arms.specs.Turns.{rules}
use Rattle.evaluator.specs.Sides.{Good}
use Rattle.evaluator.specs.Hands.{registers_from, frame_from, kept_of, low_of, Keeps, hand_frame}
use Rattle.evaluator.specs.Hands.{kept_frame, pending_from, Point, LeadsTo, side_of, other_of, joined_of}
use Rattle.evaluator.proofs.BankLaws.{BankSized, banks_stay_sized}
use Rattle.evaluator.proofs.ForkLaws.{fork_at, forks-closed}
use Rattle.arms.proofs.StackLaws.{entries_none}
use Rattle.evaluator.proofs.StackLaws.{not-running, above-ended, low_top, low_same}
use Rattle.evaluator.proofs.HandLaws.{bank_same, bank_other, with_own, kept_by, stack-none}
use Rattle.evaluator.proofs.FrameLaws.{turn-run, join-run, join-good}

-- ---- the fault that one of two has

plain-registers : (s : Status) (l : List Register) → fault_of s ≡ none → registers_from s l ≡ l
plain-registers Vacant l h = refl
plain-registers Running l h = refl
plain-registers Waiting l h = refl
plain-registers Halted l h = refl
plain-registers (Faulted n) l h = let z : ◌≡◌ {A = ℕ} 0 1 = cc in absurd (omega arith)

-- neither has
neither : (p c : Option ℕ) → first_fault p c ≡ none → (p ≡ none) × (c ≡ none)
neither none c h = (refl, h)
neither (some n) c h = let z : ◌≡◌ {A = ℕ} 0 1 = cc in absurd (omega arith)

pub fault_in : (o : Option ℕ) (n : ℕ) {s : Status} → s ≡ status_by o → s ≡ Faulted n → o ≡ some n
fault_in none n e h = let q = sym e ∙ h in let z : ◌≡◌ {A = ℕ} 0 1 = cc in absurd (omega arith)
fault_in (some m) n e h = let q = sym e ∙ h in let z : m ≡ n = cc in ap some z

pub none_in : (o : Option ℕ) {s : Status} → s ≡ status_by o → ((n : ℕ) → s ≡ Faulted n → ⊥) → o ≡ none
none_in none e h = refl
none_in (some n) e h = absurd (h n e)

-- ---- a task that does not run is at rest

resting : (t : Task) → at_rest t ≡ true → (t.pc ≡ 0) × (t.counter ≡ 0)
resting t h = let b = both_true (eqb t.pc 0) (eqb t.counter 0) h in (eqb-true t.pc 0 b.0, eqb-true t.counter 0 b.1)

at_rest_lem : (version : ℕ) (f : Frame) (s : Status) → status_fits version f s ≡ true → is_running s ≡ false → (f.task.pc ≡ 0) × (f.task.counter ≡ 0)
at_rest_lem version f Vacant h r = clash h refl
at_rest_lem version f Running h r = clash refl r
at_rest_lem version f Waiting h r = resting f.task (both_true (ltb 0 f.task.depth) (at_rest f.task) h).1
at_rest_lem version f Halted h r = resting f.task (both_true (eqb f.task.depth 0) (at_rest f.task) h).1
at_rest_lem version f (Faulted n) h r = resting f.task (both_true (at_rest f.task) _ (both_true (fault_listed version n) _ h).1).0

-- rows of which all but the registers are as they were
pub leads_same : (cells : List ℕ) (words : List ℤ) (interval : ℕ) {h z : Hand} {rows after : Rows} → after.banks ≡ rows.banks → after.records ≡ rows.records
    → after.sides ≡ rows.sides → after.pile ≡ rows.pile → LeadsTo cells words interval h rows z (with_own rows after.registers rows.pile)
    → LeadsTo cells words interval h rows z after
leads_same cells words interval {h} {z} {rows} {after} b c s p = subst (λ r. LeadsTo cells words interval h rows z r)
    (λ j. record { registers = after.registers; banks = sym b j; records = sym c j; sides = sym s j; pile = sym p j })

module _ (cells : List ℕ) (h : Hand) (rows : Rows) (p : Point cells h rows) (ended : h.status ≡ Running → ⊥) where
  formed_own : Formed (program_of cells) p.rank p.height (hand_frame h rows)
  formed_own = formed_is (program_of cells) p.rank p.height (hand_frame h rows) p.own_good.its_is_formed

  stopped : running (hand_frame h rows) ≡ false
  stopped = not-running h.status ended

  pub rests : (h.pc / 4 ≡ 0) × (h.beat - h.left ≡ 0)
  rests = at_rest_lem (version_of cells) (hand_frame h rows) h.status formed_own.its_status_fits stopped

  module _ (d : ℕ) (deep : h.depth ≡ suc d) where
    abbrev k : Kept
    k = kept_of rows.sides d

    pub d-inside : d < 6
    d-inside = omega (arith, deep, formed_own.has_depth, p.room)

    height_is : p.rank - (d + 1) ≡ p.height
    height_is = omega (arith, deep, formed_own.has_depth)

    other-good : Good cells p.rank p.height (work_limit - h.left) (kept_frame rows d)
    other-good = subst (λ n. Good cells p.rank n (work_limit - h.left) (kept_frame rows d)) height_is (p.kept_good d (omega (arith, deep)))

    formed-other : Formed (program_of cells) p.rank p.height (kept_frame rows d)
    formed-other = formed_is (program_of cells) p.rank p.height (kept_frame rows d) other-good.its_is_formed

    -- numbers that fit
    pub span_small : k.span ≤ 4294967295
    span_small = omega (arith, (within_is (work_limit - h.left) (kept_frame rows d) other-good.is_within).span_most)

    pub spun_small : h.spun ≤ 4294967295
    spun_small = omega (arith, p.span_least, p.limited, (within_is (work_limit - h.left) (hand_frame h rows) p.own_good.is_within).span_most)

    few_places : 2 ^ p.height ≤ 2 ^ 6
    few_places =
        let low : p.height ≤ 6 = omega (arith, formed_own.has_depth, p.room) in
        let some : 1 ≤ 2 = omega arith in
        pow-le-pow_right some low

    pub places_small : h.places ≤ 64
    places_small = omega (arith, formed_own.has_places, few_places)

    pub other_places_small : k.places ≤ 64
    other_places_small = omega (arith, formed-other.has_places, few_places)

    -- where the stack in hand begins: with that of a side to come, or above that of one that has ended
    low-same_stretch : k.status ≡ Running → h.low ≡ low_of rows.sides d
    low-same_stretch e = p.piled.own_low ∙ ap (low_of rows.sides) deep ∙ low_top rows.sides d e

    low-next : (k.status ≡ Running → ⊥) → h.low ≡ low_of rows.sides d + 32
    low-next n = p.piled.own_low ∙ ap (low_of rows.sides) deep ∙ low_top rows.sides d refl ∙ above-ended k.status (low_of rows.sides d) n

    pub low-least : (k.status ≡ Running → ⊥) → 32 ≤ h.low
    low-least n = omega (arith, low-next n)

    -- what `joined` rests on
    pub can_join : 0 < h.depth → (k.status ≡ Running → ⊥) → (0 < h.depth) × (h.left ≤ h.spun) × (h.left ≤ 4294967295) × (h.spun ≤ 4294967295)
        × (k.span ≤ 4294967295) × (k.places ≤ 64) × (h.places ≤ 64) × (32 ≤ h.low)
    can_join deeper n = (deeper, p.span_least, p.limited, spun_small, span_small, other_places_small, places_small, low-least n)

    -- ---- the other side's turn

    module _ (words : List ℤ) (interval : ℕ) (waits : k.status ≡ Running) (after : Rows) (exchanged : Exchanged rows.registers rows.banks after.registers after.banks d)
        (keeps : Keeps rows.sides d (side_of h) after.sides) where
      abbrev sides : List Kept
      sides = after.sides

      abbrev R : Rules Frame
      R = rules cells words interval

      abbrev rows' : Rows
      rows' = record { registers = after.registers; banks = after.banks; records = rows.records; sides = sides; pile = rows.pile }

      under-kept : (i : ℕ) → i < d → kept_of sides i ≡ kept_of rows.sides i
      under-kept i l = keeps.elsewhere i (λ x. absurd (omega (arith, x, l)))

      under_low : (i : ℕ) → i ≤ d → low_of sides i ≡ low_of rows.sides i
      under_low i l = low_same rows.sides sides i (λ m b. under-kept m (omega (arith, b, l)))

      bank_is : (i : ℕ) → bank_at after.banks i ≡ bank_at (set rows.banks d rows.registers) i
      bank_is i = ap (λ b. bank_at b i) exchanged.given

      now_own : hand_frame (other_of h k) rows' ≡ kept_frame rows d
      now_own =
          let a : h.depth ≡ d + 1 = omega (arith, deep) in
          let b : h.left - h.left ≡ 0 = omega arith in
          let e : h.left + k.span - h.left ≡ k.span = omega arith in
          let g : bank_of after.registers ≡ bank_at rows.banks d = ap bank_of exchanged.taken in
          let n = p.piled.none_yet d (omega (arith, deep)) waits in
          let s = stack-none rows.pile.nums rows.pile.kinds (h.low + 32) k.height n ∙ sym (stack-none rows.pile.nums rows.pile.kinds (low_of rows.sides d) k.height n) in
          λ j. frame_from k.status k.places (a j) (forks_of rows.records (a j)) (k.pc / 4) (b j) (e j) (s j) (g j)

      now-kept : kept_frame rows' d ≡ hand_frame h rows
      now-kept =
          kept_by (kept_of sides d) (side_of h) (d + 1) (forks_of rows.records (d + 1)) (forks_of rows.records (d + 1))
          (stack_of rows.pile.nums rows.pile.kinds (low_of sides d) (kept_of sides d).height) (stack_of rows.pile.nums rows.pile.kinds h.low h.height)
          (bank_at after.banks d) (bank_of rows.registers) keeps.there refl stack
          (bank_is d ∙ bank_same rows.banks rows.registers d p.full.banks_full d-inside)
          ∙ last
        where
          stack : stack_of rows.pile.nums rows.pile.kinds (low_of sides d) (kept_of sides d).height ≡ stack_of rows.pile.nums rows.pile.kinds h.low h.height
          stack =
              let a = under_low d (omega arith) ∙ sym (low-same_stretch waits) in
              let b = ap (λ (x : Kept). x.height) keeps.there in
              λ j. stack_of rows.pile.nums rows.pile.kinds (a j) (b j)

          last : frame_from h.status h.places (d + 1) (forks_of rows.records (d + 1)) (h.pc / 4) 0 (h.spun - h.left)
              (stack_of rows.pile.nums rows.pile.kinds h.low h.height) (bank_of rows.registers) ≡ hand_frame h rows
          last =
              let a : d + 1 ≡ h.depth = omega (arith, deep) in
              λ j. frame_from h.status h.places (a j) (forks_of rows.records (a j)) (h.pc / 4) (sym rests.1 j) (h.spun - h.left)
              (stack_of rows.pile.nums rows.pile.kinds h.low h.height) (bank_of rows.registers)

      same-under : (i : ℕ) → i < d → kept_frame rows' i ≡ kept_frame rows i
      same-under i l =
          let a = under_low i (omega (arith, l)) in
          let b = ap (λ (x : Kept). x.height) (under-kept i l) in
          kept_by (kept_of sides i) (kept_of rows.sides i) (i + 1) (forks_of rows.records (i + 1)) (forks_of rows.records (i + 1))
          (stack_of rows.pile.nums rows.pile.kinds (low_of sides i) (kept_of sides i).height)
          (stack_of rows.pile.nums rows.pile.kinds (low_of rows.sides i) (kept_of rows.sides i).height)
          (bank_at after.banks i) (bank_at rows.banks i) (under-kept i l) refl (λ j. stack_of rows.pile.nums rows.pile.kinds (a j) (b j))
          (bank_is i ∙ bank_other rows.banks rows.registers d i (λ x. absurd (omega (arith, x, l))))

      -- the stack taken in hand lies above the one that is kept
      turn_low : h.low + 32 ≡ low_of sides h.depth
      turn_low =
          ap (λ n. n + 32) (low-same_stretch waits ∙ sym (under_low d (omega arith)))
          ∙ sym (above-ended h.status (low_of sides d) ended) ∙ sym (low_top sides d (ap (λ (x : Kept). x.status) keeps.there)) ∙ ap (low_of sides) (sym deep)

      turn-none : (i : ℕ) → i < h.depth → (kept_of sides i).status ≡ Running → (kept_of sides i).height ≡ 0
      turn-none i l w = by_order i d
          (λ b. ap (λ (x : Kept). x.height) (under-kept i b) ∙ p.piled.none_yet i l (sym (ap (λ (x : Kept). x.status) (under-kept i b)) ∙ w))
          (λ b. absurd (ended (sym (ap (λ (x : Kept). x.status) keeps.there) ∙ ap (λ m. (kept_of sides m).status) (sym b) ∙ w)))
          (λ b. absurd (omega (arith, b, deep, l)))

      pub turn_leads : {z : Hand} → z ≡ other_of h k → after.records ≡ rows.records → after.pile ≡ rows.pile → LeadsTo cells words interval h rows z after
      turn_leads {z} e er ep = subst (λ r. LeadsTo cells words interval h rows z r)
          (λ j. record { registers = after.registers; banks = after.banks; records = sym er j; sides = sides; pile = sym ep j })
          (subst (λ z. LeadsTo cells words interval h rows z rows') (sym e) (record {
            point = record {
              rank = p.rank;
              height = p.height;
              room = p.room;
              limited = p.limited;
              own_good = subst (Good cells p.rank p.height (work_limit - h.left)) (sym now_own) other-good;
              kept_good = λ i l. by_order i d
                  (λ b. subst (Good cells p.rank (p.rank - (i + 1)) (work_limit - h.left)) (sym (same-under i b)) (p.kept_good i l))
                  (λ b. subst (λ m. Good cells p.rank (p.rank - (m + 1)) (work_limit - h.left) (kept_frame rows' m)) (sym b)
                  (subst (λ n. Good cells p.rank n (work_limit - h.left) (kept_frame rows' d)) (sym height_is)
                  (subst (Good cells p.rank p.height (work_limit - h.left)) (sym now-kept) p.own_good)))
                  (λ b. absurd (omega (arith, b, deep, l)));
              full = record {
                sized = subst (λ (x : Registers). Sized x.nums x.kinds) (sym exchanged.taken) (p.full.banks_sized d d-inside);
                banks_full = ap length exchanged.given ∙ length-set rows.banks d rows.registers ∙ p.full.banks_full;
                banks_sized = subst (λ b. (i : ℕ) → i < 6 → BankSized b i) (sym exchanged.given)
                    (banks_stay_sized rows.banks d rows.registers p.full.banks_full p.full.sized p.full.banks_sized);
                records_full = p.full.records_full;
                sides_full = keeps.same_length ∙ p.full.sides_full;
                pile_full = p.full.pile_full;
                tags_full = p.full.tags_full;
              };
              piled = record { own_low = turn_low; none_yet = turn-none };
              nested = p.nested;
              on_place = p.kept_on_place d (omega (arith, deep));
              kept_on_place = λ i l. by_order i d
                  (λ b. subst (λ (x : Kept). x.pc ≡ 4 * (x.pc / 4)) (sym (under-kept i b)) (p.kept_on_place i l))
                  (λ b. subst (λ m. (kept_of sides m).pc ≡ 4 * ((kept_of sides m).pc / 4)) (sym b) (subst (λ (x : Kept). x.pc ≡ 4 * (x.pc / 4)) (sym keeps.there) p.on_place))
                  (λ b. absurd (omega (arith, b, deep, l)));
              counter_least = omega arith;
              span_least = omega arith;
            };
            its_same_end =
                ap (λ n. run R h.left (onward R (hand_frame h rows) (pending_from (kept_frame rows) n))) deep
                ∙ turn-run cells words interval (hand_frame h rows) h.left stopped (kept_frame rows) d (kept_frame rows') (ap is_running waits) now-kept same-under
                ∙ ap (λ f. run R h.left (onward R f (pending_from (kept_frame rows') (suc d)))) (sym now_own)
                ∙ ap (λ n. run R h.left (onward R (hand_frame (other_of h k) rows') (pending_from (kept_frame rows') n))) (sym deep);
          }))

    -- ---- the join

    -- the continuation, by the innermost fork's record
    abbrev b : ℕ
    b = get_or rows.records d 0 / 4294967296

    innermost : get_or (forks_of rows.records (d + 1)) (d + 1 - 1) zero_fork ≡ fork_of (get_or rows.records d 0)
    innermost =
        let q : d + 1 - 1 ≡ d = omega arith in
        ap (λ i. get_or (forks_of rows.records (d + 1)) i zero_fork) q ∙ fork_at rows.records (d + 1) d (omega arith)

    pub continuation-inside : b < block_count cells
    continuation-inside =
        let here : ltb d (d + 1) ≡ true = lt-ltb d (d + 1) (omega arith) in
        let t : is_target (program_of cells) (get_or (forks_of rows.records (d + 1)) d zero_fork).continuation ≡ true = rw here at (formed-other.its_forks_fit d d-inside) in
        let e = ap (λ (x : Fork). x.continuation) (fork_at rows.records (d + 1) d (omega arith)) in
        target_below (program_of cells) b (ap (is_target (program_of cells)) (sym e) ∙ t)

    abbrev longest : ℕ
    longest = max k.span (h.spun - h.left)

    forks-left : forks_of rows.records (h.depth - 1) ≡ set (forks_of rows.records (d + 1)) (d + 1 - 1) zero_fork
    forks-left =
        let x : h.depth - 1 ≡ d = omega (arith, deep) in
        let y : suc d ≡ d + 1 = omega arith in
        let z : d ≡ d + 1 - 1 = omega arith in
        ap (forks_of rows.records) x ∙ sym (forks-closed rows.records d) ∙ (λ j. set (forks_of rows.records (y j)) (z j) zero_fork)

    -- its task
    joint-task : (s : Status) (pc pc' height : ℕ) → pc / 4 ≡ pc'
        → (hand_frame (joined_of h k s pc height) rows).task ≡ outward_task s pc' height (kept_frame rows d).task (hand_frame h rows).task
    joint-task s pc pc' height q =
        let x : h.depth - 1 ≡ d + 1 - 1 = omega (arith, deep) in
        let y : h.left - h.left ≡ 0 = omega arith in
        let z : h.left + longest - h.left ≡ longest = omega arith in
        λ j. record { status = s; places = k.places + h.places; pc = q j; counter = y j; span = z j; depth = x j; height = height; forks = forks-left j }

    pub joint-faulted : (n : ℕ) → first_fault (fault_of k.status) (fault_of h.status) ≡ some n
        → hand_frame (joined_of h k (Faulted n) 0 0) rows ≡ join (program_of cells) (kept_frame rows d) (hand_frame h rows)
    unfolding join
    joint-faulted n first =
        let t = joint-task (Faulted n) 0 0 0 refl in
        let v = entries_none rows.pile.nums rows.pile.kinds (h.low - 32) 32 in
        (λ j. record { task = t j; registers = zeros; stack = v j })
        ∙ ap (λ o. joined_by o (program_of cells) (get_or (forks_of rows.records (d + 1)) (d + 1 - 1) zero_fork).continuation (kept_frame rows d) (hand_frame h rows)) (sym first)

    pub joint-running : first_fault (fault_of k.status) (fault_of h.status) ≡ none → (k.status ≡ Running → ⊥) → (pc : ℕ)
        → pc / 4 ≡ (block_of cells (block_of cells b).label).first → (g : Registers)
        → bank_of g ≡ copied (bank_of rows.registers) (block_of cells b).pairs (block_of cells b).packed (bank_at rows.banks d)
        → hand_frame (joined_of h k Running pc k.height) (with_own rows g rows.pile) ≡ join (program_of cells) (kept_frame rows d) (hand_frame h rows)
    unfolding join
    joint-running first both pc q g m =
        let t = joint-task Running pc (block_of cells (block_of cells b).label).first k.height q in
        let low : h.low - 32 ≡ low_of rows.sides d = omega (arith, low-next both) in
        let v = ap (λ i. entries_from rows.pile.nums rows.pile.kinds i k.height 32) low in
        let u = neither (fault_of k.status) (fault_of h.status) first in
        let l = m
        ∙ ap (λ c. copied c (block_of cells b).pairs (block_of cells b).packed (bank_at rows.banks d)) (sym (plain-registers h.status (bank_of rows.registers) u.1))
        ∙ ap (copied (registers_from h.status (bank_of rows.registers)) (block_of cells b).pairs (block_of cells b).packed) (sym
        (plain-registers k.status (bank_at rows.banks d) u.0)) in
        (λ j. record { task = t j; registers = l j; stack = v j })
        ∙ ap (λ (x : Fork). joined_by none (program_of cells) x.continuation (kept_frame rows d) (hand_frame h rows)) (sym innermost)
        ∙ ap (λ o. joined_by o (program_of cells) (get_or (forks_of rows.records (d + 1)) (d + 1 - 1) zero_fork).continuation (kept_frame rows d) (hand_frame h rows)) (sym first)

    module _ (accept : program_no cells ≡ 0) (both : k.status ≡ Running → ⊥) (words : List ℤ) (interval : ℕ) (n : Status) (pc height : ℕ) (on : pc ≡ 4 * (pc / 4)) (g : Registers) (sized : Sized g.nums g.kinds)
        (is_join : hand_frame (joined_of h k n pc height) (with_own rows g rows.pile) ≡ join (program_of cells) (kept_frame rows d) (hand_frame h rows)) where
      abbrev joint : Rows
      joint = with_own rows g rows.pile

      same : (i : ℕ) → i < d → kept_frame joint i ≡ kept_frame rows i
      same i l = refl

      pub join_leads : {z : Hand} → z ≡ joined_of h k n pc height → LeadsTo cells words interval h rows z joint
      join_leads e =
          let x : h.depth - 1 ≡ d = omega (arith, deep) in
          subst (λ z. LeadsTo cells words interval h rows z joint) (sym e) (record {
            point = record {
              rank = p.rank;
              height = suc p.height;
              room = p.room;
              limited = p.limited;
              own_good = subst (Good cells p.rank (suc p.height) (work_limit - h.left)) (sym is_join)
                  (join-good cells words interval accept p.rank p.height (work_limit - h.left) p.room (omega (arith, deep, formed_own.has_depth))
                  (kept_frame rows d) (hand_frame h rows) other-good p.own_good);
              kept_good = λ i l. subst (Good cells p.rank (p.rank - (i + 1)) (work_limit - h.left)) (sym (same i (omega (arith, l, x)))) (p.kept_good i (omega (arith, l, deep)));
              full = record {
                sized = sized;
                banks_full = p.full.banks_full;
                banks_sized = p.full.banks_sized;
                records_full = p.full.records_full;
                sides_full = p.full.sides_full;
                pile_full = p.full.pile_full;
                tags_full = p.full.tags_full;
              };
              piled = record {
                own_low = let low : h.low - 32 ≡ low_of rows.sides d = omega (arith, low-next both) in low ∙ ap (low_of rows.sides) (sym x);
                none_yet = λ i l w. p.piled.none_yet i (omega (arith, l, deep)) w;
              };
              nested = record { fitted = λ i l. p.nested.fitted i (omega (arith, l, deep)) };
              on_place = on;
              kept_on_place = λ i l. p.kept_on_place i (omega (arith, l, deep));
              counter_least = omega arith;
              span_least = omega arith;
            };
            its_same_end =
                ap (λ m. run (rules cells words interval) h.left (onward (rules cells words interval) (hand_frame h rows) (pending_from (kept_frame rows) m))) deep
                ∙ join-run cells words interval (hand_frame h rows) h.left stopped (kept_frame rows) d (kept_frame joint) (not-running k.status both) same
                ∙ ap (λ f. run (rules cells words interval) h.left (onward (rules cells words interval) f (pending_from (kept_frame joint) d))) (sym is_join)
                ∙ ap (λ m. run (rules cells words interval) h.left (onward (rules cells words interval) (hand_frame (joined_of h k n pc height) joint) (pending_from (kept_frame joint) m))) (sym x);
          })

  pub top-inside : 0 < h.depth → h.depth - 1 < 6
  top-inside deeper = d-inside (h.depth - 1) (omega (arith, deeper))
