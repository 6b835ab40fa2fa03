-- What an instruction makes of the task in hand and of the rows: each way through `apply`.
use mathlib.Core.Path.{◌≡◌, refl, sym, ap, subst, ◌∙◌}
use mathlib.Core.Bool.{cond}
use mathlib.Core.List.{List}
use Prim.Native.Nat.{ℕ, suc, ◌+◌, ◌*◌, ◌-◌, ◌/◌, ◌<◌, ◌≤◌}
use native.Mathlib.Omega.{arith}
use lib.ListN.{length, get_or, set, length-set}
use lib.Seq.{get_or-set_same, get_or-set_other}
use borrow.Author.Tests.{lt-ltb, le-ltb}
use Rattle.agreement.specs.Plain.{one, two}
use Rattle.task.specs.declared.Register.{Register}
use Rattle.task.specs.declared.Status.{Status}
use Rattle.task.specs.declared.Status.TheVariants.{Running, Faulted}
use Rattle.task.specs.declared.Fork.{Fork}
use Rattle.task.specs.declared.Task.{Task}
use Rattle.task.specs.declared.Frame.{Frame}
use Rattle.task.specs.declared.Kind.{Kind}
use Rattle.task.specs.declared.Kind.TheVariants.{Stores, Pushes, Pops, Faults, Forks}
use Rattle.task.specs.declared.Executed.{Executed}
use Rattle.task.specs.Frames.{zero_register, zeros, empty_stack}
use Rattle.task.specs.Values.{record_of}
use Rattle.task.specs.Step.{counted, moved_to, ended, side, with_height, with_task, emptied, faulted, pushed, popped}
use Rattle.facts.proofs.Tests.{by-below}
use Rattle.evaluator.specs.declared.Hand.{Hand}
use Rattle.evaluator.specs.declared.Kept.{Kept}
use Rattle.arms.specs.declared.Registers.{Registers}
use Rattle.arms.specs.declared.Pile.{Pile}
use Rattle.arms.specs.Registers.{value_of, registers_of, Sized}
use Rattle.arms.specs.Stacks.{Stacked, entries_from, stack_of, Lies, SameBelow}
use Rattle.evaluator.specs.declared.Rows.{Rows}
use Rattle.evaluator.specs.Banks.{bank_of, no_bank, bank_at, fork_of, forks_of}
use Rattle.evaluator.specs.Sides.{made_of}
use Rattle.evaluator.specs.Hands.{frame_from, kept_of, low_of, Keeps, hand_frame, Piled}
use Rattle.evaluator.specs.Hands.{kept_frame, Full, hand_side, gone_on, ended_with, parent_of, child_of, Pushed, Popped, stepped_in, own_frame, Applied}
use Rattle.arms.proofs.RegisterLaws.{written, still_sized}
use Rattle.evaluator.proofs.BankLaws.{banks_stay_sized}
use Rattle.evaluator.proofs.ForkLaws.{forks_opened, forks-below}
use Rattle.arms.proofs.StackLaws.{entries_none, entries_pushed, entries_popped, entry_at, entries_below, below_set}
use Rattle.evaluator.proofs.StackLaws.{by-running, low_same, low_most, low-above}

-- ---- a record as one number

-- ---- banks of other sides

pub bank_same : (banks : List Registers) (r : Registers) (d : ℕ) → length banks ≡ 6 → d < 6 → bank_at (set banks d r) d ≡ bank_of r
bank_same banks r d full low = ap bank_of (get_or-set_same banks d r no_bank (omega (arith, full, low)))

pub bank_other : (banks : List Registers) (r : Registers) (d i : ℕ) → (i ≡ d → ⊥) → bank_at (set banks d r) i ≡ bank_at banks i
bank_other banks r d i n = ap bank_of (get_or-set_other banks d i r no_bank n)

-- ---- rows with other registers and another pile

abbrev pub with_own : Rows → Registers → Pile → Rows
with_own rows registers pile = record { registers = registers; banks = rows.banks; records = rows.records; sides = rows.sides; pile = pile }

-- ---- a kept side by its parts

pub kept_by : (k k' : Kept) (n : ℕ) (o o' : List Fork) (u u' : Stacked) (l l' : List Register) → k ≡ k' → o ≡ o' → u ≡ u' → l ≡ l'
    → frame_from k.status k.places n o (k.pc / 4) 0 k.span u l ≡ frame_from k'.status k'.places n o' (k'.pc / 4) 0 k'.span u' l'
kept_by k k' n o o' u u' l l' p q s r =
    ap (λ (x : Kept). frame_from x.status x.places n o (x.pc / 4) 0 x.span u l) p
    ∙ (λ j. frame_from k'.status k'.places n (q j) (k'.pc / 4) 0 k'.span (s j) (r j))

-- ---- stacks of kept sides

-- an empty one
pub stack-none : (pile tags : List ℕ) (low n : ℕ) → n ≡ 0 → ◌≡◌ {A = Stacked} (stack_of pile tags low n) (record { height = 0; values = empty_stack })
stack-none pile tags low n e =
    ap (stack_of pile tags low) e ∙ (λ j. record { height = 0; values = entries_none pile tags low 32 j })

-- what the task in hand does to its own leaves them
stack-stays : (h : Hand) (sides : List Kept) (pile tags pile' tags' : List ℕ) (i : ℕ) → SameBelow h.low pile tags pile' tags' → Piled h sides → i < h.depth
    → stack_of pile' tags' (low_of sides i) (kept_of sides i).height ≡ stack_of pile tags (low_of sides i) (kept_of sides i).height
stack-stays h sides pile tags pile' tags' i same piled l = by-running (kept_of sides i).status
    (λ e.
    let n = piled.none_yet i l e in
    stack-none pile' tags' (low_of sides i) (kept_of sides i).height n
    ∙ sym (stack-none pile tags (low_of sides i) (kept_of sides i).height n))
    (λ n.
    let below = low-above sides h.depth i l n in
    let e = entries_below pile tags pile' tags' h.low (low_of sides i) (kept_of sides i).height 32 same (omega (arith, below, piled.own_low)) in
    λ j. record { height = (kept_of sides i).height; values = e j })

-- and so the sides
pub kept-stays : (h : Hand) (rows : Rows) (registers : Registers) (pile : Pile) (i : ℕ) → SameBelow h.low rows.pile.nums rows.pile.kinds pile.nums pile.kinds
    → Piled h rows.sides → i < h.depth → kept_frame (with_own rows registers pile) i ≡ kept_frame rows i
kept-stays h rows registers pile i same piled l =
    let k = kept_of rows.sides i in
    let o = forks_of rows.records (i + 1) in
    let b = bank_at rows.banks i in
    kept_by k k (i + 1) o o (stack_of pile.nums pile.kinds (low_of rows.sides i) k.height) (stack_of rows.pile.nums rows.pile.kinds (low_of rows.sides i) k.height) b b refl refl
    (stack-stays h rows.sides rows.pile.nums rows.pile.kinds pile.nums pile.kinds i same piled l) refl

-- ---- by the kind of what was carried out

module _ (h : Hand) (rows : Rows) (r : ℕ) (e : Executed) (full : Full rows) (some : 0 < h.left) (least : h.left ≤ h.spun) where
  abbrev nums : List ℕ
  nums = rows.registers.nums

  abbrev kinds : List ℕ
  kinds = rows.registers.kinds

  abbrev records : List ℕ
  records = rows.records

  abbrev sides : List Kept
  sides = rows.sides

  abbrev pile : List ℕ
  pile = rows.pile.nums

  abbrev tags : List ℕ
  tags = rows.pile.kinds

  abbrev task : Task
  task = (hand_side h records rows.registers).task

  abbrev f : Frame
  f = own_frame h rows

  span_more : h.spun - (h.left - 1) ≡ h.spun - h.left + 1
  span_more = omega (arith, some, least)

  goes_frame : (pc counter : ℕ) (u : Stacked) (v : List Register) (l : List Register) → u.values ≡ v
      → frame_from Running h.places h.depth (forks_of records h.depth) (4 * pc / 4) (h.left - 1 + counter - (h.left - 1)) (h.spun - (h.left - 1)) u l
      ≡ record { task = with_height u.height (moved_to pc counter (counted task)); registers = l; stack = v }
  goes_frame pc counter u v l q =
      let a : 4 * pc / 4 ≡ pc = omega arith in
      let b : h.left - 1 + counter - (h.left - 1) ≡ counter = omega arith in
      λ j. record {
        task = record {
          status = Running;
          places = h.places;
          pc = a j;
          counter = b j;
          span = span_more j;
          depth = h.depth;
          height = u.height;
          forks = forks_of records h.depth;
        };
        registers = l;
        stack = q j;
      }

  abbrev at_end : Status → Stacked → List Register → Frame
  at_end s u l = record {
    task = record {
      status = s;
      places = h.places;
      pc = 0 / 4;
      counter = h.left - 1 - (h.left - 1);
      span = h.spun - (h.left - 1);
      depth = h.depth;
      height = u.height;
      forks = forks_of records h.depth;
    };
    registers = l;
    stack = u.values;
  }

  ends_frame : (s : Status) (u : Stacked) (v l : List Register) → u.values ≡ v
      → at_end s u l ≡ record { task = with_height u.height (ended s (counted task)); registers = l; stack = v }
  ends_frame s u v l t =
      let b : h.left - 1 - (h.left - 1) ≡ 0 = omega arith in
      λ j. record {
        task = record {
          status = s;
          places = h.places;
          pc = 0;
          counter = b j;
          span = span_more j;
          depth = h.depth;
          height = u.height;
          forks = forks_of records h.depth;
        };
        registers = l;
        stack = t j;
      }

  -- a fault, whatever the pile holds
  faults_frame : (n : ℕ) → hand_frame (ended_with h (Faulted n) 0) rows ≡ faulted n (with_task (counted f.task) f)
  faults_frame n = ends_frame (Faulted n) (stack_of pile tags h.low 0) empty_stack zeros (entries_none pile tags h.low 32)

  -- one task, and the kept sides stay
  alone : (k : Kind) → e.kind ≡ k → (k ≡ Forks → ⊥) → (z : Hand) (g : Registers) (u : Pile) → Sized g.nums g.kinds
      → length u.nums ≡ 224 → length u.kinds ≡ 224 → ((i : ℕ) → i < h.depth → kept_frame (with_own rows g u) i ≡ kept_frame rows i)
      → z.left ≡ h.left - 1 → z.pc ≡ 4 * (z.pc / 4) → z.left ≤ z.beat → z.spun ≡ h.spun → z.low ≡ h.low
      → stepped_in k (hand_frame z (with_own rows g u)) (kept_frame (with_own rows g u) h.depth) ≡ made_of k f r e
      → Applied h rows r e z (with_own rows g u)
  alone k q n z g u sized lp lt below less on least same low m = record {
    made = ap (λ y. stepped_in y (hand_frame z (with_own rows g u)) (kept_frame (with_own rows g u) h.depth)) q ∙ m ∙ ap (λ y. made_of y f r e) (sym q);
    same_below = below;
    same_kept = λ i l. refl;
    child_kept = λ x. absurd (n (sym q ∙ x));
    same_forks = λ i l. refl;
    record_kept = λ x. absurd (n (sym q ∙ x));
    still_full = record {
      sized = sized;
      banks_full = full.banks_full;
      banks_sized = full.banks_sized;
      records_full = full.records_full;
      sides_full = full.sides_full;
      pile_full = lp;
      tags_full = lt;
    };
    less = less;
    on_place = on;
    counter_least = least;
    same_spun = same;
    same_low = low;
  }

  -- with these registers, and the pile as it was
  going_on_lem : (k : Kind) → e.kind ≡ k → (k ≡ Forks → ⊥) → (n : ℕ) (g : Registers) → Sized g.nums g.kinds
      → stepped_in k (hand_frame (gone_on h e.pc e.counter n) (with_own rows g rows.pile)) (kept_frame rows h.depth) ≡ made_of k f r e
      → {z : Hand} → z ≡ gone_on h e.pc e.counter n → Applied h rows r e z (with_own rows g rows.pile)
  going_on_lem k q apart n g sized m y = subst (λ z. Applied h rows r e z (with_own rows g rows.pile)) (sym y)
      (alone k q apart (gone_on h e.pc e.counter n) g rows.pile sized full.pile_full full.tags_full (λ i l. refl) refl (omega arith) (omega arith) refl refl m)

  ending_with : (k : Kind) → e.kind ≡ k → (k ≡ Forks → ⊥) → (w : Status) (n : ℕ)
      → stepped_in k (hand_frame (ended_with h w n) rows) (kept_frame rows h.depth) ≡ made_of k f r e
      → {z : Hand} → z ≡ ended_with h w n → Applied h rows r e z rows
  ending_with k q apart w n m y = subst (λ z. Applied h rows r e z rows) (sym y)
      (alone k q apart (ended_with h w n) rows.registers rows.pile full.sized full.pile_full full.tags_full (λ i l. refl) refl refl (omega arith) refl refl m)

  pub applied_stores : (u k : ℕ) {g : Registers} {z : Hand} → e.kind ≡ Stores → value_of k u ≡ e.value → g.nums ≡ set nums r u → g.kinds ≡ set kinds r k
      → z ≡ gone_on h e.pc e.counter h.height → Applied h rows r e z (with_own rows g rows.pile)
  applied_stores u k {g} q v p t y =
      going_on_lem Stores q (λ x. let z : ◌≡◌ {A = ℕ} 0 1 = cc in absurd (omega arith)) h.height g (still_sized nums kinds r u k full.sized p t)
      (ap one (goes_frame e.pc e.counter (stack_of pile tags h.low h.height) f.stack (bank_of g) refl
      ∙ ap (λ l. record { task = moved_to e.pc e.counter (counted task); registers = l; stack = f.stack })
      (rw (p, t) (written nums kinds r u k) ∙ ap (λ w. set (registers_of nums kinds) r (record { value = w })) v))) y

  pub applied-faults : {z : Hand} → e.kind ≡ Faults → z ≡ ended_with h (Faulted e.fault) 0 → Applied h rows r e z rows
  applied-faults q y =
      ending_with Faults q (λ x. let z : ◌≡◌ {A = ℕ} 0 1 = cc in absurd (omega arith)) (Faulted e.fault) 0 (ap one (faults_frame e.fault)) y

  -- ---- the stack

  -- the frame at the next instruction
  abbrev onward : Frame
  onward = with_task (moved_to e.pc e.counter (counted f.task)) f

  -- registers and a pile that are as they were
  same_rows : {z : Hand} {g : Registers} {u : Pile} → g.nums ≡ nums → g.kinds ≡ kinds → u.nums ≡ pile → u.kinds ≡ tags → Applied h rows r e z rows
      → Applied h rows r e z (with_own rows g u)
  same_rows {z} {g} {u} a b c d x =
      subst (λ y. Applied h rows r e z (with_own rows y u)) (λ j. record { nums = sym a j; kinds = sym b j })
      (subst (λ y. Applied h rows r e z (with_own rows rows.registers y)) (λ j. record { nums = sym c j; kinds = sym d j }) x)

  module _ (piled : Piled h sides) (shallow : h.depth ≤ 6) where
    pub low_small : h.low ≤ 192
    low_small = omega (arith, piled.own_low, low_most sides h.depth, shallow)

    module _ (u k : ℕ) (place : h.height < 32) (v : value_of k u ≡ e.value) where
      abbrev now : Hand
      now = gone_on h e.pc e.counter (h.height + 1)

      abbrev pile_now : List ℕ
      pile_now = set pile (h.low + h.height) u

      abbrev tags_now : List ℕ
      tags_now = set tags (h.low + h.height) k

      push-values : entries_from pile_now tags_now h.low (h.height + 1) 32 ≡ set f.stack h.height (record { value = e.value })
      push-values =
          let n : h.height + 1 ≡ suc h.height = omega arith in
          ap (λ m. entries_from pile_now tags_now h.low m 32) n
          ∙ entries_pushed pile tags h.low h.height 32 u k place (omega (arith, low_small, place, full.pile_full)) (omega (arith, low_small, place, full.tags_full))
          ∙ ap (λ w. set f.stack h.height (record { value = w })) v

      abbrev u' : Pile
      u' = record { nums = pile_now; kinds = tags_now }

      push_below : (i : ℕ) → i < h.depth → kept_frame (with_own rows rows.registers u') i ≡ kept_frame rows i
      push_below i l =
          let lies : Lies pile tags h.low = record { pile_full = full.pile_full; tags_full = full.tags_full; low_most = low_small } in
          kept-stays h rows rows.registers u' i (below_set pile tags h.low (h.low + h.height) u k lies (omega arith)) piled l

      push-placed : {z : Hand} {y : Pile} → e.kind ≡ Pushes → z ≡ now → y.nums ≡ pile_now → y.kinds ≡ tags_now
          → Applied h rows r e z (with_own rows rows.registers y)
      push-placed {z} {y} q x p t =
          subst (λ z. Applied h rows r e z (with_own rows rows.registers y)) (sym x)
          (subst (λ l. Applied h rows r e now (with_own rows rows.registers l)) (λ j. record { nums = sym p j; kinds = sym t j })
          (alone Pushes q (λ x. let z : ◌≡◌ {A = ℕ} 0 1 = cc in absurd (omega arith)) now rows.registers u' full.sized
          (length-set pile (h.low + h.height) u ∙ full.pile_full) (length-set tags (h.low + h.height) k ∙ full.tags_full) push_below
          refl (omega arith) (omega arith) refl refl
          (ap one (goes_frame e.pc e.counter (stack_of pile_now tags_now h.low (h.height + 1)) (set f.stack h.height (record { value = e.value }))
          (registers_of nums kinds) push-values
          ∙ ap (λ b. cond b (pushed e.value onward) (faulted 42 (with_task (counted f.task) f))) (sym (lt-ltb h.height 32 place))))))

    push-faults : {z : Hand} → e.kind ≡ Pushes → 32 ≤ h.height → z ≡ ended_with h (Faulted 42) 0 → Applied h rows r e z rows
    push-faults q none y =
        ending_with Pushes q (λ x. let z : ◌≡◌ {A = ℕ} 0 1 = cc in absurd (omega arith)) (Faulted 42) 0
        (ap one (faults_frame 42
        ∙ ap (λ b. cond b (pushed e.value onward) (faulted 42 (with_task (counted f.task) f))) (sym (le-ltb h.height 32 none)))) y

    pub applied_pushes : {z : Hand} {y : Pile} → e.kind ≡ Pushes → Pushed h e pile tags z y.nums y.kinds
        → Applied h rows r e z (with_own rows rows.registers y)
    applied_pushes q x = by-below h.height 32
        (λ b. let y = x.its_has_place b in push-placed y.0 y.1 b y.2 q y.3 y.4 y.5)
        (λ b. let y = x.no_place b in same_rows refl refl y.1 y.2 (push-faults q b y.0))

    module _ (one-there : 0 < h.height) (most : h.height ≤ 32) where
      abbrev n : ℕ
      n = h.height - 1

      abbrev at : ℕ
      at = h.low + n

      pop-values : entries_from pile tags h.low n 32 ≡ set f.stack n zero_register
      pop-values =
          let m : suc n ≡ h.height = omega (arith, one-there) in
          entries_popped pile tags h.low n 32 ∙ ap (λ i. set (entries_from pile tags h.low i 32) n zero_register) m

      pop-taken : {z : Hand} {g : Registers} → e.kind ≡ Pops → z ≡ gone_on h e.pc e.counter n
          → g.nums ≡ set nums r (get_or pile at 0) → g.kinds ≡ set kinds r (get_or tags at 0)
          → Applied h rows r e z (with_own rows g rows.pile)
      pop-taken {z} {g} q y p t =
          going_on_lem Pops q (λ x. let z : ◌≡◌ {A = ℕ} 0 1 = cc in absurd (omega arith)) n g (still_sized nums kinds r (get_or pile at 0) (get_or tags at 0) full.sized p t)
          (ap one (goes_frame e.pc e.counter (stack_of pile tags h.low n) (set f.stack n zero_register) (bank_of g) pop-values
          ∙ ap (λ l. record { task = with_height n (moved_to e.pc e.counter (counted task)); registers = l; stack = set f.stack n zero_register })
          (rw (p, t) (written nums kinds r (get_or pile at 0) (get_or tags at 0))
          ∙ ap (set (registers_of nums kinds) r) (sym (entry_at pile tags h.low h.height 32 n (omega (arith, one-there)) (omega (arith, one-there, most)))))
          ∙ ap (λ b. cond b (popped r onward) (faulted 43 (with_task (counted f.task) f))) (sym (lt-ltb 0 h.height one-there)))) y

    pop-faults : {z : Hand} → e.kind ≡ Pops → h.height ≡ 0 → z ≡ ended_with h (Faulted 43) 0 → Applied h rows r e z rows
    pop-faults q none y =
        ending_with Pops q (λ x. let z : ◌≡◌ {A = ℕ} 0 1 = cc in absurd (omega arith)) (Faulted 43) 0
        (ap one (faults_frame 43
        ∙ ap (λ b. cond b (popped r onward) (faulted 43 (with_task (counted f.task) f))) (sym (le-ltb 0 h.height (omega (arith, none)))))) y

    pub applied_pops : {z : Hand} {g : Registers} → e.kind ≡ Pops → h.height ≤ 32 → Popped h r e pile tags nums kinds z g.nums g.kinds
        → Applied h rows r e z (with_own rows g rows.pile)
    applied_pops q most x = by-below 0 h.height
        (λ b. let y = x.has_value b in pop-taken b most q y.0 y.1 y.2)
        (λ b. let n : h.height ≡ 0 = omega (arith, b) in let y = x.no_value n in same_rows y.1 y.2 refl refl (pop-faults q n y.0))

  -- two sides
  module _ (u : ℕ) (under : fork_of u ≡ record_of e.value) (room : h.depth < 6) (sides' : List Kept) (keeps : Keeps sides h.depth (child_of h e.child) sides') where
    abbrev banks' : List Registers
    banks' = set rows.banks h.depth rows.registers

    abbrev records' : List ℕ
    records' = set records h.depth u

    abbrev rows' : Rows
    rows' = record { registers = rows.registers; banks = banks'; records = records'; sides = sides'; pile = rows.pile }

    forks-now : forks_of records' (h.depth + 1) ≡ set (forks_of records h.depth) h.depth (record_of e.value)
    forks-now =
        let q : h.depth + 1 ≡ suc h.depth = omega arith in
        ap (forks_of records') q ∙ forks_opened records h.depth u ∙ ap (set (forks_of records h.depth) h.depth) under

    abbrev parent : Task
    parent = side (record_of e.value) e.pc e.counter (counted task)

    parent_is : hand_frame (parent_of h e.pc e.counter) rows' ≡ with_task parent f
    parent_is =
        let a : 4 * e.pc / 4 ≡ e.pc = omega arith in
        let b : h.left - 1 + e.counter - (h.left - 1) ≡ e.counter = omega arith in
        λ j. record {
          task = record {
            status = Running;
            places = h.places / 2;
            pc = a j;
            counter = b j;
            span = span_more j;
            depth = h.depth + 1;
            height = h.height;
            forks = forks-now j;
          };
          registers = registers_of nums kinds;
          stack = f.stack;
        }

    -- the child's stack is empty
    abbrev empty : Stacked
    empty = record { height = 0; values = empty_stack }

    child_is : kept_frame rows' h.depth ≡ emptied (with_task (moved_to e.child 0 parent) f)
    child_is =
        kept_by (kept_of sides' h.depth) (child_of h e.child) (h.depth + 1) (forks_of records' (h.depth + 1)) (forks_of records' (h.depth + 1))
        (stack_of pile tags (low_of sides' h.depth) (kept_of sides' h.depth).height) empty
        (bank_at banks' h.depth) (registers_of nums kinds) keeps.there refl
        (stack-none pile tags (low_of sides' h.depth) (kept_of sides' h.depth).height (ap (λ (k : Kept). k.height) keeps.there))
        (bank_same rows.banks rows.registers h.depth full.banks_full room)
        ∙ last
      where
        last : frame_from Running (h.places / 2) (h.depth + 1) (forks_of records' (h.depth + 1)) (4 * e.child / 4) 0 (h.spun - (h.left - 1)) empty (registers_of nums kinds)
            ≡ emptied (with_task (moved_to e.child 0 parent) f)
        last =
            let a : 4 * e.child / 4 ≡ e.child = omega arith in
            λ j. record {
              task = record {
                status = Running;
                places = h.places / 2;
                pc = a j;
                counter = 0;
                span = span_more j;
                depth = h.depth + 1;
                height = 0;
                forks = forks-now j;
              };
              registers = registers_of nums kinds;
              stack = empty_stack;
            }

    others-kept : (i : ℕ) → i < h.depth → kept_of sides' i ≡ kept_of sides i
    others-kept i l = keeps.elsewhere i (λ x. absurd (omega (arith, x, l)))

    stacks_stay : (i : ℕ) → i < h.depth
        → stack_of pile tags (low_of sides' i) (kept_of sides' i).height ≡ stack_of pile tags (low_of sides i) (kept_of sides i).height
    stacks_stay i l =
        let a = low_same sides sides' i (λ m b. others-kept m (omega (arith, b, l))) in
        let b = ap (λ (k : Kept). k.height) (others-kept i l) in
        λ j. stack_of pile tags (a j) (b j)

    forks-applied : {z : Hand} → e.kind ≡ Forks → z ≡ parent_of h e.pc e.counter → Applied h rows r e z rows'
    forks-applied q y = subst (λ z. Applied h rows r e z rows') (sym y) (record {
      made = ap (λ k. stepped_in k (hand_frame (parent_of h e.pc e.counter) rows') (kept_frame rows' h.depth)) q
          ∙ ap (λ p. two p (kept_frame rows' h.depth)) parent_is ∙ ap (two (with_task parent f)) child_is ∙ ap (λ k. made_of k f r e) (sym q);
      same_below = λ i l. kept_by (kept_of sides' i) (kept_of sides i) (i + 1) (forks_of records' (i + 1)) (forks_of records (i + 1))
          (stack_of pile tags (low_of sides' i) (kept_of sides' i).height) (stack_of pile tags (low_of sides i) (kept_of sides i).height)
          (bank_at banks' i) (bank_at rows.banks i) (others-kept i l)
          (forks-below records h.depth (i + 1) u (omega (arith, l))) (stacks_stay i l)
          (bank_other rows.banks rows.registers h.depth i (λ x. absurd (omega (arith, x, l))));
      same_kept = others-kept;
      child_kept = λ x. keeps.there;
      same_forks = λ i l. forks-below records h.depth i u l;
      record_kept = λ x. ap fork_of (get_or-set_same records h.depth u 0 (omega (arith, room, full.records_full))) ∙ under;
      still_full = record {
        sized = full.sized;
        banks_full = length-set rows.banks h.depth rows.registers ∙ full.banks_full;
        banks_sized = banks_stay_sized rows.banks h.depth rows.registers full.banks_full full.sized full.banks_sized;
        records_full = length-set records h.depth u ∙ full.records_full;
        sides_full = keeps.same_length ∙ full.sides_full;
        pile_full = full.pile_full;
        tags_full = full.tags_full;
      };
      less = refl;
      on_place = omega arith;
      counter_least = omega arith;
      same_spun = refl;
      same_low = refl;
    })

    pub applied-forks : {z : Hand} {g : Registers} {b : List Registers} {c : List ℕ} {p : Pile} → e.kind ≡ Forks → z ≡ parent_of h e.pc e.counter
        → g ≡ rows.registers → b ≡ banks' → c ≡ records' → p ≡ rows.pile
        → Applied h rows r e z (record { registers = g; banks = b; records = c; sides = sides'; pile = p })
    applied-forks {z} q y eg eb ec ep =
        subst (λ x. Applied h rows r e z x) (λ j. record { registers = sym eg j; banks = sym eb j; records = sym ec j; sides = sides'; pile = sym ep j })
        (forks-applied q y)
