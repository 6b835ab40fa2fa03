-- Stacks in two rows: an empty one, a push, a pop, and one that lies below. And a push or a pop held against `step`.
use mathlib.Core.Path.{◌≡◌, refl, sym, ap, ◌∙◌}
use mathlib.Core.Bool.{Bool, true, false, ◌&&◌, cond}
use mathlib.Core.List.{List, ◌∷◌}
use Prim.Native.Nat.{ℕ, zero, suc, ◌+◌, ◌*◌, ◌-◌, ◌/◌, ◌<◌, ◌≤◌}
use native.Mathlib.Omega.{arith}
use lib.Dec.{eqb, leb}
use lib.IntN.{ℤ}
use lib.ListN.{length, get_or, set, length-set, replicate}
use lib.Seq.{get_or-set_same, get_or-set_other}
use borrow.Author.Tests.{eqb-true, eqb-false, lt-ltb, lt-leb}
use Rattle.std.specs.Prelude.{Option, Some, None}
use Rattle.facts.proofs.Tests.{by-test}
use Rattle.image.specs.declared.Instruction.{Instruction}
use Rattle.image.specs.Layout.{instruction_count, instruction_of, program_of}
use Rattle.agreement.specs.Plain.{one}
use Rattle.task.specs.declared.Register.{Register}
use Rattle.task.specs.declared.Fork.{Fork}
use Rattle.task.specs.declared.Frame.{Frame}
use Rattle.task.specs.Frames.{zero_register}
use Rattle.task.specs.Choices.{chosen}
use Rattle.task.specs.Step.{counted, moved_to, with_task, faulted, pushed, popped, step}
use Rattle.task.proofs.Executing.{made, step-executed}
use Rattle.arms.specs.Registers.{value_of, registers_of, Sized, operand_by}
use Rattle.arms.specs.Stacks.{Stacked, entries_from, stack_of, Lies, SameBelow, PushedOn, PoppedTo, CanStack, StackTurned}
use Rattle.image.specs.Questions.{program_no}
use Rattle.arms.specs.Code.{Decodes}
use Rattle.arms.specs.Turns.{frame_at, At}
use Rattle.arms.proofs.RegisterLaws.{written, still_sized}
use Rattle.arms.proofs.TurnLaws.{Fetched, fetched, named, register_operand, means}

-- ---- entries

pub entries_none : (pile tags : List ℕ) (at n : ℕ) → entries_from pile tags at 0 n ≡ replicate n zero_register
unfolding entries_from
entries_none pile tags at zero = refl
entries_none pile tags at (suc n) = ap (λ l. zero_register ∷ l) (entries_none pile tags at n)

-- whatever the rows hold
same_none : (pile tags pile' tags' : List ℕ) (at at' n : ℕ) → entries_from pile tags at 0 n ≡ entries_from pile' tags' at' 0 n
same_none pile tags pile' tags' at at' n = entries_none pile tags at n ∙ sym (entries_none pile' tags' at' n)

-- one stored above the others
pub entries_pushed : (pile tags : List ℕ) (at h n u k : ℕ) → h < n → at + h < length pile → at + h < length tags
    → entries_from (set pile (at + h) u) (set tags (at + h) k) at (suc h) n ≡ set (entries_from pile tags at h n) h (record { value = value_of k u })
unfolding entries_from
entries_pushed pile tags at h zero u k l p q = absurd (omega (arith, l))
entries_pushed pile tags at zero (suc n) u k l p q =
    let e : at + 0 ≡ at = omega arith in
    let a : get_or (set pile (at + 0) u) at 0 ≡ u = ap (λ i. get_or (set pile i u) at 0) e ∙ get_or-set_same pile at u 0 (omega (arith, p)) in
    let b : get_or (set tags (at + 0) k) at 0 ≡ k = ap (λ i. get_or (set tags i k) at 0) e ∙ get_or-set_same tags at k 0 (omega (arith, q)) in
    let r = same_none (set pile (at + 0) u) (set tags (at + 0) k) pile tags (suc at) at n in
    λ j. record { value = value_of (b j) (a j) } ∷ r j
entries_pushed pile tags at (suc h) (suc n) u k l p q =
    let e : at + suc h ≡ suc at + h = omega arith in
    let a = get_or-set_other pile (at + suc h) at u 0 (omega arith) in
    let b = get_or-set_other tags (at + suc h) at k 0 (omega arith) in
    let r : entries_from (set pile (at + suc h) u) (set tags (at + suc h) k) (suc at) (suc h) n ≡ set (entries_from pile tags (suc at) h n) h (record { value = value_of k u }) =
    ap (λ i. entries_from (set pile i u) (set tags i k) (suc at) (suc h) n) e
    ∙ entries_pushed pile tags (suc at) h n u k (omega (arith, l)) (omega (arith, p)) (omega (arith, q)) in
    λ j. record { value = value_of (b j) (a j) } ∷ r j

-- the last one not in use any more
pub entries_popped : (pile tags : List ℕ) (at h n : ℕ) → entries_from pile tags at h n ≡ set (entries_from pile tags at (suc h) n) h zero_register
unfolding entries_from
entries_popped pile tags at h zero = refl
entries_popped pile tags at zero (suc n) = ap (λ l. zero_register ∷ l) (same_none pile tags pile tags at (suc at) n)
entries_popped pile tags at (suc h) (suc n) =
    ap (λ l. record { value = value_of (get_or tags at 0) (get_or pile at 0) } ∷ l) (entries_popped pile tags (suc at) h n)

-- one in use
pub entry_at : (pile tags : List ℕ) (at h n i : ℕ) → i < h → i < n
    → get_or (entries_from pile tags at h n) i zero_register ≡ record { value = value_of (get_or tags (at + i) 0) (get_or pile (at + i) 0) }
unfolding entries_from
entry_at pile tags at h zero i l m = absurd (omega (arith, m))
entry_at pile tags at zero (suc n) i l m = absurd (omega (arith, l))
entry_at pile tags at (suc h) (suc n) zero l m =
    let e : at ≡ at + 0 = omega arith in
    λ j. record { value = value_of (get_or tags (e j) 0) (get_or pile (e j) 0) }
entry_at pile tags at (suc h) (suc n) (suc i) l m =
    let e : suc at + i ≡ at + suc i = omega arith in
    entry_at pile tags (suc at) h n i (omega (arith, l)) (omega (arith, m))
    ∙ (λ j. record { value = value_of (get_or tags (e j) 0) (get_or pile (e j) 0) })

-- those that lie below
pub entries_below : (pile tags pile' tags' : List ℕ) (low at h n : ℕ) → SameBelow low pile tags pile' tags' → at + n ≤ low
    → entries_from pile' tags' at h n ≡ entries_from pile tags at h n
unfolding entries_from
entries_below pile tags pile' tags' low at h zero s l = refl
entries_below pile tags pile' tags' low at zero (suc n) s l = same_none pile' tags' pile tags at at (suc n)
entries_below pile tags pile' tags' low at (suc h) (suc n) s l =
    let a = s.same_pile at (omega (arith, l)) in
    let b = s.same_tags at (omega (arith, l)) in
    let r = entries_below pile tags pile' tags' low (suc at) h n s (omega (arith, l)) in
    λ j. record { value = value_of (b j) (a j) } ∷ r j

-- ---- what lies below

pub below-same : {pile tags : List ℕ} {low : ℕ} → Lies pile tags low → SameBelow low pile tags pile tags
below-same l = record { still_lies = l; same_pile = λ i b. refl; same_tags = λ i b. refl }

pub below_set : (pile tags : List ℕ) (low i u k : ℕ) → Lies pile tags low → low ≤ i → SameBelow low pile tags (set pile i u) (set tags i k)
below_set pile tags low i u k l m = record {
  still_lies = record {
    pile_full = length-set pile i u ∙ l.pile_full;
    tags_full = length-set tags i k ∙ l.tags_full;
    low_most = l.low_most;
  };
  same_pile = λ j b. get_or-set_other pile i j u 0 (omega (arith, b, m));
  same_tags = λ j b. get_or-set_other tags i j k 0 (omega (arith, b, m));
}

pub below_on : {low : ℕ} {pile tags pile' tags' pile'' tags'' : List ℕ} → SameBelow low pile tags pile' tags' → SameBelow low pile' tags' pile'' tags''
    → SameBelow low pile tags pile'' tags''
below_on x y = record {
  still_lies = y.still_lies;
  same_pile = λ i b. y.same_pile i b ∙ x.same_pile i b;
  same_tags = λ i b. y.same_tags i b ∙ x.same_tags i b;
}

-- ---- by the arm

module _ {arm r v low height : ℕ} {nums kinds pile tags : List ℕ} where
  pub turned_pop : {nums' kinds' : List ℕ} (h : Option ℕ) → arm ≡ 17 → PoppedTo r low height nums kinds pile tags h nums' kinds'
      → StackTurned arm r v low height nums kinds pile tags h nums' kinds' pile tags
  turned_pop None e x = record { pops = tt; pushes = tt; untouched = let y = x.no_value in (y.1, y.2, refl, refl) }
  turned_pop (Some t) e x = record { pops = λ q. (x, refl, refl); pushes = λ q. absurd (q e); untouched = tt }

  pub turned_push : {u w : ℕ} {pile' tags' : List ℕ} (h : Option ℕ) (k : ℕ) → k ≤ 3 → arm ≡ 16 + 32 * k
      → value_of w u ≡ operand_by k v (registers_of nums kinds) → PushedOn low height u w pile tags h pile' tags'
      → StackTurned arm r v low height nums kinds pile tags h nums kinds pile' tags'
  turned_push None k l e q x = record { pops = tt; pushes = tt; untouched = let y = x.no_place in (refl, refl, y.1, y.2) }
  turned_push {u} {w} (Some t) k l e q x = record {
    pops = λ z. absurd (omega (arith, z, e));
    pushes = λ z. (k, l, e, u, w, q, x, refl, refl);
    untouched = tt;
  }

-- ---- a push or a pop is the step

module _ (cells : List ℕ) (words : List ℤ) (interval places depth pc beat left low height : ℕ) (nums kinds pile tags : List ℕ)
    (place : pc ≡ 4 * (pc / 4)) (counts : left < beat) (sized : Sized nums kinds) (lies : Lies pile tags low) (most : height ≤ 32) where
  abbrev y : Instruction
  y = instruction_of cells (pc / 4)

  abbrev u : Stacked
  u = stack_of pile tags low height

  -- before it
  abbrev f : List Fork → ℕ → Frame
  f forks span = frame_at places depth forks (pc / 4) (beat - (left + 1)) span u (registers_of nums kinds)

  -- and at the next instruction
  abbrev on : List Fork → ℕ → Frame
  on forks span = let g = f forks span in with_task (moved_to (pc / 4 + 1) (beat - left) (counted g.task)) g

  next_place : pc / 4 + 1 ≡ (pc + 4) / 4
  next_place = omega arith

  -- the frame by its parts
  frame_by : (forks : List Fork) (span n m : ℕ) (v w l k : List Register) → n ≡ m → v ≡ w → l ≡ k
      → frame_at places depth forks (pc / 4 + 1) (beat - left) (span + 1) (record { height = n; values = v }) l
      ≡ frame_at places depth forks ((pc + 4) / 4) (beat - left) (span + 1) (record { height = m; values = w }) k
  frame_by forks span n m v w l k a b c = λ j. frame_at places depth forks (next_place j) (beat - left) (span + 1) (record { height = a j; values = b j }) (c j)

  next-inside : {arm r s v : ℕ} (n : ℕ) → Fetched cells pc arm r s v → 16 ≤ n → y.opcode ≡ n → (pc + 4) / 4 < instruction_count cells
  next-inside n d l e =
      let t : leb y.opcode 15 ≡ false = lt-leb y.opcode 15 (omega (arith, l, e)) in
      rw (← next_place) (d.its.next_below (ap (λ b. leb 13 y.opcode && b) t ∙ and-false (leb 13 y.opcode)))
    where
      and-false : (b : Bool) → (b && false) ≡ false
      and-false true = refl
      and-false false = refl

  pub record Stacks (h : ℕ) (nums' kinds' pile' tags' : List ℕ) : Type 0 where
    pub steps : (forks : List Fork) (span : ℕ) → step (program_of cells) words (chosen interval) (f forks span)
        ≡ one (frame_at places depth forks ((pc + 4) / 4) (beat - left) (span + 1) (stack_of pile' tags' low h) (registers_of nums' kinds'))
    pub inside : (pc + 4) / 4 < instruction_count cells
    pub sized_after : Sized nums' kinds'
    pub below_after : SameBelow low pile tags pile' tags'

  pop-stacks : {r s v h : ℕ} {nums' kinds' : List ℕ} → Fetched cells pc 17 r s v → PoppedTo r low height nums kinds pile tags (Some h) nums' kinds'
      → Stacks h nums' kinds' pile tags
  pop-stacks {r} {s} {v} {h} {nums'} {kinds'} d x =
      let z = x.has_value in
      let i = named d 17 0 (omega arith) (omega arith) refl in
      let m : suc (height - 1) ≡ height = omega (arith, z.0) in
      let values = ap (λ i. set (entries_from pile tags low i 32) (height - 1) zero_register) (sym m) ∙ sym (entries_popped pile tags low (height - 1) 32)
      ∙ ap (λ i. entries_from pile tags low i 32) (sym z.1) in
      let at = low + (height - 1) in
      let registers : registers_of nums' kinds' ≡ set (registers_of nums kinds) y.r (get_or u.values (height - 1) zero_register) =
      rw (z.2, z.3) (written nums kinds r (get_or pile at 0) (get_or tags at 0))
      ∙ ap (set (registers_of nums kinds) r) (sym (entry_at pile tags low height 32 (height - 1) (omega (arith, z.0)) (omega (arith, z.0, most))))
      ∙ ap (λ i. set (registers_of nums kinds) i (get_or u.values (height - 1) zero_register)) d.decoded.same_r in
      record {
        steps = λ forks span.
            step-executed (program_of cells) words (chosen interval) (f forks span)
            ∙ ap (made (f forks span) y) (means cells words interval places depth pc beat left (registers_of nums kinds) place counts 17 0 s v i d.decoded.same_s forks span u)
            ∙ ap (λ b. one (cond b (popped y.r (on forks span)) (faulted 43 (with_task (counted (f forks span).task) (f forks span))))) (lt-ltb 0 height z.0)
            ∙ ap one (frame_by forks span _ _ _ _ _ _ (sym z.1) values (sym registers));
        inside = next-inside 17 d (omega arith) i.its_opcode;
        sized_after = still_sized nums kinds r (get_or pile at 0) (get_or tags at 0) sized z.2 z.3;
        below_after = below-same lies;
      }

  push-stacks : {arm r s v h : ℕ} {pile' tags' : List ℕ} (k a b : ℕ) → Fetched cells pc arm r s v → k ≤ 3 → arm ≡ 16 + 32 * k
      → value_of b a ≡ operand_by k v (registers_of nums kinds) → PushedOn low height a b pile tags (Some h) pile' tags' → Stacks h nums kinds pile' tags'
  push-stacks {s = s} {v = v} {h = h} {pile' = pile'} {tags' = tags'} k a b d known arm val x =
      let z = x.its_has_place in
      let i = named d 16 k (omega arith) known arm in
      let m : suc height ≡ h = omega (arith, z.1) in
      let values : set u.values height (record { value = operand_by k v (registers_of nums kinds) }) ≡ entries_from pile' tags' low h 32 =
      ap (λ w. set u.values height (record { value = w })) (sym val)
      ∙ sym (entries_pushed pile tags low height 32 a b z.0 (omega (arith, z.0, lies.low_most, lies.pile_full)) (omega (arith, z.0, lies.low_most, lies.tags_full)))
      ∙ (λ j. entries_from (sym z.2 j) (sym z.3 j) low (m j) 32) in
      record {
        steps = λ forks span.
            step-executed (program_of cells) words (chosen interval) (f forks span)
            ∙ ap (made (f forks span) y) (means cells words interval places depth pc beat left (registers_of nums kinds) place counts 16 k s v i d.decoded.same_s forks span u)
            ∙ ap (λ b. one (cond b (pushed (operand_by k v (registers_of nums kinds)) (on forks span)) (faulted 42 (with_task (counted (f forks span).task) (f forks span)))))
            (lt-ltb height 32 z.0)
            ∙ ap one (frame_by forks span _ _ _ _ _ _ (sym z.1) values refl);
        inside = next-inside 16 d (omega arith) i.its_opcode;
        sized_after = sized;
        below_after = rw (z.2, z.3) (below_set pile tags low (low + height) a b lies (omega arith));
      }

  pub stacks : {arm r s v h : ℕ} {nums' kinds' pile' tags' : List ℕ} → Fetched cells pc arm r s v
      → StackTurned arm r v low height nums kinds pile tags (Some h) nums' kinds' pile' tags' → Stacks h nums' kinds' pile' tags'
  stacks {arm} {r} {s} {v} {h} {nums'} {kinds'} {pile'} {tags'} d t = by-test (eqb arm 17)
      (λ q.
      let e = eqb-true arm 17 q in
      let x = t.pops e in
      rw (x.1, x.2) (pop-stacks (rw e at d) x.0))
      (λ q.
      let x = t.pushes (eqb-false arm 17 q) in
      rw (x.7, x.8) (push-stacks x.0 x.3 x.4 d x.1 x.2 x.5 x.6))

-- what they rest on, at a turn of the loop
pub can_stack : {cells code nums kinds nums' kinds' pile tags : List ℕ} {depth left beat pc low height : ℕ} → program_no cells ≡ 0 → Decodes cells code
    → At cells nums kinds depth left beat pc → Sized nums' kinds' → Lies pile tags low → height ≤ 32 → CanStack code nums' kinds' pile tags low height pc
can_stack {code = code} {pc = pc} accept decodes a sized lies most =
    let d = fetched accept decodes a in
    record {
      sized = sized;
      lies = lies;
      height_most = most;
      stored = omega (arith, decodes.stored, a.on_place, a.inside_program);
      r_small = d.r_small;
      register_operand = λ e. register_operand d (omega (arith, e)) (omega (arith, e));
    }
