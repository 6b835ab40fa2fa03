-- One turn: what is known of the decoded instruction, and an arm held against `step`.
use mathlib.Core.Path.{◌≡◌, refl, ap, ◌∙◌}
use mathlib.Core.Bool.{◌&&◌}
use mathlib.Core.Logic.{◌⊎◌, inl, inr, ⊎_elim}
use mathlib.Core.List.{List, [], ◌∷◌}
use Prim.Native.Nat.{ℕ, zero, suc, ◌+◌, ◌*◌, ◌-◌, ◌/◌, ◌<◌, ◌≤◌}
use native.Mathlib.Omega.{arith}
use lib.Dec.{eqb, leb}
use lib.IntN.{ℤ}
use lib.ListN.{get_or, set}
use Rattle.image.specs.declared.Instruction.{Instruction}
use Rattle.image.specs.Layout.{block_count, instruction_count, instruction_of, program_of}
use Rattle.image.specs.Questions.{program_no}
use Rattle.image.proofs.Accepted.{accepted, InstructionAccepted}
use borrow.Author.Tests.{eqb-true, eqb-false, lt-leb}
use Rattle.facts.proofs.Tests.{by-test, by-below}
use Rattle.agreement.specs.Plain.{one}
use Rattle.task.specs.declared.Value.{Value}
use Rattle.task.specs.declared.Register.{Register}
use Rattle.task.specs.declared.Fork.{Fork}
use Rattle.task.specs.declared.Frame.{Frame}
use Rattle.task.specs.declared.Active.{Active}
use Rattle.task.specs.Choices.{chosen}
use Rattle.task.specs.Effect.{Effect, stores, unknown, opcodes, effect_of}
use Rattle.task.specs.Step.{register, operand, active_of, step}
use Rattle.task.specs.Execute.{handed, answered, executed}
use Rattle.task.proofs.Executing.{step-executed}
use Rattle.arms.specs.declared.Way.{Way}
use Rattle.arms.specs.declared.Way.TheVariants.{On, Off, Fault}
use Rattle.arms.specs.declared.Registers.{Registers}
use Rattle.arms.specs.Registers.{registers_in, in_register, operand_by}
use Rattle.arms.specs.Code.{Plain, Decoded, Decodes}
use Rattle.arms.specs.Arms.{IfOff, active, context_of, Sets, SetsBy, Leads, Unready}
use Rattle.arms.specs.Stacks.{Stacked}
use Rattle.arms.specs.Turns.{frame_at, LeftOpcode, At, Turned}
use Rattle.arms.proofs.SetLaws.{NoneOf}
use Rattle.arms.proofs.CodeLaws.{opcode-known, has-operand}

-- the arms of `turn`, the last first
abbrev pub jumping : List ℕ
jumping = 205 ∷ 202 ∷ 109 ∷ 106 ∷ 77 ∷ 74 ∷ 45 ∷ 42 ∷ []

from_13 : (n : ℕ) → 10 ≤ n → (n ≡ 10 → ⊥) → (n ≡ 11 → ⊥) → (n ≡ 12 → ⊥) → 13 ≤ n
from_13 n l p q r = omega (arith, l, p, q, r)

up_to_15 : (n : ℕ) → n ≤ 17 → (n ≡ 16 → ⊥) → (n ≡ 17 → ⊥) → n ≤ 15
up_to_15 n h p q = omega (arith, h, p, q)

up_to_13 : (n : ℕ) → 13 ≤ n → n ≤ 15 → (n ≡ 14 → ⊥) → (n ≡ 15 → ⊥) → n ≡ 13
up_to_13 n l h p q = omega (arith, l, h, p, q)

-- ---- the decoded instruction at a place

decoded-at : (cells code : List ℕ) (pc : ℕ) → Decodes cells code → pc ≡ 4 * (pc / 4) → pc / 4 < instruction_count cells
    → Decoded cells (instruction_of cells (pc / 4)) (get_or code pc 0) (get_or code (pc + 1) 0) (get_or code (pc + 2) 0) (get_or code (pc + 3) 0)
decoded-at cells code pc d a h =
    rw (ap (λ p. Decoded cells (instruction_of cells (pc / 4)) (get_or code p 0) (get_or code (p + 1) 0) (get_or code (p + 2) 0) (get_or code (p + 3) 0)) a)
    (d.decoded (pc / 4) h)

-- the arm of opcode n and operand kind k
pub record Named (x : Instruction) (n k v : ℕ) : Type 0 where
  pub its_opcode : x.opcode ≡ n
  pub its_kind : x.kind ≡ k
  pub its_operand : v ≡ x.operand
  pub known : k ≤ 3

-- what an arm may rest on
pub record Fetched (cells : List ℕ) (pc arm r s v : ℕ) : Type 0 where
  pub decoded : Decoded cells (instruction_of cells (pc / 4)) arm r s v
  pub r_small : r < 16
  pub s_small : s < 16
  pub its : InstructionAccepted cells (pc / 4)
  pub opcode_most : (instruction_of cells (pc / 4)).opcode ≤ 17
  pub few : instruction_count cells ≤ 1024
  pub few_blocks : block_count cells ≤ 128
  pub block_inside : (b v : ℕ) → b < block_count cells → Plain cells (instruction_of cells (pc / 4)) arm v → b ≡ (instruction_of cells (pc / 4)).operand
      → Unready cells b v

pub fetched : {cells code nums kinds : List ℕ} {depth left beat pc : ℕ} → program_no cells ≡ 0 → Decodes cells code
    → At cells nums kinds depth left beat pc
    → Fetched cells pc (get_or code pc 0) (get_or code (pc + 1) 0) (get_or code (pc + 2) 0) (get_or code (pc + 3) 0)
fetched {cells} {code} {pc} accept decodes h =
    let k = accepted cells accept in
    let d = decoded-at cells code pc decodes h.on_place h.inside_program in
    let i = k.instruction (pc / 4) h.inside_program in
    record {
      decoded = d;
      r_small = omega (arith, d.same_r, i.r_small);
      s_small = omega (arith, d.same_s, i.s_small);
      its = i;
      opcode_most = opcode-known i;
      few = k.few_instructions;
      few_blocks = k.few_blocks;
      block_inside = λ b v l p e. rw e (record { unready = p.unready; its_first = p.its_first; first_inside = (k.block _ (rw e at l)).first_below });
    }

module _ {cells : List ℕ} {pc arm r s v : ℕ} (d : Fetched cells pc arm r s v) where
  abbrev x : Instruction
  x = instruction_of cells (pc / 4)

  -- by the number of the arm
  pub named : (n k : ℕ) → n ≤ 17 → k ≤ 3 → arm ≡ n + 32 * k → Named x n k v
  named n k p q e =
      let c = d.decoded.armed.common (omega (arith, e, p, q)) in
      record {
        its_opcode = omega (arith, c.0, e, p, d.opcode_most);
        its_kind = omega (arith, c.0, e, p, d.opcode_most);
        its_operand = c.1;
        known = q;
      }

  pub register_small : (n : ℕ) → Named x n 1 v → v < 16
  register_small n h = omega (arith, h.its_operand, d.its.register_small h.its_kind)

  pub label_below : (n : ℕ) → Named x n 2 v → v < block_count cells
  label_below n h = omega (arith, h.its_operand, d.its.label_below h.its_kind)

  pub next_below : (n : ℕ) → n < 13 → x.opcode ≡ n → pc / 4 + 1 < instruction_count cells
  next_below n l h = d.its.next_below (ap (λ t. t && leb x.opcode 15) (lt-leb 13 x.opcode (omega (arith, l, h))))

  -- whatever arm it is, but for the plain jumps
  pub named_so : arm < 128 → Named x x.opcode x.kind v
  named_so l = record { its_opcode = refl; its_kind = refl; its_operand = (d.decoded.armed.common l).1; known = d.its.kind_known }

  pub register_operand : 32 ≤ arm → arm < 64 → v < 16
  register_operand l h =
      let c = d.decoded.armed.common (omega (arith, h)) in
      let k : x.kind ≡ 1 = omega (arith, c.0, l, h, d.opcode_most) in
      omega (arith, c.1, d.its.register_small k)

  pub label_operand : 64 ≤ arm → arm < 96 → v < block_count cells
  label_operand l h =
      let c = d.decoded.armed.common (omega (arith, h)) in
      let k : x.kind ≡ 2 = omega (arith, c.0, l, h, d.opcode_most) in
      omega (arith, c.1, d.its.label_below k)

  -- what has an arm neither in `turn` nor in `set_register`: fork, halt, join, push and pop
  pub left_at : program_no cells ≡ 0 → pc / 4 < instruction_count cells
      → ((n k : ℕ) → 1 ≤ n → n ≤ 17 → 1 ≤ k → k ≤ 3 → arm ≡ n + 32 * k → (10 ≤ n) × (n ≡ 11 → ⊥)) → NoneOf arm jumping
      → LeftOpcode x.opcode
  left_at accept inside others rest no-fork no_join no-push no-pop = by-test (eqb x.opcode 14) (eqb-true x.opcode 14) (λ t.
      let n = eqb-false x.opcode 14 t in
      let z = has-operand cells (pc / 4) accept inside n no-pop in
      by-below arm 128
      (λ l.
      let c = (d.decoded.armed.common l).0 in
      let o = others x.opcode x.kind d.its.opcode_least d.opcode_most z d.its.kind_known c in
      let h = up_to_15 x.opcode d.opcode_most no-push no-pop in
      let i : (x.opcode ≡ 10) ⊎ (x.opcode ≡ 13) = by-test (eqb x.opcode 10) (λ e. inl (eqb-true x.opcode 10 e))
      (λ e. inr (up_to_13 x.opcode (from_13 x.opcode o.0 (eqb-false x.opcode 10 e) o.1 no-fork) h n no_join)) in
      absurd (⊎_elim
      (λ e. by_kind 10 x.kind rest.0.0.0.0.0.0.0.1 rest.0.0.0.0.0.1 rest.0.0.0.1 (omega (arith, c, e)) z d.its.kind_known)
      (λ e. by_kind 13 x.kind rest.0.0.0.0.0.0.1 rest.0.0.0.0.1 rest.0.0.1 (omega (arith, c, e)) z d.its.kind_known) i))
      (λ l.
      let j = d.decoded.armed.plain l in
      absurd (by-test (eqb x.opcode 10)
      (λ e. rest.0.1 (omega (arith, j.plain_arm, j.to_label, eqb-true x.opcode 10 e)))
      (λ e. rest.1 (omega (arith, j.plain_arm, j.to_label, j.is_jump (eqb-false x.opcode 10 e)))))))
    where
      by_kind : (m k : ℕ) → (arm ≡ m + 32 → ⊥) → (arm ≡ m + 64 → ⊥) → (arm ≡ m + 96 → ⊥) → arm ≡ m + 32 * k → 1 ≤ k → k ≤ 3 → ⊥
      by_kind m k u v w e l h = omega (arith, u, v, w, e, l, h)

  -- a plain jump: the label b that stands in the instruction
  pub record Jumps (n : ℕ) : Type 0 where
    pub label : ℕ
    pub jump_named : Named x n 2 label
    pub unready_there : Unready cells label v

  pub plain-jump : (n : ℕ) → n ≤ 17 → arm ≡ 128 + (n + 64) → Jumps n
  plain-jump n l e =
      let p = d.decoded.armed.plain (omega (arith, e)) in
      let below = d.its.label_below p.to_label in
      let u = d.block_inside x.operand v below p refl in
      record {
        label = x.operand;
        jump_named = record { its_opcode = omega (arith, p.plain_arm, p.to_label, e); its_kind = p.to_label; its_operand = refl; known = omega arith };
        unready_there = u;
      }

-- ---- arms

module _ (cells : List ℕ) (words : List ℤ) (interval places depth pc beat left : ℕ) (before : List Register) (aligned : pc ≡ 4 * (pc / 4))
    (counts : left < beat) where
  abbrev y : Instruction
  y = instruction_of cells (pc / 4)

  abbrev f : List Fork → ℕ → Stacked → Frame
  f forks span u = frame_at places depth forks (pc / 4) (beat - (left + 1)) span u before

  -- what the instruction looks at, once counted
  abbrev a : Active
  a = active places (pc / 4) (beat - left) depth

  counter_is : beat - (left + 1) + 1 ≡ beat - left
  counter_is = omega (arith, counts)

  -- the operand by its kind
  operand_is : (g : Frame) (i : Instruction) (k : ℕ) → k ≤ 3 → i.kind ≡ k → operand g i ≡ operand_by k i.operand g.registers
  unfolding operand
  operand_is g i zero l e = rw e
  operand_is g i (suc zero) l e = rw e
  operand_is g i (suc (suc zero)) l e = rw e
  operand_is g i (suc (suc (suc zero))) l e = rw e
  operand_is g i (suc (suc (suc (suc k)))) l e = absurd (omega (arith, l))

  module _ (n k s v : ℕ) (h : Named y n k v) (same_s : s ≡ y.s) where
    pub means : (forks : List Fork) (span : ℕ) (u : Stacked)
        → executed (program_of cells) words (chosen interval) y (register (f forks span u) y.s) (operand (f forks span u) y) (active_of (f forks span u).task) forks
        ≡ answered (program_of cells) words (chosen interval) (in_register s before) (operand_by k v before) a forks (get_or opcodes n unknown)
    unfolding executed
    means forks span u = rw (operand_is (f forks span u) y k h.known h.its_kind, h.its_opcode, h.its_operand, same_s, counter_is)

    next-placed : (pc + 4) / 4 ≡ pc / 4 + 1
    next-placed = omega (arith, aligned)

    abbrev effect : Active → List Fork → Effect
    effect t o = effect_of (program_of cells) words (chosen interval) (in_register s before) (operand_by k v before) t o (get_or opcodes n unknown)

    set-step : (after : List Register) (r : ℕ) → r ≡ y.r → (forks : List Fork) (span : ℕ) (u : Stacked)
        → (w : Value) × (effect a forks ≡ stores w) × (after ≡ set before r (record { value = w }))
        → step (program_of cells) words (chosen interval) (f forks span u) ≡ one (frame_at places depth forks ((pc + 4) / 4) (beat - left) (span + 1) u after)
    set-step after r same forks span u (w, is, now) =
        step-executed (program_of cells) words (chosen interval) (f forks span u) ∙ rw (means forks span u, is, next-placed, now, same)

    -- it sets a register
    pub turned_sets : (way : Way) (after : List Register) (r : ℕ) → r ≡ y.r → pc / 4 + 1 < instruction_count cells
        → ((t : Active) (o : List Fork) → t.depth ≡ depth → Sets way r before after (effect t o))
        → Turned cells words interval places depth pc beat left before (record { way = way; pc = pc + 4; beat = beat }) after
    turned_sets On after r same inside e = record {
      steps = λ forks span u. set-step after r same forks span u (e a forks refl).did;
      stays = tt;
      faults = tt;
      aligned = omega (arith, aligned);
      inside = rw next-placed inside;
      counted = omega (arith, counts);
      beat_most = omega arith;
    }
    turned_sets Off after r same inside e = absurd (e a [] refl).not_off
    turned_sets (Fault n) after r same inside e =
        let here = (e a [] refl).failed in
        record {
          steps = tt;
          stays = tt;
          faults = (
            here.0,
            here.2,
            record {
              faults_there = λ forks span u. means forks span u ∙ ap (handed (program_of cells) (chosen interval) a) (e a forks refl).failed.1;
              left_there = tt;
            },
          );
          aligned = omega (arith, aligned);
          inside = tt;
          counted = omega (arith, counts);
          beat_most = omega arith;
        }

    -- it goes elsewhere
    pub turned_leads : (way : Way) (pc' beat' : ℕ)
        → ((o : List Fork) → Leads cells beat left (record { way = way; pc = pc'; beat = beat' })
        (answered (program_of cells) words (chosen interval) (in_register s before) (operand_by k v before) a o (get_or opcodes n unknown)))
        → Turned cells words interval places depth pc beat left before (record { way = way; pc = pc'; beat = beat' }) before
    turned_leads On pc' beat' e = record {
      steps = λ forks span u. step-executed (program_of cells) words (chosen interval) (f forks span u) ∙ rw (means forks span u, (e forks).leads);
      stays = tt;
      faults = tt;
      aligned = (e []).aligned;
      inside = (e []).inside;
      counted = (e []).counted;
      beat_most = (e []).beat_most;
    }
    turned_leads Off pc' beat' e = absurd (e []).not_off
    turned_leads (Fault n) pc' beat' e = record {
      steps = tt;
      stays = tt;
      faults = (
        (e []).failed.0,
        refl,
        record {
          faults_there = λ forks span u. means forks span u ∙ (e forks).failed.1;
          left_there = tt;
        },
      );
      aligned = (e []).aligned;
      inside = tt;
      counted = (e []).counted;
      beat_most = (e []).beat_most;
    }

  -- it is left to others
  turned_off : (after : List Register) → after ≡ before → LeftOpcode y.opcode
      → Turned cells words interval places depth pc beat left before (record { way = Off; pc = pc + 4; beat = beat }) after
  turned_off after e l = record {
    steps = tt;
    stays = (e, record { faults_there = tt; left_there = l });
    faults = tt;
    aligned = omega (arith, aligned);
    inside = tt;
    counted = omega (arith, counts);
    beat_most = omega arith;
  }

-- all the arms that set a register, and what has no arm
module _ (cells : List ℕ) (words : List ℤ) (interval places depth : ℕ) {pc : ℕ} (beat left : ℕ) (before after : Registers) {arm r s v : ℕ} (accept : program_no cells ≡ 0) (place : pc ≡ 4 * (pc / 4)) (inside : pc / 4 < instruction_count cells) (counts : left < beat)
    (d : Fetched cells pc arm r s v) (rest : NoneOf arm jumping) where
  abbrev TurnedBy : Way → Type 0
  TurnedBy way =
      Turned cells words interval places depth pc beat left (registers_in before) (record { way = way; pc = pc + 4; beat = beat }) (registers_in after)

  turned-carried : (way : Way) → IfOff way ⊥ → SetsBy (context_of cells words interval depth) 1 arm way r s v before after → TurnedBy way
  turned-carried way q h =
      let low = h.carried q in
      let c = (d.decoded.armed.common low.0).0 in
      let i : Instruction = instruction_of cells (pc / 4) in
      turned_sets cells words interval places depth pc beat left (registers_in before) place counts i.opcode i.kind s v (named_so d low.0)
      d.decoded.same_s way (registers_in after) _ d.decoded.same_r
      (next_below d i.opcode (omega (arith, low.1, c, d.opcode_most)) refl)
      (h.as_table q i.opcode i.kind d.opcode_most c).1

  pub turned_set : (way : Way) → SetsBy (context_of cells words interval depth) 1 arm way r s v before after → TurnedBy way
  turned_set On h = turned-carried On tt h
  turned_set Off h =
      turned_off cells words interval places depth pc beat left (registers_in before) place counts (registers_in after) h.untouched
      (left_at d accept inside h.others rest)
  turned_set (Fault n) h = turned-carried (Fault n) tt h
