-- Each way through an arm that goes elsewhere.
use mathlib.Core.Path.{◌≡◌, refl, ap, ◌∙◌}
use mathlib.Core.Bool.{true, false}
use mathlib.Core.List.{List}
use Prim.Native.Nat.{ℕ, zero, suc, ◌+◌, ◌*◌, ◌-◌, ◌/◌, ◌<◌, ◌≤◌}
use native.Mathlib.Omega.{arith}
use lib.IntN.{ℤ}
use lib.ListN.{get_or}
use borrow.Author.Tests.{ltb-true, ne_eqb}
use Rattle.image.specs.Layout.{block_count, instruction_count, block_of, program_of}
use Rattle.image.specs.Questions.{program_no}
use Rattle.image.proofs.Accepted.{accepted}
use Rattle.task.specs.declared.Value.{Value}
use Rattle.task.specs.declared.Fork.{Fork}
use Rattle.task.specs.declared.Kind.TheVariants.{Faults}
use Rattle.task.specs.declared.Active.{Active}
use Rattle.task.specs.declared.Executed.{Executed}
use Rattle.task.specs.Choices.{chosen}
use Rattle.task.specs.Effect.{if_jump, jump}
use Rattle.task.specs.Formed.{value_fits}
use Rattle.task.specs.Step.{promotes}
use Rattle.task.specs.Execute.{going, ending, entering, handed, answered}
use Rattle.arms.specs.declared.Way.TheVariants.{On, Fault}
use Rattle.arms.specs.Registers.{value_of, registers_of, Sized, in_register}
use Rattle.arms.specs.Arms.{active, Leads, Unready}
use Rattle.arms.proofs.RegisterLaws.{value-at, integer-at}
use Rattle.arms.proofs.ValueLaws.{zero_bits, other_bits}
use Rattle.arms.proofs.SetLaws.{no-integer}

-- the place of an instruction in the decoded code
placed : (first : ℕ) → 4 * first / 4 ≡ first
placed first = omega arith

-- to an instruction
pub leads_to : (cells : List ℕ) (most first beat left pc : ℕ) {e : Executed} → pc ≡ 4 * first → first < instruction_count cells → left ≤ beat → beat ≤ most
    → e ≡ going first (beat - left) → Leads cells most left (record { way = On; pc = pc; beat = beat }) e
leads_to cells most first beat left pc p h l b q = rw p (record {
  leads = q ∙ rw (placed first);
  failed = tt;
  not_off = tt;
  aligned = rw (placed first);
  inside = rw (placed first) h;
  counted = l;
  beat_most = b;
})

-- it leaves all as it was
pub stays : (cells : List ℕ) (n pc beat left : ℕ) {e : Executed} → 2 ≤ n → e ≡ ending Faults n → pc ≡ 4 * (pc / 4) → left ≤ beat
    → Leads cells beat left (record { way = Fault n; pc = pc; beat = beat }) e
stays cells n pc beat left q e p l = record {
  leads = tt;
  failed = (q, e);
  not_off = tt;
  aligned = p;
  inside = tt;
  counted = l;
  beat_most = omega arith;
}

-- ---- into a block

module _ (cells : List ℕ) (accept : program_no cells ≡ 0) (interval b places left beat first i depth : ℕ) (below : b < block_count cells) (l : left ≤ beat) where
  abbrev t : Active
  t = active places i (beat - left) depth

  pub enters_handler : promotes (program_of cells) (chosen interval) b (beat - left) places ≡ true → first ≡ (block_of cells (block_of cells b).label).first
      → Leads cells beat left (record { way = On; pc = 4 * first; beat = left }) (entering (program_of cells) (chosen interval) b t)
  enters_handler p f =
      let k = accepted cells accept in
      let z : left - left ≡ 0 = omega arith in
      leads_to cells beat first left left (4 * first) refl (rw f (k.block (block_of cells b).label (k.block b below).label_below).first_below)
      (omega arith) l (rw (p, f, z))

  pub enters_block : promotes (program_of cells) (chosen interval) b (beat - left) places ≡ false → first ≡ (block_of cells b).first
      → Leads cells beat left (record { way = On; pc = 4 * first; beat = beat }) (entering (program_of cells) (chosen interval) b t)
  enters_block p f =
      let k = accepted cells accept in
      leads_to cells beat first beat left (4 * first) refl (rw f (k.block b below).first_below) l (omega arith) (rw (p, f))

-- a block that is not promotion-ready
pub enters_plain : (cells : List ℕ) (interval b places left beat v i depth : ℕ) → Unready cells b v → left ≤ beat
    → Leads cells beat left (record { way = On; pc = v; beat = beat }) (entering (program_of cells) (chosen interval) b (active places i (beat - left) depth))
unfolding promotes
enters_plain cells interval b places left beat v i depth u l =
    leads_to cells beat (block_of cells b).first beat left v u.its_first u.first_inside l (omega arith) (rw (ne_eqb _ _ u.unready))

-- ---- if-jump

module _ (nums kinds : List ℕ) (s : ℕ) (sized : Sized nums kinds) (small : s < 16) (cells : List ℕ) (words : List ℤ) (interval : ℕ) (v : Value) (t : Active)
    (opened : List Fork) where
  abbrev x : Executed
  x = answered (program_of cells) words (chosen interval) (in_register s (registers_of nums kinds)) v t opened if_jump

  pub branch_other : (get_or kinds s 0 ≡ 0 → ⊥) → x ≡ ending Faults 31
  branch_other n =
      ap (λ w. answered (program_of cells) words (chosen interval) w v t opened if_jump) (value-at nums kinds s sized small)
      ∙ ap (handed (program_of cells) (chosen interval) t) (no-integer (get_or kinds s 0) (get_or nums s 0) n _)

  pub branch_taken : get_or kinds s 0 ≡ 0 → get_or nums s 0 ≡ 0 → x ≡ answered (program_of cells) words (chosen interval) v v t opened jump
  branch_taken int z = rw (integer-at nums kinds s sized small int, zero_bits (get_or nums s 0) z)

  pub falls_through : get_or kinds s 0 ≡ 0 → (get_or nums s 0 ≡ 0 → ⊥) → x ≡ going (t.pc + 1) t.counter
  falls_through int z = rw (integer-at nums kinds s sized small int, other_bits (get_or nums s 0) z)

-- to the next instruction
pub leads_on : (cells : List ℕ) (pc beat left : ℕ) {e : Executed} → pc ≡ 4 * (pc / 4) → pc / 4 + 1 < instruction_count cells → left ≤ beat
    → e ≡ going (pc / 4 + 1) (beat - left) → Leads cells beat left (record { way = On; pc = pc + 4; beat = beat }) e
leads_on cells pc beat left a h l e = leads_to cells beat (pc / 4 + 1) beat left (pc + 4) (omega (arith, a)) h l (omega arith) e

-- ---- jump to a value of this kind with these bits

module _ (cells : List ℕ) (words : List ℤ) (interval : ℕ) (s : Value) (t : Active) (opened : List Fork) where
  pub jump_label : (k u : ℕ) → k ≡ 1
      → answered (program_of cells) words (chosen interval) s (value_of k u) t opened jump ≡ entering (program_of cells) (chosen interval) u t
  jump_label k u e = rw e

  pub jump-other : (k u : ℕ) → (k ≡ 1 → ⊥) → answered (program_of cells) words (chosen interval) s (value_of k u) t opened jump ≡ ending Faults 34
  jump-other zero u n = refl
  jump-other (suc zero) u n = absurd (n refl)
  jump-other (suc (suc k)) u n = refl

pub label_inside : (cells : List ℕ) (k u : ℕ) → k ≡ 1 → value_fits (program_of cells) (value_of k u) ≡ true → u < block_count cells
label_inside cells k u e h = ltb-true u (block_count cells) (rw e at h)
