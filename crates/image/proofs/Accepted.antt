-- What a program that passes questions 3, 4 and 6 to 9 is like, at each block and at each instruction.
use mathlib.Core.Path.{◌≡◌, refl}
use mathlib.Core.Bool.{Bool, true, false, cond, ◌&&◌, ◌||◌}
use mathlib.Core.List.{List}
use Prim.Native.Nat.{ℕ, ◌+◌, ◌-◌, ◌^◌, ◌<◌, ◌≤◌}
use native.Mathlib.Omega.{arith}
use native.Mathlib.Nat.{one-le-pow}
use lib.ListN.{length}
use lib.Dec.{eqb, ltb, leb}
use borrow.Author.Tests.{eqb-true, ltb-true, leb-true, eq-eqb}
use Rattle.facts.proofs.Tests.{clash, both_true}
use Rattle.image.specs.declared.Block.{Block}
use Rattle.image.specs.Layout.{most_pairs, block_cell, instruction_cell, version_of, block_count, instruction_count, block_of, instruction_of, program_of}
use Rattle.image.specs.Questions.{first_no, in_order, rising, unjoined, joined, annotated, block_no, last_opcode, ends_block}
use Rattle.image.specs.Questions.{has_r, has_s, has_v, has, register, operand_fits, laid_out, starts_at, last_in_block, same, instruction_no, records_no, program_no}
use Rattle.image.proofs.Asked.{ask_yes, or_else_both, first-no_all}
use Rattle.image.proofs.Counts.{versioned, counted, program-parts}
use Rattle.image.proofs.Pairs.{rising-fits}

pub record BlockAccepted (cells : List ℕ) (b : ℕ) : Type 0 where
  pub is_stored : block_cell b + 6 ≤ length cells
  pub first_below : (block_of cells b).first < instruction_count cells
  pub annotation_known : (block_of cells b).annotation ≤ 2
  pub label_below : (block_of cells b).label < block_count cells
  pub policy_known : (block_of cells b).policy ≤ 1
  pub pairs_few : (block_of cells b).pairs ≤ most_pairs (version_of cells)
  pub packed_fits : (block_of cells b).packed < 256 ^ most_pairs (version_of cells)

pub record InstructionAccepted (cells : List ℕ) (i : ℕ) : Type 0 where
  pub is_stored : instruction_cell i + 5 ≤ length cells
  pub opcode_least : 1 ≤ (instruction_of cells i).opcode
  pub opcode_most : (instruction_of cells i).opcode ≤ last_opcode (version_of cells)
  pub r_small : (instruction_of cells i).r ≤ 15
  pub s_small : (instruction_of cells i).s ≤ 15
  pub register_small : (instruction_of cells i).kind ≡ 1 → (instruction_of cells i).operand ≤ 15
  pub label_below : (instruction_of cells i).kind ≡ 2 → (instruction_of cells i).operand < block_count cells
  pub kind_known : (instruction_of cells i).kind ≤ 3
  -- question 9: only opcodes 13 to 15 are last
  pub next_below : ends_block (instruction_of cells i).opcode ≡ false → i + 1 < instruction_count cells

pub record Accepted (cells : List ℕ) : Type 0 where
  pub version_least : 1 ≤ version_of cells
  pub version_most : version_of cells ≤ 2
  pub some_block : 1 ≤ block_count cells
  pub few_blocks : block_count cells ≤ 128
  pub some_instruction : 1 ≤ instruction_count cells
  pub few_instructions : instruction_count cells ≤ 1024
  pub at_start : (block_of cells 0).first ≡ 0
  pub block : (b : ℕ) → b < block_count cells → BlockAccepted cells b
  pub instruction : (i : ℕ) → i < instruction_count cells → InstructionAccepted cells i

-- ---- blocks

record Annotated (version blocks : ℕ) (k : Block) : Type 0 where
  known : k.annotation ≤ 2
  below : k.label < blocks
  policy : k.policy ≤ 1
  few : k.pairs ≤ most_pairs version
  packed : k.packed < 256 ^ most_pairs version

record Unjoined (k : Block) : Type 0 where
  no_policy : k.policy ≡ 0
  no_pairs : k.pairs ≡ 0
  nothing_packed : k.packed ≡ 0

unjoined_is : (k : Block) → unjoined k ≡ true → Unjoined k
unfolding unjoined
unjoined_is k h =
    let p = both_true (eqb k.policy 0) (eqb k.pairs 0 && eqb k.packed 0) h in
    let q = both_true (eqb k.pairs 0) (eqb k.packed 0) p.1 in
    record {
      no_policy = eqb-true k.policy 0 p.0;
      no_pairs = eqb-true k.pairs 0 q.0;
      nothing_packed = eqb-true k.packed 0 q.1;
    }

annotated_is : (version blocks : ℕ) (k : Block) → 1 ≤ blocks → annotated version blocks k ≡ true → Annotated version blocks k
unfolding annotated joined
annotated_is version blocks k some h = bare (eqb k.annotation 0) refl
  where
    plain : k.annotation ≤ 2 → k.label < blocks → Unjoined k → Annotated version blocks k
    plain a l u = record {
      known = a;
      below = l;
      policy = omega (arith, u.no_policy);
      few = omega (arith, u.no_pairs);
      packed = rw u.nothing_packed (one-le-pow (most_pairs version) 256 (omega arith));
    }

    ready : (t : Bool) → eqb k.annotation 1 ≡ t → k.label < blocks → cond (eqb k.annotation 1) (unjoined k) (eqb k.annotation 2 && joined version k) ≡ true
        → Annotated version blocks k
    ready true t l h = plain (omega (arith, eqb-true k.annotation 1 t)) l (unjoined_is k (rw t at h))
    ready false t l h =
        let p = both_true (eqb k.annotation 2) (joined version k) (rw t at h) in
        let q = both_true (leb k.policy 1) (leb k.pairs (most_pairs version) && rising k.pairs k.packed) p.1 in
        let r = both_true (leb k.pairs (most_pairs version)) (rising k.pairs k.packed) q.1 in
        let n : k.pairs ≤ most_pairs version = leb-true k.pairs (most_pairs version) r.0 in
        record {
          known = omega (arith, eqb-true k.annotation 2 p.0);
          below = l;
          policy = leb-true k.policy 1 q.0;
          few = n;
          packed = rising-fits (most_pairs version) k.pairs k.packed n r.1;
        }

    bare : (t : Bool) → eqb k.annotation 0 ≡ t → Annotated version blocks k
    bare true t =
        let p = both_true (eqb k.label 0) (unjoined k) (rw t at h) in
        plain (omega (arith, eqb-true k.annotation 0 t)) (omega (arith, eqb-true k.label 0 p.0)) (unjoined_is k p.1)
    bare false t =
        let p = both_true (ltb k.label blocks) _ (rw t at h) in
        ready (eqb k.annotation 1) refl (ltb-true k.label blocks p.0) p.1

pub block_is : (cells : List ℕ) (b : ℕ) → 1 ≤ block_count cells → block_no cells b ≡ 0 → BlockAccepted cells b
unfolding block_no
block_is cells b some e =
    let p = ask_yes (leb (block_cell b + 6) (length cells)) 6 _ tt e in
    let q = ask_yes (in_order (instruction_count cells) b (block_of cells (b - 1)).first (block_of cells b).first) 6 _ tt p.1 in
    let r = ask_yes (annotated (version_of cells) (block_count cells) (block_of cells b)) 7 _ tt q.1 in
    let s = both_true (ltb (block_of cells b).first (instruction_count cells)) _ q.0 in
    let a = annotated_is (version_of cells) (block_count cells) (block_of cells b) some r.0 in
    record {
      is_stored = leb-true (block_cell b + 6) (length cells) p.0;
      first_below = ltb-true (block_of cells b).first (instruction_count cells) s.0;
      annotation_known = a.known;
      label_below = a.below;
      policy_known = a.policy;
      pairs_few = a.few;
      packed_fits = a.packed;
    }

first_is : (cells : List ℕ) → block_no cells 0 ≡ 0 → (block_of cells 0).first ≡ 0
unfolding block_no
first_is cells e =
    let p = ask_yes (leb (block_cell 0 + 6) (length cells)) 6 _ tt e in
    let q = ask_yes (in_order (instruction_count cells) 0 (block_of cells 0).first (block_of cells 0).first) 6 _ tt p.1 in
    let s = both_true (ltb (block_of cells 0).first (instruction_count cells)) (eqb (block_of cells 0).first 0) q.0 in
    eqb-true (block_of cells 0).first 0 s.1

-- ---- instructions

register_is : (has x : ℕ) → register has x ≡ true → x ≤ 15
unfolding register
register_is has x h = go (eqb has 0) refl
  where
    go : (t : Bool) → eqb has 0 ≡ t → x ≤ 15
    go true t = omega (arith, eqb-true x 0 (rw t at h))
    go false t = leb-true x 15 (rw t at h)

module _ (blocks has kind operand : ℕ) (h : operand_fits blocks has kind operand ≡ true) where
  operand-register : kind ≡ 1 → operand ≤ 15
  unfolding operand_fits
  operand-register k = go (eqb has 0) refl
    where
      go : (t : Bool) → eqb has 0 ≡ t → operand ≤ 15
      go true t =
          let p = both_true (eqb kind 0) (eqb operand 0) (rw t at h) in
          omega (arith, eqb-true operand 0 p.1)
      go false t = leb-true operand 15 (rw (t, k) at h)

  operand-label : kind ≡ 2 → operand < blocks
  unfolding operand_fits
  operand-label k = go (eqb has 0) refl
    where
      go : (t : Bool) → eqb has 0 ≡ t → operand < blocks
      go true t =
          let p = both_true (eqb kind 0) (eqb operand 0) (rw t at h) in
          absurd (omega (arith, eqb-true kind 0 p.0))
      go false t = ltb-true operand blocks (rw (t, k) at h)

  operand-kind : kind ≤ 3
  unfolding operand_fits
  operand-kind = go (eqb has 0) refl
    where
      two? : (t : Bool) → eqb kind 2 ≡ t → cond (eqb kind 2) (ltb operand blocks) (eqb kind 3) ≡ true → kind ≤ 3
      two? true t h = omega (arith, eqb-true kind 2 t)
      two? false t h = omega (arith, eqb-true kind 3 (rw t at h))

      one? : (t : Bool) → eqb kind 1 ≡ t → cond (eqb kind 1) (leb operand 15) (cond (eqb kind 2) (ltb operand blocks) (eqb kind 3)) ≡ true → kind ≤ 3
      one? true t h = omega (arith, eqb-true kind 1 t)
      one? false t h = two? (eqb kind 2) refl (rw t at h)

      go : (t : Bool) → eqb has 0 ≡ t → kind ≤ 3
      go true t = omega (arith, eqb-true kind 0 (both_true (eqb kind 0) (eqb operand 0) (rw t at h)).0)
      go false t = one? (eqb kind 1) refl (rw t at h)

either_false : (a b : Bool) → same false (a || b) ≡ true → a ≡ false
either_false true b h = clash h refl
either_false false b h = refl

-- question 9 of an instruction that is not 13, 14 or 15: it isn't the program's last
next_is : (cells : List ℕ) (i : ℕ) → i < instruction_count cells → same (ends_block (instruction_of cells i).opcode) (last_in_block (program_of cells) i) ≡ true
    → ends_block (instruction_of cells i).opcode ≡ false → i + 1 < instruction_count cells
unfolding last_in_block
next_is cells i below h t =
    let p : eqb (i + 1) (instruction_count cells) ≡ false =
    either_false (eqb (i + 1) (instruction_count cells)) (starts_at (program_of cells) (block_count cells) (i + 1)) (rw t at h) in
    let q : i + 1 ≡ instruction_count cells → ⊥ = λ z. clash (eq-eqb (i + 1) (instruction_count cells) z) p in
    omega arith

instruction_is : (cells : List ℕ) (i : ℕ) → i < instruction_count cells → instruction_no cells i ≡ 0 → InstructionAccepted cells i
unfolding instruction_no laid_out
instruction_is cells i below e =
    let x = instruction_of cells i in
    let p = ask_yes (leb (instruction_cell i + 5) (length cells)) 8 _ tt e in
    let q = ask_yes (laid_out (last_opcode (version_of cells)) (block_count cells) x) 8 _ tt p.1 in
    let r = ask_yes (same (ends_block x.opcode) (last_in_block (program_of cells) i)) 9 0 tt q.1 in
    let a = both_true (leb 1 x.opcode) _ q.0 in
    let b = both_true (leb x.opcode (last_opcode (version_of cells))) _ a.1 in
    let c = both_true (register (has x.opcode has_r) x.r) _ b.1 in
    let d = both_true (register (has x.opcode has_s) x.s) (operand_fits (block_count cells) (has x.opcode has_v) x.kind x.operand) c.1 in
    record {
      is_stored = leb-true (instruction_cell i + 5) (length cells) p.0;
      opcode_least = leb-true 1 x.opcode a.0;
      opcode_most = leb-true x.opcode (last_opcode (version_of cells)) b.0;
      r_small = register_is (has x.opcode has_r) x.r c.0;
      s_small = register_is (has x.opcode has_s) x.s d.0;
      register_small = operand-register (block_count cells) (has x.opcode has_v) x.kind x.operand d.1;
      label_below = operand-label (block_count cells) (has x.opcode has_v) x.kind x.operand d.1;
      kind_known = operand-kind (block_count cells) (has x.opcode has_v) x.kind x.operand d.1;
      next_below = next_is cells i below r.0;
    }

-- ---- a program

pub accepted : (cells : List ℕ) → program_no cells ≡ 0 → Accepted cells
unfolding records_no
accepted cells e =
    let B = block_count cells in
    let I = instruction_count cells in
    let p = program-parts cells e in
    let q = or_else_both (first_no (block_no cells) B 0) (first_no (instruction_no cells) I 0) p.2 in
    let v = versioned (version_of cells) p.0 in
    let c = counted B I p.1 in
    record {
      version_least = v.version_least;
      version_most = v.version_most;
      some_block = c.some_block;
      few_blocks = c.blocks_fit;
      some_instruction = c.some_instruction;
      few_instructions = c.instructions_fit;
      at_start = first_is cells (first-no_all (block_no cells) B 0 q.0 0 (omega arith) (omega arith));
      block = λ b h. block_is cells b c.some_block (first-no_all (block_no cells) B 0 q.0 b (omega arith) (omega arith));
      instruction = λ i h. instruction_is cells i h (first-no_all (instruction_no cells) I 0 q.1 i (omega arith) (omega arith));
    }

-- what the fields of an accepted program's records are read by
pub block_stored : (cells : List ℕ) (b : ℕ) → program_no cells ≡ 0 → b < block_count cells → block_cell b + 6 ≤ length cells
block_stored cells b e h = ((accepted cells e).block b h).is_stored

pub instruction_stored : (cells : List ℕ) (i : ℕ) → program_no cells ≡ 0 → i < instruction_count cells → instruction_cell i + 5 ≤ length cells
instruction_stored cells i e h = ((accepted cells e).instruction i h).is_stored
