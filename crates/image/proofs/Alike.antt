-- Two buffers with the same version, counts and records get the same answers.
use mathlib.Core.Path.{◌≡◌, refl, sym, ap, ap₂, ◌∙◌}
use mathlib.Core.Bool.{Bool, true, cond, ◌&&◌, ◌||◌}
use mathlib.Core.List.{List}
use Prim.Native.Nat.{ℕ, zero, suc, ◌+◌, ◌-◌, ◌<◌, ◌≤◌}
use native.Mathlib.Omega.{arith}
use lib.ListN.{length}
use lib.Dec.{eqb, ltb, leb}
use borrow.Author.Tests.{le-leb}
use Rattle.image.specs.declared.Block.{Block}
use Rattle.image.specs.declared.Instruction.{Instruction}
use Rattle.image.specs.Layout.{program_cells, block_cell, instruction_cell, version_of, block_count, instruction_count, block_of, instruction_of, program_of}
use Rattle.image.specs.Questions.{first_no, in_order, annotated, block_no, last_opcode, ends_block, laid_out, same, starts_at, last_in_block, instruction_no, records_no}
use Rattle.image.proofs.Asked.{ask_yes, or_else_both, or_else_yes, first-no_all, first-no-none}

pub record Alike (p q : List ℕ) : Type 0 where
  pub version : version_of p ≡ version_of q
  pub blocks : block_count p ≡ block_count q
  pub instructions : instruction_count p ≡ instruction_count q
  pub block : (b : ℕ) → b < block_count p → block_of p b ≡ block_of q b
  pub instruction : (i : ℕ) → i < instruction_count p → instruction_of p i ≡ instruction_of q i

pub alike_sym : {p q : List ℕ} → Alike p q → Alike q p
alike_sym a = record {
  version = sym a.version;
  blocks = sym a.blocks;
  instructions = sym a.instructions;
  block = λ b h. sym (a.block b (omega (arith, a.blocks)));
  instruction = λ i h. sym (a.instruction i (omega (arith, a.instructions)));
}

module _ (p q : List ℕ) (alike : Alike p q) where
  first-same : (b : ℕ) → b < block_count p → (block_of p b).first ≡ (block_of q b).first
  first-same b h = ap (λ (k : Block). k.first) (alike.block b h)

  abbrev ordered : List ℕ → ℕ → Bool
  ordered cells b = in_order (instruction_count cells) b (block_of cells (b - 1)).first (block_of cells b).first

  starts-same : (b : ℕ) → b < block_count p → ordered p b ≡ ordered q b
  starts-same b h =
      ap₂ ◌&&◌ (ap₂ ltb (first-same b h) alike.instructions)
      (ap₂ (cond (eqb b 0)) (ap (λ (n : ℕ). eqb n 0) (first-same b h)) (ap₂ ltb (first-same (b - 1) (omega arith)) (first-same b h)))

  starts-at-same : (n i : ℕ) → n ≤ block_count p → starts_at (program_of p) n i ≡ starts_at (program_of q) n i
  unfolding starts_at
  starts-at-same zero i h = refl
  starts-at-same (suc n) i h = ap₂ ◌||◌ (ap (λ (m : ℕ). eqb m i) (first-same n (omega arith))) (starts-at-same n i (omega arith))

  last-same : (i : ℕ) → last_in_block (program_of p) i ≡ last_in_block (program_of q) i
  unfolding last_in_block
  last-same i =
      ap₂ ◌||◌ (ap (eqb (i + 1)) alike.instructions)
      (starts-at-same (block_count p) (i + 1) (omega arith) ∙ ap (λ (n : ℕ). starts_at (program_of q) n (i + 1)) alike.blocks)

  module _ (whole : length q ≡ program_cells) where
    block_yes : (b : ℕ) → b < block_count p → block_count p ≤ 128 → block_no p b ≡ 0 → block_no q b ≡ 0
    unfolding block_no
    block_yes b h few e =
        let u = ask_yes (leb (block_cell b + 6) (length p)) 6 _ tt e in
        let v = ask_yes (ordered p b) 6 _ tt u.1 in
        let w = ask_yes (annotated (version_of p) (block_count p) (block_of p b)) 7 0 tt v.1 in
        let s : ordered q b ≡ true = sym (starts-same b h) ∙ v.0 in
        let a : annotated (version_of q) (block_count q) (block_of q b) ≡ true =
        sym (ap₂ (annotated (version_of p)) alike.blocks (alike.block b h) ∙ ap (λ (v : ℕ). annotated v (block_count q) (block_of q b)) alike.version) ∙ w.0 in
        rw (le-leb (block_cell b + 6) (length q) (omega arith), s, a)

    instruction_yes : (i : ℕ) → i < instruction_count p → instruction_count p ≤ 1024 → instruction_no p i ≡ 0 → instruction_no q i ≡ 0
    unfolding instruction_no
    instruction_yes i h few e =
        let u = ask_yes (leb (instruction_cell i + 5) (length p)) 8 _ tt e in
        let v = ask_yes (laid_out (last_opcode (version_of p)) (block_count p) (instruction_of p i)) 8 _ tt u.1 in
        let w = ask_yes (same (ends_block (instruction_of p i).opcode) (last_in_block (program_of p) i)) 9 0 tt v.1 in
        let x = alike.instruction i h in
        let l : laid_out (last_opcode (version_of q)) (block_count q) (instruction_of q i) ≡ true =
        sym (ap₂ (laid_out (last_opcode (version_of p))) alike.blocks x ∙ ap (λ (v : ℕ). laid_out (last_opcode v) (block_count q) (instruction_of q i)) alike.version) ∙ v.0 in
        let s : same (ends_block (instruction_of q i).opcode) (last_in_block (program_of q) i) ≡ true =
        sym (ap₂ (λ (y : Instruction) (t : Bool). same (ends_block y.opcode) t) x (last-same i)) ∙ w.0 in
        rw (le-leb (instruction_cell i + 5) (length q) (omega arith), l, s)

    pub records_yes : block_count p ≤ 128 → instruction_count p ≤ 1024 → records_no p ≡ 0 → records_no q ≡ 0
    unfolding records_no
    records_yes few few' e =
        let r = or_else_both (first_no (block_no p) (block_count p) 0) (first_no (instruction_no p) (instruction_count p) 0) e in
        let x : first_no (block_no q) (block_count q) 0 ≡ 0 =
        first-no-none (block_no q) (block_count q) 0
        (λ b _ h. block_yes b (omega (arith, alike.blocks)) few
        (first-no_all (block_no p) (block_count p) 0 r.0 b (omega arith) (omega (arith, alike.blocks)))) in
        let y : first_no (instruction_no q) (instruction_count q) 0 ≡ 0 =
        first-no-none (instruction_no q) (instruction_count q) 0
        (λ i _ h. instruction_yes i (omega (arith, alike.instructions)) few'
        (first-no_all (instruction_no p) (instruction_count p) 0 r.1 i (omega arith) (omega (arith, alike.instructions)))) in
        or_else_yes (first_no (block_no q) (block_count q) 0) (first_no (instruction_no q) (instruction_count q) 0) x ∙ y
