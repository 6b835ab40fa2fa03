-- The version, question 3, and the counts of blocks and instructions, question 4.
use mathlib.Core.Path.{◌≡◌, refl, ap, ◌∙◌}
use mathlib.Core.Bool.{Bool, true, false, ◌&&◌, and-false}
use mathlib.Core.List.{List}
use Prim.Native.Nat.{ℕ, ◌<◌, ◌≤◌}
use native.Mathlib.Omega.{arith}
use lib.ListN.{length, get_or-eq_default}
use lib.Dec.{leb, ltb}
use borrow.Author.Tests.{leb-true, ltb-true, ltb-false}
use Rattle.facts.proofs.Tests.{both_true}
use Rattle.image.specs.Layout.{version_of, block_count, instruction_count}
use Rattle.image.specs.Questions.{or_else, version_no, counts_no, records_no, program_no}
use Rattle.image.proofs.Asked.{ask_yes, or_else_no, or_else_yes, or_else_both}

pub record Versioned (version : ℕ) : Type 0 where
  pub version_least : 1 ≤ version
  pub version_most : version ≤ 2

pub versioned : (version : ℕ) → version_no version ≡ 0 → Versioned version
unfolding version_no
versioned version h =
    let p = both_true (leb 1 version) (leb version 2) (ask_yes (leb 1 version && leb version 2) 3 0 tt h).0 in
    record { version_least = leb-true 1 version p.0; version_most = leb-true version 2 p.1 }

pub record Counted (blocks instructions : ℕ) : Type 0 where
  pub some_block : 1 ≤ blocks
  pub blocks_fit : blocks ≤ 128
  pub some_instruction : 1 ≤ instructions
  pub instructions_fit : instructions ≤ 1024

pub counted : (b i : ℕ) → counts_no b i ≡ 0 → Counted b i
unfolding counts_no
counted b i h =
    let t = (ask_yes (leb 1 b && (leb b 128 && (leb 1 i && leb i 1024))) 4 0 tt h).0 in
    let p = both_true (leb 1 b) (leb b 128 && (leb 1 i && leb i 1024)) t in
    let q = both_true (leb b 128) (leb 1 i && leb i 1024) p.1 in
    let r = both_true (leb 1 i) (leb i 1024) q.1 in
    record {
      some_block = leb-true 1 b p.0;
      blocks_fit = leb-true b 128 q.0;
      some_instruction = leb-true 1 i r.0;
      instructions_fit = leb-true i 1024 r.1;
    }

no-instruction : (b : ℕ) → counts_no b 0 ≡ 4
unfolding counts_no
no-instruction b = rw (and-false (leb b 128), and-false (leb 1 b))

no-version : version_no 0 ≡ 3
unfolding version_no
no-version = refl

module _ (cells : List ℕ) where
  abbrev counts : ℕ
  counts = counts_no (block_count cells) (instruction_count cells)

  abbrev version : ℕ
  version = version_no (version_of cells)

  -- a version that there is not decides
  pub version-decides : (version ≡ 0 → ⊥) → program_no cells ≡ version
  unfolding program_no
  version-decides h = or_else_no version (or_else counts (records_no cells)) h

  -- of a version that there is, the rest does
  pub version-passes : version ≡ 0 → program_no cells ≡ or_else counts (records_no cells)
  unfolding program_no
  version-passes h = or_else_yes version (or_else counts (records_no cells)) h

  -- a buffer without cells has no version
  pub empty-buffer : length cells < 1 → program_no cells ≡ 3
  empty-buffer h =
      let e : version_of cells ≡ 0 = get_or-eq_default cells 0 (omega arith) in
      let k : version ≡ 3 = ap version_no e ∙ no-version in
      version-decides (λ z. (omega (arith, k, z))) ∙ k

  -- one without its first three cells has no instruction
  pub short-buffer : version ≡ 0 → length cells < 3 → program_no cells ≡ 4
  short-buffer known h =
      let e : instruction_count cells ≡ 0 = get_or-eq_default cells 0 (omega arith) in
      let k : counts ≡ 4 = ap (counts_no (block_count cells)) e ∙ no-instruction (block_count cells) in
      version-passes known ∙ or_else_no counts (records_no cells) (λ z. (omega (arith, k, z))) ∙ k

  pub three-cells : counts ≡ 0 → 2 < length cells
  three-cells h = go (ltb 2 (length cells)) refl
    where
      go : (t : Bool) → ltb 2 (length cells) ≡ t → 2 < length cells
      go true e = ltb-true 2 (length cells) e
      go false e =
          let z : instruction_count cells ≡ 0 = get_or-eq_default cells 0 (ltb-false 2 (length cells) e) in
          let k = counted (block_count cells) (instruction_count cells) h in
          absurd (omega arith)

  -- an accepted program: 3, 4, and 6 to 9
  pub program-parts : program_no cells ≡ 0 → (version ≡ 0) × (counts ≡ 0) × (records_no cells ≡ 0)
  unfolding program_no
  program-parts h =
      let p = or_else_both version (or_else counts (records_no cells)) h in
      let q = or_else_both counts (records_no cells) p.1 in
      (p.0, q.0, q.1)

  pub accept_program : version ≡ 0 → counts ≡ 0 → records_no cells ≡ 0 → program_no cells ≡ 0
  accept_program v c r = version-passes v ∙ or_else_yes counts (records_no cells) c ∙ r

pub program-counted : (cells : List ℕ) → program_no cells ≡ 0 → counts_no (block_count cells) (instruction_count cells) ≡ 0
program-counted cells h = (program-parts cells h).1
