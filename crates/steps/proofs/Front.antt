-- The questions put to a program look at no cell beyond the first 5,891.
use mathlib.Core.Path.{◌≡◌, refl, sym, ap, ap₂, ◌∙◌}
use mathlib.Core.Bool.{◌||◌}
use mathlib.Core.List.{List}
use Prim.Native.Nat.{ℕ, zero, suc, ◌+◌, ◌*◌, ◌-◌, ◌<◌, ◌≤◌, min}
use native.Mathlib.Omega.{arith}
use lib.ListN.{length, get_or, take, length-take}
use lib.Seq.{get_or-take}
use lib.Dec.{eqb, leb}
use borrow.Author.Tests.{leb-true, leb-false, le-leb, lt-leb}
use Rattle.facts.proofs.Tests.{by-test}
use Rattle.image.specs.Layout.{program_cells, version_of, block_count, instruction_count, block_of, instruction_of, program_of}
use Rattle.image.specs.Questions.{ask, or_else, first_no, version_no, counts_no, block_no, starts_at, last_in_block, instruction_no, last_opcode, records_no, program_no}
use Rattle.image.specs.Records.{block_record_no, instruction_record_no}
use Rattle.image.proofs.Asked.{or_else_same, first-no-same}
use Rattle.image.proofs.Counts.{Counted, counted}

-- ---- two buffers that agree in the cells of a program

record SameFront (p q : List ℕ) : Type 0 where
  cell : (i : ℕ) → i < program_cells → get_or p i 0 ≡ get_or q i 0
  stored : (n : ℕ) → n ≤ program_cells → leb n (length p) ≡ leb n (length q)

module _ (p q : List ℕ) (same : SameFront p q) where
  version-same : version_of p ≡ version_of q
  version-same = same.cell 0 (omega arith)

  blocks-same : block_count p ≡ block_count q
  blocks-same = same.cell 1 (omega arith)

  instructions-same : instruction_count p ≡ instruction_count q
  instructions-same = same.cell 2 (omega arith)

  block_same : (b : ℕ) → b < 128 → block_of p b ≡ block_of q b
  block_same b h = λ j. record {
    first = same.cell (3 + 6 * b) (omega arith) j;
    annotation = same.cell (3 + 6 * b + 1) (omega arith) j;
    policy = same.cell (3 + 6 * b + 2) (omega arith) j;
    label = same.cell (3 + 6 * b + 3) (omega arith) j;
    pairs = same.cell (3 + 6 * b + 4) (omega arith) j;
    packed = same.cell (3 + 6 * b + 5) (omega arith) j;
  }

  instruction-same : (i : ℕ) → i < 1024 → instruction_of p i ≡ instruction_of q i
  instruction-same i h = λ j. record {
    opcode = same.cell (771 + 5 * i) (omega arith) j;
    r = same.cell (771 + 5 * i + 1) (omega arith) j;
    s = same.cell (771 + 5 * i + 2) (omega arith) j;
    kind = same.cell (771 + 5 * i + 3) (omega arith) j;
    operand = same.cell (771 + 5 * i + 4) (omega arith) j;
  }

  block_no-same : (b : ℕ) → b < 128 → block_no p b ≡ block_no q b
  unfolding block_no
  block_no-same b h = λ j. ask (same.stored (3 + 6 * b + 6) (omega arith) j) 6
      (block_record_no (version-same j) (blocks-same j) (instructions-same j) b (block_same (b - 1) (omega arith) j).first (block_same b h j))

  starts-at-same : (n i : ℕ) → n ≤ 128 → starts_at (program_of p) n i ≡ starts_at (program_of q) n i
  unfolding starts_at
  starts-at-same zero i h = refl
  starts-at-same (suc n) i h = λ j. eqb (block_same n (omega arith) j).first i || starts-at-same n i (omega arith) j

  last-same : (i : ℕ) → block_count p ≤ 128 → last_in_block (program_of p) i ≡ last_in_block (program_of q) i
  unfolding last_in_block
  last-same i few =
      ap₂ ◌||◌ (ap (eqb (i + 1)) instructions-same)
      (starts-at-same (block_count p) (i + 1) few ∙ ap (λ (n : ℕ). starts_at (program_of q) n (i + 1)) blocks-same)

  instruction-no-same : (i : ℕ) → block_count p ≤ 128 → i < 1024 → instruction_no p i ≡ instruction_no q i
  unfolding instruction_no
  instruction-no-same i few h = λ j. ask (same.stored (771 + 5 * i + 5) (omega arith) j) 8
      (instruction_record_no (last_opcode (version-same j)) (blocks-same j) (last-same i few j) (instruction-same i h j))

  records-same : Counted (block_count p) (instruction_count p) → records_no p ≡ records_no q
  unfolding records_no
  records-same c =
      ap₂ or_else
      (first-no-same (block_no p) (block_no q) (block_count p) 0 (λ b h. block_no-same b (omega arith))
      ∙ ap (λ (n : ℕ). first_no (block_no q) n 0) blocks-same)
      (first-no-same (instruction_no p) (instruction_no q) (instruction_count p) 0 (λ i h. instruction-no-same i c.blocks_fit (omega arith))
      ∙ ap (λ (n : ℕ). first_no (instruction_no q) n 0) instructions-same)

  program-same : program_no p ≡ program_no q
  unfolding program_no
  program-same = ap₂ or_else (ap version_no version-same)
      (or_else_same (counts_no (block_count p) (instruction_count p)) (λ z. records-same (counted (block_count p) (instruction_count p) z))
      ∙ ap (λ (n : ℕ). or_else n (records_no q)) (ap₂ counts_no blocks-same instructions-same))

-- ---- a buffer and its front

leb-min : (n m l : ℕ) → n ≤ m → leb n (min m l) ≡ leb n l
leb-min n m l h =
    by-test (leb n l)
    (λ t. (le-leb n (min m l) (omega (arith, leb-true n l t)) ∙ sym t))
    (λ t. (lt-leb n (min m l) (omega (arith, leb-false n l t)) ∙ sym t))

pub front_same : (cells : List ℕ) → program_no (take program_cells cells) ≡ program_no cells
front_same cells = program-same (take program_cells cells) cells record {
  cell = λ i h. get_or-take program_cells cells i 0 h;
  stored = λ n h. ap (leb n) (length-take program_cells cells) ∙ leb-min n program_cells (length cells) h;
}
