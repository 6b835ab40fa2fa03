-- The reader's walk over an image's blocks and then its instructions: what holds when it comes to a record, and that each record keeps it.
use mathlib.Core.Path.{◌≡◌, refl, sym, ap, ◌∙◌, subst}
use mathlib.Core.Bool.{Bool, true, cond}
use mathlib.Core.List.{List}
use Prim.Native.Nat.{ℕ, ◌+◌, ◌-◌, ◌<◌, ◌≤◌}
use native.Mathlib.Omega.{arith}
use lib.ListN.{length, set}
use lib.Seq.{sets}
use Rattle.image.specs.declared.Block.{Block}
use Rattle.image.specs.Layout.{block_size, block_place, instruction_place, version_in, blocks_in, instructions_in, block_cell, instruction_cell, block_of}
use Rattle.image.specs.Layout.{block_in, instruction_in, block_cells, instruction_cells, block_cells_in, instruction_cells_in, cells_in}
use Rattle.image.specs.Questions.{first_no, block_no, instruction_no}
use Rattle.image.specs.Marks.{Marked, Ended}
use Rattle.image.specs.Doors.{header_no}
use Rattle.image.specs.Offset.{blocks_passed, instructions_passed, blocks_offset, instructions_offset}
use Rattle.image.specs.Walked.{blocks_walked, instructions_walked}
use Rattle.image.proofs.Versions.{places_most, block_inside}
use Rattle.image.proofs.Counts.{Counted, counted}
use Rattle.image.proofs.Header.{Header, header, block_read, cells_in_blocks, cells_in_instructions}
use Rattle.image.proofs.Accepted.{block_is}
use Rattle.image.proofs.Marking.{marked_more, ended}
use Rattle.image.proofs.Offset.{blocks_offset_lem, instructions_offset_lem}
use Rattle.image.proofs.Walking.{Walking, walk_begins, walk_goes-on, walk_stops, walk_ends, passed_all, laid_none, laid_more, laid_length}

-- at block b: the offset is its place
pub record AtBlock (bytes : List ℕ) (lays : Bool) (lent : List ℕ) (marks : List Bool) (cells : List ℕ) (at to before b : ℕ) : Type 0 where
  pub below : b ≤ blocks_in bytes
  pub offset : at ≡ block_place (version_in bytes) b
  pub target : to ≡ block_cell b
  pub walking : Walking (block_no (cells_in bytes)) (blocks_in bytes) b
  pub predecessor : 0 < b → before ≡ (block_in (version_in bytes) bytes (block_place (version_in bytes) (b - 1))).first
  pub marking : Marked (cells_in bytes) b marks
  pub laid : cells ≡ cond lays (sets lent (block_cell 0) (block_cells_in bytes b)) lent

-- at instruction i likewise
pub record AtInstruction (bytes : List ℕ) (lays : Bool) (lent cells : List ℕ) (at to i : ℕ) : Type 0 where
  pub below : i ≤ instructions_in bytes
  pub offset : at ≡ instruction_place (version_in bytes) (blocks_in bytes) i
  pub target : to ≡ instruction_cell i
  pub walking : Walking (instruction_no (cells_in bytes)) (instructions_in bytes) i
  pub laid : cells ≡ cond lays (sets lent (instruction_cell 0) (instruction_cells_in bytes i)) lent

module _ (bytes : List ℕ) (ok : header_no bytes ≡ 0) where
  abbrev Ver : ℕ
  Ver = version_in bytes

  abbrev B : ℕ
  B = blocks_in bytes

  abbrev I : ℕ
  I = instructions_in bytes

  abbrev h : Header bytes
  h = header bytes ok

  abbrev count : Counted B I
  count = counted B I h.counts

  -- ---- blocks

  -- a block's record ends inside the image, and early
  pub block_within : (b : ℕ) → b < B → (block_place Ver b + block_size Ver ≤ length bytes) × (block_place Ver b + block_size Ver ≤ 1800)
  block_within b q =
      let i = block_inside Ver b B q in
      (omega (arith, i, h.size), omega (arith, i, places_most Ver B count.blocks_fit))

  -- where an accepted block starts
  pub first_below : (b : ℕ) → b < B → block_no (cells_in bytes) b ≡ 0 → (block_in Ver bytes (block_place Ver b)).first < I
  first_below b q e =
      let below = (block_is (cells_in bytes) b (omega (arith, cells_in_blocks bytes, count.some_block)) e).first_below in
      let same : (block_of (cells_in bytes) b).first ≡ (block_in Ver bytes (block_place Ver b)).first = ap (λ (k : Block). k.first) (block_read bytes h b q) in
      omega (arith, below, same, cells_in_instructions bytes)

  -- all blocks passed: with the program's end marked behind their starts
  pub end_marked : (marks : List Bool) (end : ℕ) → first_no (block_no (cells_in bytes)) B 0 ≡ 0 → Marked (cells_in bytes) (blocks_passed bytes) marks
      → end ≡ I → Ended (cells_in bytes) (set marks end true)
  end_marked marks end all m e =
      let n = cells_in_instructions bytes in
      let every = passed_all (block_no (cells_in bytes)) B all ∙ sym (cells_in_blocks bytes) in
      subst (λ (i : ℕ). Ended (cells_in bytes) (set marks i true)) (n ∙ sym e)
      (ended (cells_in bytes) marks (subst (λ (b : ℕ). Marked (cells_in bytes) b marks) every m) (omega (arith, n, count.instructions_fit)))

  module _ (lays : Bool) (lent : List ℕ) where
    pub blocks-begin : (marks : List Bool) → Marked (cells_in bytes) 0 marks → AtBlock bytes lays lent marks lent 8 (block_cell 0) 0 0
    blocks-begin marks m = record {
      below = omega arith;
      offset = omega arith;
      target = omega arith;
      walking = walk_begins (block_no (cells_in bytes)) B;
      predecessor = λ q. absurd (omega arith);
      marking = m;
      laid = laid_none (λ b. block_cells (block_in Ver bytes (block_place Ver b))) 6 (λ b. refl) lays lent (block_cell 0);
    }

    module _ (marks : List Bool) (cells : List ℕ) (at to before b : ℕ) (w : AtBlock bytes lays lent marks cells at to before b) where
      -- the block after an accepted one
      pub next_block : (after : List ℕ) (k : Block) (next : ℕ) → b < B → block_no (cells_in bytes) b ≡ 0 → k ≡ block_in Ver bytes (block_place Ver b)
          → after ≡ cond lays (sets cells to (block_cells k)) cells → next ≡ at + block_size Ver
          → AtBlock bytes lays lent (set marks k.first true) after next (to + 6) k.first (b + 1)
      next_block after k next q e here stored on =
          let starts : k.first ≡ (block_in Ver bytes (block_place Ver b)).first = ap (λ (k : Block). k.first) here in
          let held : (block_of (cells_in bytes) b).first ≡ k.first = ap (λ (k : Block). k.first) (block_read bytes h b q) ∙ sym starts in
          let back : b + 1 - 1 ≡ b = omega arith in
          record {
            below = omega arith;
            offset = omega (arith, w.offset, on);
            target = omega (arith, w.target);
            walking = walk_goes-on (block_no (cells_in bytes)) B b w.walking q e;
            predecessor = λ _. starts ∙ ap (λ (n : ℕ). (block_in Ver bytes (block_place Ver n)).first) (sym back);
            marking = subst (λ (n : ℕ). Marked (cells_in bytes) (b + 1) (set marks n true)) held
                (marked_more (cells_in bytes) b marks w.marking (omega (arith, held, starts, first_below b q e, count.instructions_fit)));
            laid = laid_more (λ b. block_cells (block_in Ver bytes (block_place Ver b))) 6 (λ b. refl) lays lent cells after (block_cell 0) to b w.laid
                (stored ∙ ap (λ (k : Block). cond lays (sets cells to (block_cells k)) cells) here) w.target;
          }

      -- where the walk stops, at a refused block or after the last
      abbrev BlocksStopped : Type 0
      BlocksStopped =
          (at ≡ blocks_offset bytes)
          × (Marked (cells_in bytes) (blocks_passed bytes) marks × (cells ≡ cond lays (blocks_walked bytes lent) lent))

      blocks-stopped : blocks_passed bytes ≡ b → BlocksStopped
      blocks-stopped e = (
        w.offset ∙ sym (blocks_offset_lem bytes b e),
        (
          subst (λ (n : ℕ). Marked (cells_in bytes) n marks) (sym e) w.marking,
          w.laid ∙ ap (λ (n : ℕ). cond lays (sets lent (block_cell 0) (block_cells_in bytes n)) lent) (sym e),
        ),
      )

      pub block_refused : b < B → (block_no (cells_in bytes) b ≡ 0 → ⊥)
          → (first_no (block_no (cells_in bytes)) B 0 ≡ block_no (cells_in bytes) b) × BlocksStopped
      block_refused q refused =
          let s = walk_stops (block_no (cells_in bytes)) B b w.walking q refused in
          (s.0, blocks-stopped s.1)

      pub blocks_end : B ≤ b → (first_no (block_no (cells_in bytes)) B 0 ≡ 0) × BlocksStopped
      blocks_end q =
          let s = walk_ends (block_no (cells_in bytes)) B b w.walking q in
          (s.0, blocks-stopped s.1)

      pub block_length : length cells ≡ length lent
      block_length = laid_length lays lent cells (block_cells_in bytes b) (block_cell 0) w.laid

    -- ---- instructions

    pub instructions-begin : (start : ℕ) → start ≡ block_place Ver B → AtInstruction bytes lays lent lent start (instruction_cell 0) 0
    instructions-begin start e = record {
      below = omega arith;
      offset = omega (arith, e);
      target = omega arith;
      walking = walk_begins (instruction_no (cells_in bytes)) I;
      laid = laid_none (λ i. instruction_cells (instruction_in bytes (instruction_place Ver B i))) 5 (λ i. refl) lays lent (instruction_cell 0);
    }

    module _ (cells : List ℕ) (at to i : ℕ) (w : AtInstruction bytes lays lent cells at to i) where
      pub next_instruction : (after : List ℕ) → i < I → instruction_no (cells_in bytes) i ≡ 0
          → after ≡ cond lays (sets cells to (instruction_cells (instruction_in bytes at))) cells
          → AtInstruction bytes lays lent after (at + 12) (to + 5) (i + 1)
      next_instruction after q e stored = record {
        below = omega arith;
        offset = omega (arith, w.offset);
        target = omega (arith, w.target);
        walking = walk_goes-on (instruction_no (cells_in bytes)) I i w.walking q e;
        laid = laid_more (λ i. instruction_cells (instruction_in bytes (instruction_place Ver B i))) 5 (λ i. refl) lays lent cells after (instruction_cell 0) to i w.laid
            (stored ∙ ap (λ (n : ℕ). cond lays (sets cells to (instruction_cells (instruction_in bytes n))) cells) w.offset) w.target;
      }

      abbrev InstructionsStopped : Type 0
      InstructionsStopped = (at ≡ instructions_offset bytes) × (cells ≡ cond lays (instructions_walked bytes lent) lent)

      instructions-stopped : instructions_passed bytes ≡ i → InstructionsStopped
      instructions-stopped e = (
        w.offset ∙ sym (instructions_offset_lem bytes i e),
        w.laid ∙ ap (λ (n : ℕ). cond lays (sets lent (instruction_cell 0) (instruction_cells_in bytes n)) lent) (sym e),
      )

      pub instruction-refused : i < I → (instruction_no (cells_in bytes) i ≡ 0 → ⊥)
          → (first_no (instruction_no (cells_in bytes)) I 0 ≡ instruction_no (cells_in bytes) i) × InstructionsStopped
      instruction-refused q refused =
          let s = walk_stops (instruction_no (cells_in bytes)) I i w.walking q refused in
          (s.0, instructions-stopped s.1)

      pub instructions_end : I ≤ i → (first_no (instruction_no (cells_in bytes)) I 0 ≡ 0) × InstructionsStopped
      instructions_end q =
          let s = walk_ends (instruction_no (cells_in bytes)) I i w.walking q in
          (s.0, instructions-stopped s.1)

      pub instruction-length : length cells ≡ length lent
      instruction-length = laid_length lays lent cells (instruction_cells_in bytes i) (instruction_cell 0) w.laid
