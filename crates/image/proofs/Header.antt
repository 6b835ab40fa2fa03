-- What an accepted header tells of an image.
use mathlib.Core.Path.{◌≡◌, refl, sym, ap, ap₂, ◌∙◌}
use mathlib.Core.Bool.{Bool, true, ◌&&◌}
use mathlib.Core.List.{List, [], ◌∷◌}
use Prim.Native.Nat.{ℕ, zero, suc, ◌+◌, ◌-◌, ◌<◌, ◌≤◌}
use native.Mathlib.Omega.{arith}
use lib.ListN.{length, get_or, replicate}
use lib.Seq.{sets}
use lib.Dec.{eqb, leb}
use borrow.Author.Tests.{leb-true, eqb-true, le-leb, eq-eqb}
use Rattle.facts.proofs.Tests.{both_true}
use Rattle.image.specs.declared.Block.{Block}
use Rattle.image.specs.declared.Instruction.{Instruction}
use Rattle.image.specs.Layout.{block_place, instruction_place, version_in, blocks_in, instructions_in, image_length, program_cells, block_cell}
use Rattle.image.specs.Layout.{instruction_cell, version_of, block_count, instruction_count, block_of, program_of, instruction_of, block_in, instruction_in, buffer}
use Rattle.image.specs.Layout.{block_cells_in, instruction_cells_in, cells_in}
use Rattle.image.specs.Questions.{ask, version_no, counts_no, block_no, last_opcode, last_in_block, instruction_no}
use Rattle.image.specs.Records.{block_record_no, instruction_record_no}
use Rattle.image.specs.Doors.{mark_in, header_no}
use Rattle.image.proofs.Asked.{ask_yes, or_else_both, or_else_yes}
use Rattle.image.proofs.Buffer.{buffer-length, buffer-version, buffer-blocks, buffer-instructions, buffer_block, buffer-instruction}
use Rattle.image.proofs.Counts.{Counted, counted}
use Rattle.image.proofs.Rows.{placed}

pub record Header (bytes : List ℕ) : Type 0 where
  pub long : 8 ≤ length bytes
  pub mark : (get_or bytes 0 0 ≡ 84) × (get_or bytes 1 0 ≡ 80) × (get_or bytes 2 0 ≡ 66)
  pub version : version_no (version_in bytes) ≡ 0
  pub counts : counts_no (blocks_in bytes) (instructions_in bytes) ≡ 0
  pub size : length bytes ≡ image_length (version_in bytes) (blocks_in bytes) (instructions_in bytes)

letters : (bytes : List ℕ) → mark_in bytes ≡ true → (get_or bytes 0 0 ≡ 84) × (get_or bytes 1 0 ≡ 80) × (get_or bytes 2 0 ≡ 66)
unfolding mark_in
letters bytes h =
    let p = both_true (eqb (get_or bytes 0 0) 84) (eqb (get_or bytes 1 0) 80 && eqb (get_or bytes 2 0) 66) h in
    let q = both_true (eqb (get_or bytes 1 0) 80) (eqb (get_or bytes 2 0) 66) p.1 in
    (eqb-true (get_or bytes 0 0) 84 p.0, eqb-true (get_or bytes 1 0) 80 q.0, eqb-true (get_or bytes 2 0) 66 q.1)

pub header : (bytes : List ℕ) → header_no bytes ≡ 0 → Header bytes
unfolding header_no
header bytes h =
    let a = ask_yes (leb 8 (length bytes)) 1 _ tt h in
    let b = ask_yes (mark_in bytes) 2 _ tt a.1 in
    let c = or_else_both (version_no (version_in bytes)) _ b.1 in
    let d = or_else_both (counts_no (blocks_in bytes) (instructions_in bytes)) _ c.1 in
    let e = ask_yes (eqb (length bytes) (image_length (version_in bytes) (blocks_in bytes) (instructions_in bytes))) 5 0 tt d.1 in
    record {
      long = leb-true 8 (length bytes) a.0;
      mark = letters bytes b.0;
      version = c.0;
      counts = d.0;
      size = eqb-true (length bytes) (image_length (version_in bytes) (blocks_in bytes) (instructions_in bytes)) e.0;
    }

-- and back
pub headed : (bytes : List ℕ) → Header bytes → header_no bytes ≡ 0
unfolding header_no mark_in
headed bytes h =
    rw (le-leb 8 (length bytes) h.long, h.mark.0, h.mark.1, h.mark.2)
    (or_else_yes (version_no (version_in bytes)) _ h.version ∙ or_else_yes (counts_no (blocks_in bytes) (instructions_in bytes)) _ h.counts
    ∙ rw (eq-eqb (length bytes) (image_length (version_in bytes) (blocks_in bytes) (instructions_in bytes)) h.size))

module _ (bytes : List ℕ) where
  -- the image's program: a cleared buffer with the version, the counts and all records laid into it
  pub decoded :
      let head : List ℕ = version_in bytes ∷ blocks_in bytes ∷ instructions_in bytes ∷ [] in
      let blocks = sets (sets (replicate program_cells 0) 0 head) (block_cell 0) (block_cells_in bytes (blocks_in bytes)) in
      sets blocks (instruction_cell 0) (instruction_cells_in bytes (instructions_in bytes)) ≡ cells_in bytes
  unfolding cells_in buffer
  decoded =
      let head : List ℕ = version_in bytes ∷ blocks_in bytes ∷ instructions_in bytes ∷ [] in
      ap (λ (m : List ℕ). sets m (instruction_cell 0) (instruction_cells_in bytes (instructions_in bytes)))
      (placed (replicate program_cells 0) _ _ 0 (block_cell 0) head (block_cells_in bytes (blocks_in bytes)) refl refl refl)

  pub cells_in_version : version_of (cells_in bytes) ≡ version_in bytes
  unfolding cells_in
  cells_in_version = buffer-version (version_in bytes) (blocks_in bytes) (instructions_in bytes) _ _

  pub cells_in_blocks : block_count (cells_in bytes) ≡ blocks_in bytes
  unfolding cells_in
  cells_in_blocks = buffer-blocks (version_in bytes) (blocks_in bytes) (instructions_in bytes) _ _

  pub cells_in_instructions : instruction_count (cells_in bytes) ≡ instructions_in bytes
  unfolding cells_in
  cells_in_instructions = buffer-instructions (version_in bytes) (blocks_in bytes) (instructions_in bytes) _ _

  pub cells_in_counts : counts_no (blocks_in bytes) (instructions_in bytes) ≡ 0 → counts_no (block_count (cells_in bytes)) (instruction_count (cells_in bytes)) ≡ 0
  cells_in_counts h = rw (cells_in_blocks, cells_in_instructions) h

  pub cells_in_length : length (cells_in bytes) ≡ program_cells
  unfolding cells_in
  cells_in_length = buffer-length (version_in bytes) (blocks_in bytes) (instructions_in bytes) _ _

-- ---- the records of an image with an accepted header

module _ (bytes : List ℕ) (h : Header bytes) where
  abbrev Ver : ℕ
  Ver = version_in bytes

  abbrev B : ℕ
  B = blocks_in bytes

  abbrev I : ℕ
  I = instructions_in bytes

  abbrev count : Counted B I
  count = counted B I h.counts

  pub block_read : (b : ℕ) → b < B → block_of (cells_in bytes) b ≡ block_in Ver bytes (block_place Ver b)
  unfolding cells_in
  block_read b q = buffer_block Ver B I _ _ count.blocks_fit count.instructions_fit b q

  pub instruction_read : (i : ℕ) → i < I → instruction_of (cells_in bytes) i ≡ instruction_in bytes (instruction_place Ver B i)
  unfolding cells_in
  instruction_read i q = buffer-instruction Ver B I _ _ count.blocks_fit count.instructions_fit i q

  -- block 0 has no predecessor, so whatever stands for its start decides nothing
  before_read : (b before : ℕ) → b < B → (0 < b → before ≡ (block_in Ver bytes (block_place Ver (b - 1))).first) → (k : Block)
      → block_record_no Ver B I b before k ≡ block_record_no Ver B I b (block_of (cells_in bytes) (b - 1)).first k
  before_read zero before q e k = refl
  before_read (suc b) before q e k =
      ap (λ (n : ℕ). block_record_no Ver B I (suc b) n k) (e (omega arith) ∙ ap (λ (k : Block). k.first) (sym (block_read (suc b - 1) (omega arith))))

  -- the questions put to a record in the image are those put to it in the program buffer
  pub block_asked : (b before : ℕ) → b < B → (0 < b → before ≡ (block_in Ver bytes (block_place Ver (b - 1))).first)
      → block_record_no Ver B I b before (block_in Ver bytes (block_place Ver b)) ≡ block_no (cells_in bytes) b
  unfolding block_no
  block_asked b before q e =
      before_read b before q e (block_in Ver bytes (block_place Ver b))
      ∙ ap (block_record_no Ver B I b (block_of (cells_in bytes) (b - 1)).first) (sym (block_read b q))
      ∙ ap (λ (v : ℕ). block_record_no v B I b (block_of (cells_in bytes) (b - 1)).first (block_of (cells_in bytes) b)) (sym (cells_in_version bytes))
      ∙ ap₂ (λ (m n : ℕ). block_record_no (version_of (cells_in bytes)) m n b (block_of (cells_in bytes) (b - 1)).first (block_of (cells_in bytes) b))
      (sym (cells_in_blocks bytes)) (sym (cells_in_instructions bytes))
      ∙ ap (λ (t : Bool). ask t 6 (block_record_no (version_of (cells_in bytes)) (block_count (cells_in bytes)) (instruction_count (cells_in bytes)) b (block_of (cells_in bytes) (b - 1)).first (block_of (cells_in bytes) b)))
      (sym (le-leb (block_cell b + 6) (length (cells_in bytes)) (omega (arith, cells_in_length bytes, count.blocks_fit))))

  pub instruction-asked : (opcodes i : ℕ) → opcodes ≡ last_opcode Ver → i < I
      → instruction_record_no opcodes B (last_in_block (program_of (cells_in bytes)) i) (instruction_in bytes (instruction_place Ver B i)) ≡ instruction_no (cells_in bytes) i
  unfolding instruction_no
  instruction-asked opcodes i e q =
      ap (λ (n : ℕ). instruction_record_no n B (last_in_block (program_of (cells_in bytes)) i) (instruction_in bytes (instruction_place Ver B i)))
      (e ∙ ap last_opcode (sym (cells_in_version bytes)))
      ∙ ap₂ (λ (n : ℕ) (x : Instruction). instruction_record_no (last_opcode (version_of (cells_in bytes))) n (last_in_block (program_of (cells_in bytes)) i) x) (sym (cells_in_blocks bytes)) (sym (instruction_read i q))
      ∙ ap (λ (t : Bool). ask t 8 (instruction_record_no (last_opcode (version_of (cells_in bytes))) (block_count (cells_in bytes)) (last_in_block (program_of (cells_in bytes)) i) (instruction_of (cells_in bytes) i)))
      (sym (le-leb (instruction_cell i + 5) (length (cells_in bytes)) (omega (arith, cells_in_length bytes, count.instructions_fit))))
