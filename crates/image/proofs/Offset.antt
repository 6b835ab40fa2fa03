-- The reader's offset is at each record the place that the layout gives it, and after an accepted image's last record the image's length.
use mathlib.Core.Path.{◌≡◌, refl, sym, ap, ◌∙◌}
use mathlib.Core.List.{List}
use Prim.Native.Nat.{ℕ, ◌<◌}
use native.Mathlib.Omega.{arith}
use lib.ListN.{length}
use borrow.Author.Tests.{eq-eqb, ne_eqb}
use Rattle.image.specs.Layout.{block_place, instruction_place, version_in, blocks_in, instructions_in, cells_in}
use Rattle.image.specs.Questions.{or_else, first_no, block_no, instruction_no, records_no}
use Rattle.image.specs.Doors.{header_no, image_no}
use Rattle.image.specs.Offset.{blocks_passed, instructions_passed, blocks_offset, instructions_offset, offset_in, KeepsOffset}
use Rattle.image.proofs.Asked.{or_else_both, first-no-none}
use Rattle.image.proofs.Header.{header, cells_in_blocks, cells_in_instructions}
use Rattle.image.proofs.Walking.{walk_passed, walk_stops, passed_all}

module _ (bytes : List ℕ) where
  abbrev cells : List ℕ
  cells = cells_in bytes

  abbrev Ver : ℕ
  Ver = version_in bytes

  abbrev B : ℕ
  B = blocks_in bytes

  abbrev I : ℕ
  I = instructions_in bytes

  -- 6 and 7 of all blocks, 8 and 9 of all instructions
  abbrev blocks_no : ℕ
  blocks_no = first_no (block_no cells) B 0

  abbrev instructions_no : ℕ
  instructions_no = first_no (instruction_no cells) I 0

  pub records-no : records_no cells ≡ or_else blocks_no instructions_no
  unfolding records_no
  records-no = rw (cells_in_blocks bytes, cells_in_instructions bytes)

  pub offset_unread : (header_no bytes ≡ 0 → ⊥) → offset_in bytes ≡ 0
  unfolding offset_in
  offset_unread h = rw (ne_eqb (header_no bytes) 0 h)

  pub offset_at_block : header_no bytes ≡ 0 → (blocks_no ≡ 0 → ⊥) → offset_in bytes ≡ blocks_offset bytes
  unfolding offset_in
  offset_at_block h e = rw (eq-eqb (header_no bytes) 0 h, ne_eqb blocks_no 0 e)

  pub offset_past-blocks : header_no bytes ≡ 0 → blocks_no ≡ 0 → offset_in bytes ≡ instructions_offset bytes
  unfolding offset_in
  offset_past-blocks h e = rw (eq-eqb (header_no bytes) 0 h, eq-eqb blocks_no 0 e)

  -- where a walk over the blocks or the instructions has come to
  pub blocks_offset_lem : (n : ℕ) → blocks_passed bytes ≡ n → blocks_offset bytes ≡ block_place Ver n
  unfolding blocks_offset
  blocks_offset_lem n e = ap (block_place Ver) e

  pub instructions_offset_lem : (n : ℕ) → instructions_passed bytes ≡ n → instructions_offset bytes ≡ instruction_place Ver B n
  unfolding instructions_offset
  instructions_offset_lem n e = ap (instruction_place Ver B) e

  pub past-blocks : blocks_no ≡ 0 → blocks_offset bytes ≡ block_place Ver B
  past-blocks e = blocks_offset_lem B (passed_all (block_no cells) B e)

  -- ---- the statement's clauses

  at_block : (b : ℕ) → header_no bytes ≡ 0 → b < B → ((j : ℕ) → j < b → block_no cells j ≡ 0) → (block_no cells b ≡ 0 → ⊥)
      → offset_in bytes ≡ block_place Ver b
  at_block b h q earlier refused =
      let s = walk_stops (block_no cells) B b (walk_passed (block_no cells) B b (omega arith) earlier) q refused in
      offset_at_block h (λ e. refused (sym s.0 ∙ e)) ∙ blocks_offset_lem b s.1

  at_instruction : (i : ℕ) → header_no bytes ≡ 0 → i < I → ((j : ℕ) → j < B → block_no cells j ≡ 0)
      → ((j : ℕ) → j < i → instruction_no cells j ≡ 0) → (instruction_no cells i ≡ 0 → ⊥) → offset_in bytes ≡ instruction_place Ver B i
  at_instruction i h q blocks earlier refused =
      let s = walk_stops (instruction_no cells) I i (walk_passed (instruction_no cells) I i (omega arith) earlier) q refused in
      offset_past-blocks h (first-no-none (block_no cells) B 0 (λ j _ k. blocks j (omega arith))) ∙ instructions_offset_lem i s.1

  after_last : image_no bytes ≡ 0 → offset_in bytes ≡ length bytes
  unfolding image_no
  after_last e =
      let p = or_else_both (header_no bytes) (records_no cells) e in
      let r = or_else_both blocks_no instructions_no (sym records-no ∙ p.1) in
      offset_past-blocks p.0 r.0 ∙ instructions_offset_lem I (passed_all (instruction_no cells) I r.1) ∙ sym (header bytes p.0).size

pub keeps_offset : KeepsOffset
keeps_offset = record {
  size_one = refl;
  size_two = refl;
  first_block = λ version. (omega arith);
  next_block = λ version b. (omega arith);
  first_instruction = λ version blocks. (omega arith);
  next_instruction = λ version blocks i. (omega arith);
  at_block = at_block;
  at_instruction = at_instruction;
  after_last = after_last;
}
