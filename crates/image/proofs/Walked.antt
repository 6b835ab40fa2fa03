-- What a program buffer holds after reading. Of an accepted image it is the image's program.
use mathlib.Core.Path.{◌≡◌, sym, ◌∙◌}
use mathlib.Core.Bool.{Bool, true, cond}
use mathlib.Core.List.{List, [], ◌∷◌}
use Prim.Native.Nat.{ℕ}
use lib.ListN.{replicate}
use lib.Seq.{sets}
use borrow.Author.Tests.{eq-eqb, ne_eqb}
use Rattle.image.specs.Layout.{version_in, blocks_in, instructions_in, program_cells, cells_in}
use Rattle.image.specs.Questions.{first_no, block_no, instruction_no, records_no}
use Rattle.image.specs.Doors.{unless_refused, header_no, image_no}
use Rattle.image.specs.Walked.{blocks_walked, instructions_walked, records_walked, scanned}
use Rattle.image.proofs.Asked.{or_else_both}
use Rattle.image.proofs.Header.{decoded}
use Rattle.image.proofs.Walking.{passed_all, as_lent, laid_then}
use Rattle.image.proofs.Offset.{records-no}

module _ (bytes : List ℕ) where
  abbrev head : List ℕ
  head = version_in bytes ∷ blocks_in bytes ∷ instructions_in bytes ∷ []

  abbrev blocks_no : ℕ
  blocks_no = first_no (block_no (cells_in bytes)) (blocks_in bytes) 0

  abbrev instructions_no : ℕ
  instructions_no = first_no (instruction_no (cells_in bytes)) (instructions_in bytes) 0

  -- the walk over the blocks, and over the instructions where no block was refused
  module _ (lays : Bool) (cells : List ℕ) where
    pub walked-to_block : (after : List ℕ) → (blocks_no ≡ 0 → ⊥) → after ≡ cond lays (blocks_walked bytes cells) cells
        → after ≡ cond lays (records_walked bytes cells) cells
    unfolding records_walked unless_refused
    walked-to_block after e p = rw (ne_eqb blocks_no 0 e) p

    pub walked-past-blocks : (between after : List ℕ) → blocks_no ≡ 0 → between ≡ cond lays (blocks_walked bytes cells) cells
        → after ≡ cond lays (instructions_walked bytes between) between → after ≡ cond lays (records_walked bytes cells) cells
    unfolding records_walked unless_refused
    walked-past-blocks between after e p q =
        rw (eq-eqb blocks_no 0 e) (laid_then lays (instructions_walked bytes) cells between after (blocks_walked bytes cells) p q)

  -- a refused header leaves the cleared buffer, an accepted one has the head laid and the records walked
  module _ (lays : Bool) (cells : List ℕ) (clear : lays ≡ true → cells ≡ replicate program_cells 0) where
    pub scanned-none : (header_no bytes ≡ 0 → ⊥) → cells ≡ cond lays (scanned bytes) cells
    unfolding scanned unless_refused
    scanned-none e = rw (ne_eqb (header_no bytes) 0 e) (as_lent lays cells (replicate program_cells 0) clear)

    pub scanned-records : (between after : List ℕ) → header_no bytes ≡ 0 → between ≡ cond lays (sets cells 0 head) cells
        → after ≡ cond lays (records_walked bytes between) between → after ≡ cond lays (scanned bytes) cells
    unfolding scanned unless_refused
    scanned-records between after e p q =
        let zeros : List ℕ = replicate program_cells 0 in
        let laid : List ℕ → List ℕ = λ m. sets m 0 head in
        let first = laid_then lays laid cells cells between zeros (as_lent lays cells zeros clear) p in
        rw (eq-eqb (header_no bytes) 0 e) (laid_then lays (records_walked bytes) cells between after (laid zeros) first q)

  pub scanned-accepted : image_no bytes ≡ 0 → scanned bytes ≡ cells_in bytes
  unfolding image_no scanned records_walked unless_refused
  scanned-accepted e =
      let p = or_else_both (header_no bytes) (records_no (cells_in bytes)) e in
      let r = or_else_both blocks_no instructions_no (sym (records-no bytes) ∙ p.1) in
      let blocks = passed_all (block_no (cells_in bytes)) (blocks_in bytes) r.0 in
      let instructions = passed_all (instruction_no (cells_in bytes)) (instructions_in bytes) r.1 in
      rw (eq-eqb (header_no bytes) 0 p.0, eq-eqb blocks_no 0 r.0, blocks, instructions) (decoded bytes)
