-- The image of an accepted program has that program's records in their places.
use mathlib.Core.Path.{◌≡◌, refl, sym, ap, ◌∙◌}
use mathlib.Core.List.{List, [], ◌∷◌, ◌++◌, append-nil}
use Prim.Native.Nat.{ℕ, ◌+◌, ◌*◌, ◌/◌, ◌%◌, ◌^◌, ◌<◌}
use native.Mathlib.Omega.{arith}
use native.Mathlib.Nat.{mul-le-mul_left}
use lib.ListN.{length, get_or, get_or-append}
use lib.Seq.{get_or-append-add}
use Rattle.int64.specs.Little.{little, bytes_of}
use Rattle.int64.proofs.Little.{little-same, little-written}
use Rattle.image.specs.Layout.{rows, most_pairs, block_size, block_place, instruction_place, instruction_cell, version_in, blocks_in, instructions_in, version_of, block_count, instruction_count}
use Rattle.image.specs.Layout.{block_of, instruction_of, block_in, instruction_in, block_bytes, instruction_bytes, header_of, image_of}
use Rattle.image.proofs.Rows.{get_d_rows}
use Rattle.image.proofs.Written.{block_bytes_length, block_rows-length}
use Rattle.image.proofs.Accepted.{Accepted, BlockAccepted, InstructionAccepted}
use Rattle.image.proofs.Versions.{pairs_most, opcodes_most}

-- a number that stands between other bytes
between : (n x : ℕ) (image xs ys : List ℕ) (at : ℕ) → x < 256 ^ n
    → ((j : ℕ) → j < n → get_or image (at + j) 0 ≡ get_or (xs ++ (bytes_of n x ++ ys)) (length xs + j) 0) → little n image at ≡ x
between n x image xs ys at fits same = little-same n image (xs ++ (bytes_of n x ++ ys)) at (length xs) same ∙ little-written n x xs ys fits

low : (x : ℕ) → x < 256 → x % 256 ≡ x
low x h = omega arith

module _ (cells : List ℕ) (accepted : Accepted cells) (words : (i : ℕ) → get_or cells i 0 < 2 ^ 64) where
  abbrev image : List ℕ
  image = image_of cells

  abbrev ver : ℕ
  ver = version_of cells

  abbrev block_rows : List ℕ
  block_rows = rows (λ b. block_bytes ver (block_of cells b)) (block_count cells)

  abbrev instruction_rows : List ℕ
  instruction_rows = rows (λ i. instruction_bytes (instruction_of cells i)) (instruction_count cells)

  header_byte : (j : ℕ) → j < 8 → get_or image j 0 ≡ get_or (header_of cells) j 0
  unfolding image_of bytes_of
  header_byte j h = get_or-append (header_of cells) (block_rows ++ instruction_rows) 0 j h

  pub blocks_back : blocks_in image ≡ block_count cells
  unfolding bytes_of
  blocks_back = header_byte 5 (omega arith) ∙ low (block_count cells) (omega (arith, accepted.few_blocks))

  pub version_back : version_in image ≡ version_of cells
  unfolding bytes_of
  version_back =
      between 2 ver image (84 ∷ 80 ∷ 66 ∷ []) (bytes_of 1 (block_count cells) ++ bytes_of 2 (instruction_count cells)) 3 (omega (arith, accepted.version_most))
      (λ j h. header_byte (3 + j) (omega arith))

  pub instructions_back : instructions_in image ≡ instruction_count cells
  unfolding bytes_of
  instructions_back =
      between 2 (instruction_count cells) image (84 ∷ 80 ∷ 66 ∷ ver % 256 ∷ ver / 256 % 256 ∷ block_count cells % 256 ∷ []) [] 6 (omega (arith, accepted.few_instructions))
      (λ j h. header_byte (6 + j) (omega arith))

  pub mark_back : (get_or image 0 0 ≡ 84) × (get_or image 1 0 ≡ 80) × (get_or image 2 0 ≡ 66)
  mark_back = (header_byte 0 (omega arith), header_byte 1 (omega arith), header_byte 2 (omega arith))

  -- ---- blocks

  module _ (b : ℕ) (below : b < block_count cells) where
    abbrev k : List ℕ
    k = block_bytes ver (block_of cells b)

    block_byte : (n j : ℕ) → j < block_size ver → n ≡ 8 + (block_size ver * b + j) → get_or image n 0 ≡ get_or k j 0
    unfolding image_of bytes_of
    block_byte n j h e =
        ap (λ (m : ℕ). get_or image m 0) e
        ∙ get_or-append-add (header_of cells) (block_rows ++ instruction_rows) (block_size ver * b + j) 0
        ∙ get_or-append block_rows instruction_rows 0 (block_size ver * b + j) (omega (arith, block_rows-length cells, mul-le-mul_left (block_size ver) below))
        ∙ get_d_rows (λ b. block_bytes ver (block_of cells b)) (block_size ver) (λ b. block_bytes_length ver (block_of cells b)) (block_count cells) b j below h

    abbrev fits : BlockAccepted cells b
    fits = accepted.block b below

    first_back : little 2 image (block_place ver b) ≡ (block_of cells b).first
    unfolding bytes_of
    first_back =
        between 2 (block_of cells b).first image []
        (bytes_of 1 (block_of cells b).annotation ++
        (bytes_of 1 (block_of cells b).policy ++ (bytes_of 1 (block_of cells b).label ++
        (bytes_of 1 (block_of cells b).pairs ++ bytes_of (most_pairs ver) (block_of cells b).packed))))
        (block_place ver b) (omega (arith, fits.first_below, accepted.few_instructions)) (λ j h. block_byte (block_place ver b + j) (0 + j) (omega arith) (omega arith))

    packed_back : little (most_pairs ver) image (block_place ver b + 6) ≡ (block_of cells b).packed
    unfolding bytes_of
    packed_back =
        between (most_pairs ver) (block_of cells b).packed image
        ((block_of cells b).first % 256 ∷ (block_of cells b).first / 256 % 256 ∷ (block_of cells b).annotation % 256 ∷ (block_of cells b).policy % 256 ∷
        (block_of cells b).label % 256 ∷ (block_of cells b).pairs % 256 ∷ [])
        [] (block_place ver b + 6) fits.packed_fits
        (λ j h. block_byte (block_place ver b + 6 + j) (6 + j) (omega arith) (omega arith) ∙ ap (λ (r : List ℕ). get_or r (6 + j) 0) (sym (append-nil k)))

    pub block_back : block_in ver image (block_place ver b) ≡ block_of cells b
    unfolding bytes_of
    block_back = λ i. record {
      first = first_back i;
      annotation = (block_byte (block_place ver b + 2) 2 (omega arith) (omega arith) ∙ low (block_of cells b).annotation (omega (arith, fits.annotation_known))) i;
      policy = (block_byte (block_place ver b + 3) 3 (omega arith) (omega arith) ∙ low (block_of cells b).policy (omega (arith, fits.policy_known))) i;
      label = (block_byte (block_place ver b + 4) 4 (omega arith) (omega arith) ∙ low (block_of cells b).label (omega (arith, fits.label_below, accepted.few_blocks))) i;
      pairs = (block_byte (block_place ver b + 5) 5 (omega arith) (omega arith) ∙ low (block_of cells b).pairs (omega (arith, fits.pairs_few, pairs_most ver))) i;
      packed = packed_back i;
    }

  -- ---- instructions

  module _ (x : ℕ) (below : x < instruction_count cells) where
    abbrev at : ℕ
    at = instruction_place ver (block_count cells) x

    instruction_byte : (n j : ℕ) → j < 12 → n ≡ 8 + (block_size ver * block_count cells + (12 * x + j)) → get_or image n 0 ≡ get_or (instruction_bytes (instruction_of cells x)) j 0
    unfolding image_of bytes_of
    instruction_byte n j h e =
        ap (λ (m : ℕ). get_or image m 0) e
        ∙ get_or-append-add (header_of cells) (block_rows ++ instruction_rows) (block_size ver * block_count cells + (12 * x + j)) 0
        ∙ ap (λ (m : ℕ). get_or (block_rows ++ instruction_rows) (m + (12 * x + j)) 0) (sym (block_rows-length cells))
        ∙ get_or-append-add block_rows instruction_rows (12 * x + j) 0
        ∙ get_d_rows (λ i. instruction_bytes (instruction_of cells i)) 12 (λ i. refl) (instruction_count cells) x j below h

    abbrev fine : InstructionAccepted cells x
    fine = accepted.instruction x below

    operand_back : little 8 image (at + 4) ≡ (instruction_of cells x).operand
    unfolding bytes_of
    operand_back =
        between 8 (instruction_of cells x).operand image
        ((instruction_of cells x).opcode % 256 ∷ (instruction_of cells x).r % 256 ∷ (instruction_of cells x).s % 256 ∷ (instruction_of cells x).kind % 256 ∷ [])
        [] (at + 4) (words (instruction_cell x + 4)) (λ j h. instruction_byte (at + 4 + j) (4 + j) (omega arith) (omega arith))

    pub instruction_back : instruction_in image at ≡ instruction_of cells x
    unfolding bytes_of
    instruction_back = λ i. record {
      opcode = (instruction_byte at 0 (omega arith) (omega arith) ∙ low (instruction_of cells x).opcode (omega (arith, fine.opcode_most, opcodes_most ver))) i;
      r = (instruction_byte (at + 1) 1 (omega arith) (omega arith) ∙ low (instruction_of cells x).r (omega (arith, fine.r_small))) i;
      s = (instruction_byte (at + 2) 2 (omega arith) (omega arith) ∙ low (instruction_of cells x).s (omega (arith, fine.s_small))) i;
      kind = (instruction_byte (at + 3) 3 (omega arith) (omega arith) ∙ low (instruction_of cells x).kind (omega (arith, fine.kind_known))) i;
      operand = operand_back i;
    }
