-- An accepted image is written back byte for byte.
use mathlib.Core.Path.{◌≡◌, ap, ap₂, ◌∙◌}
use mathlib.Core.List.{List, ◌++◌}
use Prim.Native.Nat.{ℕ, ◌+◌, ◌*◌, ◌<◌}
use native.Mathlib.Omega.{arith}
use lib.ListN.{get_or}
use lib.Seq.{take_all}
use Rattle.int64.specs.Little.{bytes_of}
use Rattle.image.specs.Layout.{mark, rows, block_size, block_place, instruction_place, version_in, blocks_in, instructions_in, version_of, block_count, instruction_count}
use Rattle.image.specs.Layout.{block_of, instruction_of, block_bytes, instruction_bytes, header_of, cells_in, image_of}
use Rattle.image.proofs.Versions.{block_inside}
use Rattle.image.proofs.Rows.{rows_same}
use Rattle.image.proofs.Header.{Header, cells_in_version, cells_in_blocks, cells_in_instructions, block_read, instruction_read}
use Rattle.image.proofs.Chunks.{chunk, chunk-append, rows-chunk, number-chunk, byte_chunk, block_chunk, instruction-chunk}

module _ (bytes : List ℕ) (small : (i : ℕ) → get_or bytes i 0 < 256) (h : Header bytes) where
  abbrev Ver : ℕ
  Ver = version_in bytes

  abbrev B : ℕ
  B = blocks_in bytes

  abbrev I : ℕ
  I = instructions_in bytes

  mark-chunk : mark ≡ chunk bytes 0 3
  unfolding bytes_of
  mark-chunk =
      let e : mark ≡ bytes_of 1 (get_or bytes 0 0) ++ (bytes_of 1 (get_or bytes 1 0) ++ bytes_of 1 (get_or bytes 2 0)) =
      rw (h.mark.0, h.mark.1, h.mark.2) in
      e
      ∙ ap₂ ◌++◌ (byte_chunk bytes small 0 (omega (arith, h.long)))
      (ap₂ ◌++◌ (byte_chunk bytes small 1 (omega (arith, h.long))) (byte_chunk bytes small 2 (omega (arith, h.long))) ∙ chunk-append bytes 1 1 1)
      ∙ chunk-append bytes 0 1 2

  header-chunk : header_of (cells_in bytes) ≡ chunk bytes 0 8
  header-chunk =
      let counts : bytes_of 1 (block_count (cells_in bytes)) ++ bytes_of 2 (instruction_count (cells_in bytes)) ≡ chunk bytes 5 3 =
      ap₂ ◌++◌
      (ap (bytes_of 1) (cells_in_blocks bytes) ∙ byte_chunk bytes small 5 (omega (arith, h.long)))
      (ap (bytes_of 2) (cells_in_instructions bytes) ∙ number-chunk bytes small 2 6 (omega (arith, h.long)))
      ∙ chunk-append bytes 5 1 2 in
      let version : bytes_of 2 (version_of (cells_in bytes)) ≡ chunk bytes 3 2 = ap (bytes_of 2) (cells_in_version bytes) ∙ number-chunk bytes small 2 3 (omega (arith, h.long)) in
      ap₂ ◌++◌ mark-chunk (ap₂ ◌++◌ version counts ∙ chunk-append bytes 3 2 3) ∙ chunk-append bytes 0 3 5

  blocks-chunk : rows (λ b. block_bytes (version_of (cells_in bytes)) (block_of (cells_in bytes) b)) (block_count (cells_in bytes)) ≡ chunk bytes 8 (block_size Ver * B)
  blocks-chunk =
      ap₂ (λ (v n : ℕ). rows (λ b. block_bytes v (block_of (cells_in bytes) b)) n) (cells_in_version bytes) (cells_in_blocks bytes)
      ∙ rows_same (λ b. block_bytes Ver (block_of (cells_in bytes) b)) (λ b. chunk bytes (block_place Ver b) (block_size Ver)) B
      (λ b q. ap (block_bytes Ver) (block_read bytes h b q) ∙ block_chunk bytes small Ver (block_place Ver b) (omega (arith, h.size, block_inside Ver b B q)))
      ∙ rows-chunk bytes 8 (block_size Ver) B

  instructions-chunk : rows (λ i. instruction_bytes (instruction_of (cells_in bytes) i)) (instruction_count (cells_in bytes)) ≡ chunk bytes (block_place Ver B) (12 * I)
  instructions-chunk =
      ap (rows (λ i. instruction_bytes (instruction_of (cells_in bytes) i))) (cells_in_instructions bytes)
      ∙ rows_same (λ i. instruction_bytes (instruction_of (cells_in bytes) i)) (λ i. chunk bytes (instruction_place Ver B i) 12) I
      (λ i q. ap instruction_bytes (instruction_read bytes h i q) ∙ instruction-chunk bytes small (instruction_place Ver B i) (omega (arith, h.size)))
      ∙ rows-chunk bytes (block_place Ver B) 12 I

  pub written_back : image_of (cells_in bytes) ≡ bytes
  unfolding image_of
  written_back =
      ap₂ ◌++◌ header-chunk (ap₂ ◌++◌ blocks-chunk instructions-chunk ∙ chunk-append bytes 8 (block_size Ver * B) (12 * I))
      ∙ chunk-append bytes 0 8 (block_size Ver * B + 12 * I) ∙ take_all (8 + (block_size Ver * B + 12 * I)) bytes (omega (arith, h.size))
