-- What the writer's three parts add up to: the image.
use mathlib.Core.Path.{◌≡◌, refl, sym, ap, ◌∙◌}
use mathlib.Core.List.{List, ◌++◌, append_assoc, append-nil}
use Prim.Native.Nat.{ℕ, ◌+◌, ◌*◌}
use native.Mathlib.Omega.{arith}
use lib.ListN.{length, length-append, drop_of_length-le}
use lib.Seq.{sets, sets-eq}
use Rattle.int64.specs.Little.{bytes_of}
use Rattle.int64.proofs.Little.{length_bytes_of}
use Rattle.image.specs.declared.Block.{Block}
use Rattle.image.specs.Layout.{rows, most_pairs, block_size, block_place, image_length, version_of, block_count, instruction_count}
use Rattle.image.specs.Layout.{block_of, instruction_of, block_bytes, instruction_bytes, header_of, image_of}
use Rattle.image.proofs.Rows.{placed, length-rows}

-- a list that is overwritten whole
pub sets-whole : (l xs : List ℕ) → length xs ≡ length l → sets l 0 xs ≡ xs
sets-whole l xs e =
    sets-eq xs l 0 (omega arith)
    ∙ ap (λ (r : List ℕ). xs ++ r) (drop_of_length-le l {i = 0 + length xs} (omega arith)) ∙ append-nil xs

pub block_bytes_length : (version : ℕ) (k : Block) → length (block_bytes version k) ≡ block_size version
unfolding bytes_of
block_bytes_length version k = omega (arith, length_bytes_of (most_pairs version) k.packed)

module _ (cells : List ℕ) where
  abbrev block_rows : List ℕ
  block_rows = rows (λ b. block_bytes (version_of cells) (block_of cells b)) (block_count cells)

  abbrev instruction_rows : List ℕ
  instruction_rows = rows (λ i. instruction_bytes (instruction_of cells i)) (instruction_count cells)

  pub block_rows-length : length block_rows ≡ block_size (version_of cells) * block_count cells
  block_rows-length =
      length-rows (λ b. block_bytes (version_of cells) (block_of cells b)) (block_size (version_of cells))
      (λ b. block_bytes_length (version_of cells) (block_of cells b)) (block_count cells)

  pub instruction-rows-length : length instruction_rows ≡ 12 * instruction_count cells
  unfolding bytes_of
  instruction-rows-length = length-rows (λ i. instruction_bytes (instruction_of cells i)) 12 (λ i. refl) (instruction_count cells)

  header-length : length (header_of cells) ≡ 8
  unfolding bytes_of
  header-length = refl

  pub image-length : length (image_of cells) ≡ image_length (version_of cells) (block_count cells) (instruction_count cells)
  unfolding image_of
  image-length =
      length-append (header_of cells) (block_rows ++ instruction_rows)
      ∙ omega (arith, header-length, length-append block_rows instruction_rows, block_rows-length, instruction-rows-length)

  whole : (header_of cells ++ block_rows) ++ instruction_rows ≡ image_of cells
  unfolding image_of
  whole = append_assoc (header_of cells) block_rows instruction_rows

  pub encoded : (l l₁ l₂ l₃ : List ℕ) → l₁ ≡ sets l 0 (header_of cells) → l₂ ≡ sets l₁ (block_place (version_of cells) 0) block_rows
      → l₃ ≡ sets l₂ (block_place (version_of cells) (block_count cells)) instruction_rows
      → length l ≡ image_length (version_of cells) (block_count cells) (instruction_count cells) → l₃ ≡ image_of cells
  encoded l l₁ l₂ l₃ p q r e =
      let u = placed l l₁ l₂ 0 (block_place (version_of cells) 0) (header_of cells) block_rows p q (omega (arith, header-length)) in
      let v = placed l l₂ l₃ 0 (block_place (version_of cells) (block_count cells)) (header_of cells ++ block_rows) instruction_rows u r
      (omega (arith, length-append (header_of cells) block_rows, header-length, block_rows-length)) in
      v ∙ ap (sets l 0) whole ∙ sets-whole l (image_of cells) (image-length ∙ sym e)
