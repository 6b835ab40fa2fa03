-- An image cut into its fields: what is read from a chunk of bytes is written back as that chunk.
use mathlib.Core.Path.{◌≡◌, refl, sym, ap, ap₂, ◌∙◌}
use mathlib.Core.List.{List, ◌++◌}
use Prim.Native.Nat.{ℕ, zero, suc, ◌+◌, ◌*◌, ◌<◌, ◌≤◌}
use native.Mathlib.Omega.{arith}
use native.Mathlib.Nat.{mul-suc}
use lib.ListN.{length, get_or, take, drop}
use lib.Seq.{take-add, drop-drop}
use Rattle.int64.specs.Little.{little, bytes_of}
use Rattle.int64.proofs.Little.{bytes_of_little}
use Rattle.image.specs.Layout.{rows, most_pairs, block_size, block_in, block_bytes, instruction_in, instruction_bytes}

module _ (bytes : List ℕ) where
  -- n bytes from an offset on
  abbrev pub chunk : ℕ → ℕ → List ℕ
  chunk at n = take n (drop at bytes)

  pub chunk-append : (at m n : ℕ) → chunk at m ++ chunk (at + m) n ≡ chunk at (m + n)
  chunk-append at m n = sym (take-add m n (drop at bytes) ∙ ap (λ (r : List ℕ). take m (drop at bytes) ++ take n r) (drop-drop m at bytes))

  chunk_then : {ys : List ℕ} (at m n k : ℕ) → k ≡ at + m → ys ≡ chunk k n → chunk at m ++ ys ≡ chunk at (m + n)
  chunk_then at m n k e p = ap (λ (r : List ℕ). chunk at m ++ r) (p ∙ ap (λ (i : ℕ). chunk i n) e) ∙ chunk-append at m n

  pub rows-chunk : (at width n : ℕ) → rows (λ i. chunk (at + width * i) width) n ≡ chunk at (width * n)
  unfolding rows
  rows-chunk at width zero = rw (nothing width)
    where
      nothing : (w : ℕ) → w * 0 ≡ 0
      nothing w = omega arith
  rows-chunk at width (suc n) =
      ap (λ (r : List ℕ). r ++ chunk (at + width * n) width) (rows-chunk at width n)
      ∙ chunk-append at (width * n) width ∙ ap (chunk at) (sym (mul-suc width n))

  module _ (small : (i : ℕ) → get_or bytes i 0 < 256) where
    -- a number that is read is written back
    pub number-chunk : (n at : ℕ) → at + n ≤ length bytes → bytes_of n (little n bytes at) ≡ chunk at n
    number-chunk n at h = bytes_of_little n bytes at small h

    one_byte : (at : ℕ) → little 1 bytes at ≡ get_or bytes at 0
    unfolding little
    one_byte at = omega arith

    pub byte_chunk : (at : ℕ) → at + 1 ≤ length bytes → bytes_of 1 (get_or bytes at 0) ≡ chunk at 1
    byte_chunk at h = ap (bytes_of 1) (sym (one_byte at)) ∙ number-chunk 1 at h

    pub block_chunk : (version at : ℕ) → at + block_size version ≤ length bytes → block_bytes version (block_in version bytes at) ≡ chunk at (block_size version)
    block_chunk version at h =
        let n = most_pairs version in
        let pairs = number-chunk n (at + 6) (omega arith) in
        let count = ap₂ ◌++◌ (byte_chunk (at + 5) (omega arith)) refl ∙ chunk_then (at + 5) 1 n (at + 6) (omega arith) pairs in
        let label = ap₂ ◌++◌ (byte_chunk (at + 4) (omega arith)) refl ∙ chunk_then (at + 4) 1 (1 + n) (at + 5) (omega arith) count in
        let policy = ap₂ ◌++◌ (byte_chunk (at + 3) (omega arith)) refl ∙ chunk_then (at + 3) 1 (1 + (1 + n)) (at + 4) (omega arith) label in
        let annotation = ap₂ ◌++◌ (byte_chunk (at + 2) (omega arith)) refl ∙ chunk_then (at + 2) 1 (1 + (1 + (1 + n))) (at + 3) (omega arith) policy in
        let all : 2 + (1 + (1 + (1 + (1 + n)))) ≡ block_size version = omega arith in
        ap₂ ◌++◌ (number-chunk 2 at (omega arith)) refl ∙ chunk_then at 2 (1 + (1 + (1 + (1 + n)))) (at + 2) refl annotation ∙ ap (chunk at) all

    pub instruction-chunk : (at : ℕ) → at + 12 ≤ length bytes → instruction_bytes (instruction_in bytes at) ≡ chunk at 12
    instruction-chunk at h =
        let operand = number-chunk 8 (at + 4) (omega arith) in
        let kind = ap₂ ◌++◌ (byte_chunk (at + 3) (omega arith)) refl ∙ chunk_then (at + 3) 1 8 (at + 4) (omega arith) operand in
        let s = ap₂ ◌++◌ (byte_chunk (at + 2) (omega arith)) refl ∙ chunk_then (at + 2) 1 9 (at + 3) (omega arith) kind in
        let r = ap₂ ◌++◌ (byte_chunk (at + 1) (omega arith)) refl ∙ chunk_then (at + 1) 1 10 (at + 2) (omega arith) s in
        ap₂ ◌++◌ (byte_chunk at (omega arith)) refl ∙ chunk_then at 1 11 (at + 1) refl r
