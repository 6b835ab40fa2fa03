-- Each element of an image that is written is a byte.
use mathlib.Core.List.{List, [], ◌∷◌, ◌++◌}
use Prim.Native.Nat.{ℕ, zero, suc, ◌<◌}
use native.Mathlib.Omega.{arith}
use lib.ListN.{get_or}
use Rattle.int64.specs.Little.{bytes_of}
use Rattle.int64.proofs.Little.{bytes_of_below}
use Rattle.image.specs.declared.Block.{Block}
use Rattle.image.specs.declared.Instruction.{Instruction}
use Rattle.image.specs.Layout.{mark, rows, most_pairs, version_of, block_count, instruction_count, block_of, instruction_of, block_bytes, instruction_bytes, header_of, image_of}

abbrev Small : List ℕ → Type 0
Small l = (i : ℕ) → get_or l i 0 < 256

small_nil : Small []
small_nil i = omega arith

small_cons : (x : ℕ) (l : List ℕ) → x < 256 → Small l → Small (x ∷ l)
small_cons x l h k zero = h
small_cons x l h k (suc i) = k i

all_append : (xs ys : List ℕ) → Small xs → Small ys → Small (xs ++ ys)
all_append [] ys p q = q
all_append (x ∷ xs) ys p q = small_cons x (xs ++ ys) (p 0) (all_append xs ys (λ i. p (suc i)) q)

all_rows : (f : ℕ → List ℕ) → ((i : ℕ) → Small (f i)) → (n : ℕ) → Small (rows f n)
unfolding rows
all_rows f h zero = small_nil
all_rows f h (suc n) = all_append (rows f n) (f n) (all_rows f h n) (h n)

small_bytes : (n x : ℕ) → Small (bytes_of n x)
small_bytes n x i = bytes_of_below n x i

header-small : (v b i : ℕ) → Small (mark ++ (bytes_of 2 v ++ (bytes_of 1 b ++ bytes_of 2 i)))
header-small v b i =
    let counts = all_append (bytes_of 1 b) (bytes_of 2 i) (small_bytes 1 b) (small_bytes 2 i) in
    let version = all_append (bytes_of 2 v) (bytes_of 1 b ++ bytes_of 2 i) (small_bytes 2 v) counts in
    let letters = small_cons 84 (80 ∷ 66 ∷ []) (omega arith) (small_cons 80 (66 ∷ []) (omega arith) (small_cons 66 [] (omega arith) small_nil)) in
    all_append mark (bytes_of 2 v ++ (bytes_of 1 b ++ bytes_of 2 i)) letters version

block_small : (version : ℕ) (k : Block) → Small (block_bytes version k)
block_small version k =
    all_append (bytes_of 2 k.first) _ (small_bytes 2 k.first)
    (all_append (bytes_of 1 k.annotation) _ (small_bytes 1 k.annotation)
    (all_append (bytes_of 1 k.policy) _ (small_bytes 1 k.policy)
    (all_append (bytes_of 1 k.label) _ (small_bytes 1 k.label)
    (all_append (bytes_of 1 k.pairs) (bytes_of (most_pairs version) k.packed) (small_bytes 1 k.pairs) (small_bytes (most_pairs version) k.packed)))))

instruction-small : (x : Instruction) → Small (instruction_bytes x)
instruction-small x =
    all_append (bytes_of 1 x.opcode) _ (small_bytes 1 x.opcode)
    (all_append (bytes_of 1 x.r) _ (small_bytes 1 x.r)
    (all_append (bytes_of 1 x.s) _ (small_bytes 1 x.s)
    (all_append (bytes_of 1 x.kind) (bytes_of 8 x.operand) (small_bytes 1 x.kind) (small_bytes 8 x.operand))))

pub image-small : (cells : List ℕ) → Small (image_of cells)
unfolding image_of
image-small cells =
    all_append (header_of cells) _ (header-small (version_of cells) (block_count cells) (instruction_count cells))
    (all_append (rows (λ b. block_bytes (version_of cells) (block_of cells b)) (block_count cells)) _
    (all_rows (λ b. block_bytes (version_of cells) (block_of cells b)) (λ b. block_small (version_of cells) (block_of cells b)) (block_count cells))
    (all_rows (λ i. instruction_bytes (instruction_of cells i)) (λ i. instruction-small (instruction_of cells i)) (instruction_count cells)))
