-- What the accessors find in a program buffer that was filled from records.
use mathlib.Core.Path.{◌≡◌, refl, sym, ap, ◌∙◌}
use mathlib.Core.List.{List, [], ◌∷◌}
use Prim.Native.Nat.{ℕ, ◌+◌, ◌*◌, ◌<◌, ◌≤◌}
use native.Mathlib.Omega.{arith}
use lib.ListN.{length, get_or, replicate, length-replicate}
use lib.Seq.{sets, length-sets, get_or-append-add}
use Rattle.int64.proofs.Stores.{get_d_sets_before, get_d_sets-inside}
use Rattle.image.specs.declared.Block.{Block}
use Rattle.image.specs.declared.Instruction.{Instruction}
use Rattle.image.specs.Layout.{rows, program_cells, block_cell, instruction_cell, version_of, block_count, instruction_count, block_of, block_cells, instruction_of, instruction_cells, buffer}
use Rattle.image.proofs.Rows.{length-rows, get_d_rows, rows_same}

module _ (version blocks instructions : ℕ) (block : ℕ → Block) (instruction : ℕ → Instruction) where
  abbrev front : List ℕ
  front = version ∷ blocks ∷ instructions ∷ rows (λ b. block_cells (block b)) blocks

  abbrev filled : List ℕ
  filled = sets (replicate program_cells 0) 0 front

  abbrev whole : List ℕ
  whole = buffer version blocks instructions block instruction

  zeros-length : length {A = ℕ} (replicate program_cells 0) ≡ program_cells
  zeros-length = length-replicate {A = ℕ} program_cells 0

  front_length : length front ≡ block_cell blocks
  front_length = omega (arith, length-rows (λ b. block_cells (block b)) 6 (λ b. refl) blocks)

  pub buffer-length : length whole ≡ program_cells
  unfolding buffer
  buffer-length =
      length-sets filled (instruction_cell 0) (rows (λ i. instruction_cells (instruction i)) instructions)
      ∙ length-sets (replicate program_cells 0) 0 front ∙ zeros-length

  in_front : (k : ℕ) → k < instruction_cell 0 → k < block_cell blocks → get_or whole k 0 ≡ get_or front k 0
  unfolding buffer
  in_front k room h =
      let e : 0 + k ≡ k = omega arith in
      get_d_sets_before filled (instruction_cell 0) (rows (λ i. instruction_cells (instruction i)) instructions) k 0 (omega arith)
      ∙ ap (λ (n : ℕ). get_or filled n 0) (sym e)
      ∙ get_d_sets-inside (replicate program_cells 0) 0 front k 0 (omega (arith, front_length)) (omega (arith, zeros-length))

  pub buffer-version : version_of whole ≡ version
  buffer-version = in_front 0 (omega arith) (omega arith)

  pub buffer-blocks : block_count whole ≡ blocks
  buffer-blocks = in_front 1 (omega arith) (omega arith)

  pub buffer-instructions : instruction_count whole ≡ instructions
  buffer-instructions = in_front 2 (omega arith) (omega arith)

  module _ (fit : blocks ≤ 128) (fit' : instructions ≤ 1024) where
    block_cell_lem : (b j k : ℕ) → b < blocks → j < 6 → k ≡ 3 + (6 * b + j) → get_or whole k 0 ≡ get_or (block_cells (block b)) j 0
    block_cell_lem b j k h q e =
        in_front k (omega arith) (omega arith) ∙ ap (λ (n : ℕ). get_or front n 0) e
        ∙ get_or-append-add (version ∷ blocks ∷ instructions ∷ []) (rows (λ b. block_cells (block b)) blocks) (6 * b + j) 0
        ∙ get_d_rows (λ b. block_cells (block b)) 6 (λ b. refl) blocks b j h q

    pub buffer_block : (b : ℕ) → b < blocks → block_of whole b ≡ block b
    buffer_block b h = λ i. record {
      first = block_cell_lem b 0 (block_cell b) h (omega arith) (omega arith) i;
      annotation = block_cell_lem b 1 (block_cell b + 1) h (omega arith) (omega arith) i;
      policy = block_cell_lem b 2 (block_cell b + 2) h (omega arith) (omega arith) i;
      label = block_cell_lem b 3 (block_cell b + 3) h (omega arith) (omega arith) i;
      pairs = block_cell_lem b 4 (block_cell b + 4) h (omega arith) (omega arith) i;
      packed = block_cell_lem b 5 (block_cell b + 5) h (omega arith) (omega arith) i;
    }

    instruction_cell_lem : (x j k : ℕ) → x < instructions → j < 5 → k ≡ 771 + (5 * x + j) → get_or whole k 0 ≡ get_or (instruction_cells (instruction x)) j 0
    unfolding buffer
    instruction_cell_lem x j k h q e =
        let r = length-rows (λ i. instruction_cells (instruction i)) 5 (λ i. refl) instructions in
        ap (λ (n : ℕ). get_or whole n 0) e
        ∙ get_d_sets-inside filled (instruction_cell 0) (rows (λ i. instruction_cells (instruction i)) instructions) (5 * x + j) 0
        (omega (arith, r)) (omega (arith, length-sets (replicate program_cells 0) 0 front, zeros-length))
        ∙ get_d_rows (λ i. instruction_cells (instruction i)) 5 (λ i. refl) instructions x j h q

    pub buffer-instruction : (x : ℕ) → x < instructions → instruction_of whole x ≡ instruction x
    buffer-instruction x h = λ i. record {
      opcode = instruction_cell_lem x 0 (instruction_cell x) h (omega arith) (omega arith) i;
      r = instruction_cell_lem x 1 (instruction_cell x + 1) h (omega arith) (omega arith) i;
      s = instruction_cell_lem x 2 (instruction_cell x + 2) h (omega arith) (omega arith) i;
      kind = instruction_cell_lem x 3 (instruction_cell x + 3) h (omega arith) (omega arith) i;
      operand = instruction_cell_lem x 4 (instruction_cell x + 4) h (omega arith) (omega arith) i;
    }

-- buffers of equal records are equal
pub buffer-same : (version blocks instructions : ℕ) (f g : ℕ → Block) (u v : ℕ → Instruction) → ((b : ℕ) → b < blocks → f b ≡ g b)
    → ((i : ℕ) → i < instructions → u i ≡ v i) → buffer version blocks instructions f u ≡ buffer version blocks instructions g v
unfolding buffer
buffer-same version blocks instructions f g u v p q =
    rw (rows_same (λ b. block_cells (f b)) (λ b. block_cells (g b)) blocks (λ b h. ap block_cells (p b h)), rows_same (λ i. instruction_cells (u i)) (λ i. instruction_cells (v i)) instructions (λ i h. ap instruction_cells (q i h)))
