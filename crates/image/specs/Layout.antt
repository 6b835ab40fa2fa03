-- A program in its two forms: the bytes of an image, and the cells of a program buffer.
use Rattle.std.specs.Prelude.{cond, List, [], ◌∷◌, ◌++◌, ℕ, zero, suc, ◌+◌, ◌*◌, get_or, replicate, eqb}
use Rattle.std.proofs.lemmas.List.Edits.{sets}
use Rattle.int64.specs.Little.{little, bytes_of}
use Rattle.image.specs.declared.Block.{Block}
use Rattle.image.specs.declared.Instruction.{Instruction}
use Rattle.image.specs.Program.{Program}

-- n rows, one after the other: f 0, f 1, ..
unfoldable pub rows : (ℕ → List ℕ) → ℕ → List ℕ
rows f zero = []
rows f (suc n) = rows f n ++ f n

-- ---- The image. Little-endian, offsets in bytes. 0: TPB. 3: version. 5: number of blocks. 6: number of instructions.

abbrev pub mark : List ℕ
mark = 84 ∷ 80 ∷ 66 ∷ []

abbrev pub version_in : List ℕ → ℕ
version_in bytes = little 2 bytes 3

abbrev pub blocks_in : List ℕ → ℕ
blocks_in bytes = get_or bytes 5 0

abbrev pub instructions_in : List ℕ → ℕ
instructions_in bytes = little 2 bytes 6

-- how many pairs a block has at most, and its record has pair bytes: four in version 1, eight in version 2
abbrev pub most_pairs : ℕ → ℕ
most_pairs version = cond (eqb version 2) 8 4

-- so a block record is 10 bytes in version 1, 14 in version 2
abbrev pub block_size : ℕ → ℕ
block_size version = 6 + most_pairs version

-- where the records of a version stand: 8 bytes, then B block records and I instruction records of 12
abbrev pub block_place : ℕ → ℕ → ℕ
block_place version b = 8 + block_size version * b

abbrev pub instruction_place : ℕ → ℕ → ℕ → ℕ
instruction_place version blocks i = block_place version blocks + 12 * i

-- the image ends where the next instruction's record would stand
abbrev pub image_length : ℕ → ℕ → ℕ → ℕ
image_length version blocks instructions = instruction_place version blocks instructions

-- the block record at an offset: first instruction (16 bits), annotation, policy, label, number of pairs, four or eight pair bytes
abbrev pub block_in : ℕ → List ℕ → ℕ → Block
block_in version bytes at = record {
  first = little 2 bytes at;
  annotation = get_or bytes (at + 2) 0;
  policy = get_or bytes (at + 3) 0;
  label = get_or bytes (at + 4) 0;
  pairs = get_or bytes (at + 5) 0;
  packed = little (most_pairs version) bytes (at + 6);
}

abbrev pub block_bytes : ℕ → Block → List ℕ
block_bytes version k =
    bytes_of 2 k.first
    ++ (bytes_of 1 k.annotation
    ++ (bytes_of 1 k.policy ++ (bytes_of 1 k.label ++ (bytes_of 1 k.pairs ++ bytes_of (most_pairs version) k.packed))))

-- the instruction record at an offset: opcode, r, s, operand kind, operand (64 bits)
abbrev pub instruction_in : List ℕ → ℕ → Instruction
instruction_in bytes at = record {
  opcode = get_or bytes at 0;
  r = get_or bytes (at + 1) 0;
  s = get_or bytes (at + 2) 0;
  kind = get_or bytes (at + 3) 0;
  operand = little 8 bytes (at + 4);
}

abbrev pub instruction_bytes : Instruction → List ℕ
instruction_bytes x =
    bytes_of 1 x.opcode
    ++ (bytes_of 1 x.r ++ (bytes_of 1 x.s ++ (bytes_of 1 x.kind ++ bytes_of 8 x.operand)))

-- ---- The program buffer: cell 0 the version, 1 the number of blocks, 2 of instructions, then room for 128 blocks and 1,024 instructions

abbrev pub program_cells : ℕ
program_cells = 5891

-- where the six cells of block b begin, and the five of instruction i
abbrev pub block_cell : ℕ → ℕ
block_cell b = 3 + 6 * b

abbrev pub instruction_cell : ℕ → ℕ
instruction_cell i = 771 + 5 * i

-- the six cells of a block
abbrev pub block_from : List ℕ → ℕ → Block
block_from cells at = record {
  first = get_or cells at 0;
  annotation = get_or cells (at + 1) 0;
  policy = get_or cells (at + 2) 0;
  label = get_or cells (at + 3) 0;
  pairs = get_or cells (at + 4) 0;
  packed = get_or cells (at + 5) 0;
}

abbrev pub block_cells : Block → List ℕ
block_cells k = k.first ∷ k.annotation ∷ k.policy ∷ k.label ∷ k.pairs ∷ k.packed ∷ []

-- the five cells of an instruction
abbrev pub instruction_from : List ℕ → ℕ → Instruction
instruction_from cells at = record {
  opcode = get_or cells at 0;
  r = get_or cells (at + 1) 0;
  s = get_or cells (at + 2) 0;
  kind = get_or cells (at + 3) 0;
  operand = get_or cells (at + 4) 0;
}

abbrev pub instruction_cells : Instruction → List ℕ
instruction_cells x = x.opcode ∷ x.r ∷ x.s ∷ x.kind ∷ x.operand ∷ []

-- the program that a buffer holds: one that lacks cell 0 has no version
abbrev pub program_of : List ℕ → Program
program_of cells = record {
  version = get_or cells 0 0;
  blocks = get_or cells 1 0;
  instructions = get_or cells 2 0;
  block = λ b. block_from cells (block_cell b);
  instruction = λ i. instruction_from cells (instruction_cell i);
}

-- its parts
abbrev pub version_of : List ℕ → ℕ
version_of cells = (program_of cells).version

abbrev pub block_count : List ℕ → ℕ
block_count cells = (program_of cells).blocks

abbrev pub instruction_count : List ℕ → ℕ
instruction_count cells = (program_of cells).instructions

abbrev pub block_of : List ℕ → ℕ → Block
block_of cells b = (program_of cells).block b

abbrev pub instruction_of : List ℕ → ℕ → Instruction
instruction_of cells i = (program_of cells).instruction i

-- the buffer of a program of a version that has these blocks and instructions: every unused cell is 0
unfoldable pub buffer : ℕ → ℕ → ℕ → (ℕ → Block) → (ℕ → Instruction) → List ℕ
buffer version blocks instructions block instruction =
    sets
    (sets (replicate program_cells 0) 0 (version ∷ blocks ∷ instructions ∷ rows (λ b. block_cells (block b)) blocks))
    (instruction_cell 0)
    (rows (λ i. instruction_cells (instruction i)) instructions)

-- ---- From one to the other

-- the cells of an image's first n blocks, and of its first n instructions
abbrev pub block_cells_in : List ℕ → ℕ → List ℕ
block_cells_in bytes n = rows (λ b. block_cells (block_in (version_in bytes) bytes (block_place (version_in bytes) b))) n

abbrev pub instruction_cells_in : List ℕ → ℕ → List ℕ
instruction_cells_in bytes n = rows (λ i. instruction_cells (instruction_in bytes (instruction_place (version_in bytes) (blocks_in bytes) i))) n

-- the buffer that an image is read into
unfoldable pub cells_in : List ℕ → List ℕ
cells_in bytes =
    buffer (version_in bytes) (blocks_in bytes) (instructions_in bytes)
    (λ b. block_in (version_in bytes) bytes (block_place (version_in bytes) b))
    (λ i. instruction_in bytes (instruction_place (version_in bytes) (blocks_in bytes) i))

-- the image that a program buffer is written to
abbrev pub header_of : List ℕ → List ℕ
header_of cells = mark ++ (bytes_of 2 (version_of cells) ++ (bytes_of 1 (block_count cells) ++ bytes_of 2 (instruction_count cells)))

unfoldable pub image_of : List ℕ → List ℕ
image_of cells =
    header_of cells
    ++ (rows (λ b. block_bytes (version_of cells) (block_of cells b)) (block_count cells)
    ++ rows (λ i. instruction_bytes (instruction_of cells i)) (instruction_count cells))

-- the same program with nothing in its unused cells: two buffers hold one program when these are equal
unfoldable pub trimmed : List ℕ → List ℕ
trimmed cells = buffer (version_of cells) (block_count cells) (instruction_count cells) (block_of cells) (instruction_of cells)
