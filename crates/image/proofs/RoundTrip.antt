-- The round trip: an accepted image is written back byte for byte, an accepted program read again is that program, two accepted images of
-- one program are the same image, and the writer accepts exactly the programs that some image reads to.
use mathlib.Core.Path.{◌≡◌, refl, sym, ap, ap₂, ◌∙◌, subst}
use mathlib.Core.List.{List}
use Prim.Native.Nat.{ℕ}
use native.Mathlib.Omega.{arith}
use lib.ListN.{length}
use lib.Dec.{eqb}
use borrow.Author.Tests.{eqb-true, eq-eqb}
use Rattle.image.specs.declared.Block.{Block}
use Rattle.image.specs.declared.Instruction.{Instruction}
use Rattle.image.specs.Layout.{block_place, instruction_place, image_length, program_cells, version_of, block_count, instruction_count}
use Rattle.image.specs.Layout.{block_of, instruction_of, block_in, instruction_in, buffer, cells_in, image_of, trimmed}
use Rattle.image.specs.Questions.{version_no, counts_no, records_no, program_no}
use Rattle.image.specs.Doors.{header_no, image_no, write_no}
use Rattle.image.specs.RoundTrip.{Bytes, Cells, Writes, RoundTrip}
use Rattle.image.proofs.Asked.{ask_yes, or_else_both, or_else_yes}
use Rattle.image.proofs.Counts.{Counted, counted, program-parts, program-counted, accept_program}
use Rattle.image.proofs.Buffer.{buffer-length, buffer-version, buffer-blocks, buffer-instructions, buffer_block, buffer-instruction, buffer-same}
use Rattle.image.proofs.Header.{Header, header, headed, cells_in_version, cells_in_counts, cells_in_length}
use Rattle.image.proofs.Accepted.{Accepted, accepted}
use Rattle.image.proofs.Written.{image-length}
use Rattle.image.proofs.SmallBytes.{image-small}
use Rattle.image.proofs.WrittenBack as back
use Rattle.image.proofs.ReadBack.{blocks_back, version_back, instructions_back, mark_back, block_back, instruction_back}
use Rattle.image.proofs.Alike.{Alike, alike_sym, records_yes}

-- ---- acceptance, taken apart and put together

pub image_accepted : (bytes : List ℕ) → image_no bytes ≡ 0 → Header bytes × (records_no (cells_in bytes) ≡ 0)
unfolding image_no
image_accepted bytes h = let p = or_else_both (header_no bytes) (records_no (cells_in bytes)) h in (header bytes p.0, p.1)

accept_image : (bytes : List ℕ) → Header bytes → records_no (cells_in bytes) ≡ 0 → image_no bytes ≡ 0
unfolding image_no
accept_image bytes h r = or_else_yes (header_no bytes) (records_no (cells_in bytes)) (headed bytes h) ∙ r

writes-parts : (cells : List ℕ) → Writes cells → (program_no cells ≡ 0) × (length cells ≡ program_cells)
unfolding write_no
writes-parts cells h =
    let p = or_else_both (program_no cells) _ h in
    (p.0, eqb-true (length cells) program_cells (ask_yes (eqb (length cells) program_cells) 15 _ tt p.1).0)

accept_writes : (cells : List ℕ) → program_no cells ≡ 0 → length cells ≡ program_cells → Writes cells
unfolding write_no
accept_writes cells p e =
    let size = image_length (version_of cells) (block_count cells) (instruction_count cells) in
    or_else_yes (program_no cells) _ p ∙ rw (eq-eqb (length cells) program_cells e, eq-eqb size size refl)

-- ---- image to program and back

module _ (bytes : List ℕ) (h : image_no bytes ≡ 0) where
  abbrev got : Header bytes × (records_no (cells_in bytes) ≡ 0)
  got = image_accepted bytes h

  read_accepted : program_no (cells_in bytes) ≡ 0
  read_accepted =
      accept_program (cells_in bytes) (ap version_no (cells_in_version bytes) ∙ got.0.version) (cells_in_counts bytes got.0.counts) got.1

  pub read_writes : Writes (cells_in bytes)
  read_writes = accept_writes (cells_in bytes) read_accepted (cells_in_length bytes)

  pub same_bytes_lem : Bytes bytes → image_of (cells_in bytes) ≡ bytes
  same_bytes_lem small = back.written_back bytes small got.0

-- ---- a program and its trimmed buffer

trimmed-version : (cells : List ℕ) → version_of (trimmed cells) ≡ version_of cells
unfolding trimmed
trimmed-version cells = buffer-version (version_of cells) (block_count cells) (instruction_count cells) _ _

trimmed-counts : (cells : List ℕ) → (block_count (trimmed cells) ≡ block_count cells) × (instruction_count (trimmed cells) ≡ instruction_count cells)
unfolding trimmed
trimmed-counts cells = (
  buffer-blocks (version_of cells) (block_count cells) (instruction_count cells) _ _,
  buffer-instructions (version_of cells) (block_count cells) (instruction_count cells) _ _,
)

trimmed-alike : (cells : List ℕ) → Counted (block_count cells) (instruction_count cells) → Alike cells (trimmed cells)
unfolding trimmed
trimmed-alike cells k = record {
  version = sym (trimmed-version cells);
  blocks = sym (trimmed-counts cells).0;
  instructions = sym (trimmed-counts cells).1;
  block = λ b q. sym (buffer_block (version_of cells) (block_count cells) (instruction_count cells) _ _ k.blocks_fit k.instructions_fit b q);
  instruction = λ i q. sym (buffer-instruction (version_of cells) (block_count cells) (instruction_count cells) _ _ k.blocks_fit k.instructions_fit i q);
}

trimmed-length : (cells : List ℕ) → length (trimmed cells) ≡ program_cells
unfolding trimmed
trimmed-length cells = buffer-length (version_of cells) (block_count cells) (instruction_count cells) _ _

-- ---- program to image and back

module _ (cells : List ℕ) (words : Cells cells) (ok : program_no cells ≡ 0) where
  abbrev a : Accepted cells
  a = accepted cells ok

  abbrev image : List ℕ
  image = image_of cells

  abbrev k : Counted (block_count cells) (instruction_count cells)
  k = counted (block_count cells) (instruction_count cells) (program-counted cells ok)

  image-header : Header image
  image-header = record {
    long = omega (arith, image-length cells);
    mark = mark_back cells a words;
    version = ap version_no (version_back cells a words) ∙ (program-parts cells ok).0;
    counts = rw (blocks_back cells a words, instructions_back cells a words) (program-counted cells ok);
    size = rw (version_back cells a words, blocks_back cells a words, instructions_back cells a words) (image-length cells);
  }

  -- the same records, at the version and the counts that were written
  recount : {v w m n i j : ℕ} (f : ℕ → ℕ → Block) (g : ℕ → ℕ → ℕ → Instruction) → v ≡ w → m ≡ n → i ≡ j
      → buffer v m i (f v) (g v m) ≡ buffer w n j (f w) (g w n)
  recount {w = w} {m = m} {i = i} f g e p q =
      ap (λ (u : ℕ). buffer u m i (f u) (g u m)) e ∙ ap₂ (λ (x y : ℕ). buffer w x y (f w) (g w x)) p q

  pub same-program : cells_in image ≡ trimmed cells
  unfolding cells_in trimmed
  same-program =
      recount (λ v b. block_in v image (block_place v b)) (λ v n i. instruction_in image (instruction_place v n i))
      (version_back cells a words) (blocks_back cells a words) (instructions_back cells a words)
      ∙ buffer-same (version_of cells) (block_count cells) (instruction_count cells) _ (block_of cells) _ (instruction_of cells) (block_back cells a words) (instruction_back cells a words)

  pub image_read : image_no image ≡ 0
  image_read =
      accept_image image image-header
      (rw same-program (records_yes cells (trimmed cells) (trimmed-alike cells k) (trimmed-length cells) k.blocks_fit k.instructions_fit (program-parts cells ok).2))

-- ---- the statement

accepts_from : (cells : List ℕ) → length cells ≡ program_cells → (bytes : List ℕ) → image_no bytes ≡ 0 → cells_in bytes ≡ trimmed cells → Writes cells
accepts_from cells e bytes h p =
    let ok : program_no (trimmed cells) ≡ 0 = subst (λ (l : List ℕ). program_no l ≡ 0) p (read_accepted bytes h) in
    let t = program-parts (trimmed cells) ok in
    let n = trimmed-counts cells in
    let known : version_no (version_of cells) ≡ 0 = sym (ap version_no (trimmed-version cells)) ∙ t.0 in
    let counts : counts_no (block_count cells) (instruction_count cells) ≡ 0 = sym (ap₂ counts_no n.0 n.1) ∙ t.1 in
    let k = counted (block_count cells) (instruction_count cells) counts in
    let r = records_yes (trimmed cells) cells (alike_sym (trimmed-alike cells k)) e (omega (arith, n.0, k.blocks_fit)) (omega (arith, n.1, k.instructions_fit)) t.2 in
    accept_writes cells (accept_program cells known counts r) e

pub round_trip : RoundTrip
round_trip = record {
  written_back = λ bytes small h. (read_writes bytes h, same_bytes_lem bytes h small);
  read_again = λ cells words w. let p = writes-parts cells w in (image_read cells words p.0, same-program cells words p.0);
  one_image = λ x y s t h k e. sym (same_bytes_lem x h s) ∙ ap image_of e ∙ same_bytes_lem y k t;
  some_image = λ cells words w. let p = writes-parts cells w in (image_of cells, image-small cells, image_read cells words p.0, same-program cells words p.0);
  from_image = accepts_from;
}
