-- What the doors answer, and what they leave in the lent buffers.
use Rattle.std.specs.Prelude.{Bool, cond, ◌&&◌, List, ℕ, length, get_or, eqb, leb}
use Rattle.image.specs.Layout.{version_in, blocks_in, instructions_in, image_length, program_cells, version_of, block_count, instruction_count, cells_in}
use Rattle.image.specs.Questions.{ask, or_else, version_no, counts_no, records_no, program_no}

-- what a lent buffer holds after a call: something new where the call was accepted, else what it held
unfoldable pub unless_refused : {A : Type 0} → ℕ → A → A → A
unless_refused answer new old = cond (eqb answer 0) new old

-- the letters TPB
unfoldable pub mark_in : List ℕ → Bool
mark_in bytes = eqb (get_or bytes 0 0) 84 && (eqb (get_or bytes 1 0) 80 && eqb (get_or bytes 2 0) 66)

-- Reading an image, questions 1 to 9
unfoldable pub header_no : List ℕ → ℕ
header_no bytes =
    ask (leb 8 (length bytes)) 1  -- 8 bytes or more?
    (ask (mark_in bytes) 2  -- mark TPB?
    (or_else (version_no (version_in bytes))  -- 3
    (or_else (counts_no (blocks_in bytes) (instructions_in bytes))  -- 4
    (ask (eqb (length bytes) (image_length (version_in bytes) (blocks_in bytes) (instructions_in bytes))) 5 0))))  -- the length?

unfoldable pub image_no : List ℕ → ℕ
image_no bytes = or_else (header_no bytes) (records_no (cells_in bytes))

-- the reader: every lent buffer of the length docs/ names? (15, last)
unfoldable pub read_no : List ℕ → ℕ → ℕ
read_no bytes lent = or_else (image_no bytes) (ask (eqb lent program_cells) 15 0)

-- the writer: 3, 4 and 6 to 9, then 15
unfoldable pub write_no : List ℕ → ℕ → ℕ
write_no cells lent =
    or_else (program_no cells)
    (ask (eqb (length cells) program_cells) 15
    (ask (eqb lent (image_length (version_of cells) (block_count cells) (instruction_count cells))) 15 0))

-- reading an image and writing its program back
unfoldable pub rewrite_no : List ℕ → ℕ → ℕ
rewrite_no bytes lent = or_else (image_no bytes) (ask (eqb lent (length bytes)) 15 0)
