-- The run program's input, a job, and the questions put to it. Little-endian:
-- image length (16 bits), image, P (8 bits), interval (16 bits), 16 registers (64 bits), word count (16 bits), words (64 bits).
use Rattle.std.specs.Prelude.{Bool, ◌&&◌, List, ℕ, ◌+◌, ◌*◌, eqb, leb, ℤ, length, get_or, take, drop, replicate}
use Rattle.int64.specs.Little.{little}
use Rattle.image.specs.Layout.{program_cells, cells_in}
use Rattle.image.specs.Questions.{ask, or_else}
use Rattle.image.specs.Doors.{image_no, unless_refused}
use Rattle.image.specs.Walked.{scanned}
use Rattle.machine.specs.Starting.{start_no_by}
use Rattle.state.specs.Numbers.{integers_in}

-- ---- What the bytes hold

abbrev pub image_size : List ℕ → ℕ
image_size bytes = little 2 bytes 0

abbrev pub job_image : List ℕ → List ℕ
job_image bytes = take (image_size bytes) (drop 2 bytes)

abbrev pub job_places : List ℕ → ℕ
job_places bytes = get_or bytes (2 + image_size bytes) 0

abbrev pub job_interval : List ℕ → ℕ
job_interval bytes = little 2 bytes (3 + image_size bytes)

abbrev pub job_registers : List ℕ → List ℤ
job_registers bytes = integers_in bytes (5 + image_size bytes) 16

abbrev pub word_count : List ℕ → ℕ
word_count bytes = little 2 bytes (133 + image_size bytes)

abbrev pub job_words : List ℕ → List ℤ
job_words bytes = integers_in bytes (135 + image_size bytes) (word_count bytes)

-- ---- The questions

-- does the input end exactly after its last word?
unfoldable pub ends_exactly : List ℕ → Bool
ends_exactly bytes =
    leb 2 (length bytes)
    && (leb (135 + image_size bytes) (length bytes) && eqb (length bytes) (135 + image_size bytes + 8 * word_count bytes))

abbrev pub length_no : List ℕ → ℕ
length_no bytes = ask (ends_exactly bytes) 10 0

-- 10 before all else, then the reader's questions, then start's
unfoldable pub job_no : List ℕ → ℕ
job_no bytes =
    or_else (length_no bytes)
    (or_else (image_no (job_image bytes))
    (start_no_by (cells_in (job_image bytes)) (job_places bytes) (job_interval bytes) 16 (word_count bytes)))

-- ---- A cleared program buffer after the questions

-- the job's image read into it; a job that does not end exactly leaves it as it was
unfoldable pub job_scanned : List ℕ → List ℕ
job_scanned bytes = unless_refused (length_no bytes) (scanned (job_image bytes)) (replicate program_cells 0)
