-- The run program's input: question 10 before all else, then the reader's, then start's but 13, which no job's bytes can be a no to; the run
-- and the replay of a job put 15 last.
use Rattle.std.specs.Prelude.{List, [], ◌∷◌, ◌++◌, ℕ, ◌*◌, ◌/◌, ◌%◌, length, set, take, replicate}
use Rattle.cases.specs.ProgramF.{image_f}
use Rattle.doors.specs.Doors.{Asked, ◌gets◌, Row, ◌gives◌, job, run_job, replay, or_later}
use Rattle.doors.specs.Fields.{single}
use Rattle.doors.specs.Images.{headers, some_records}

-- 16 bits, little-endian
abbrev pub two : ℕ → List ℕ
two n = n % 256 ∷ n / 256 ∷ []

-- image length (16 bits), image, P (8 bits), interval (16 bits), 16 registers (64 bits), word count (16 bits), words (64 bits), which are 0
abbrev pub job_of : List ℕ → ℕ → ℕ → ℕ → ℕ → List ℕ
job_of image places interval r0 words =
    two (length image)
    ++ (image ++ (places ∷ two interval ++ (r0 ∷ replicate 127 0 ++ (two words ++ replicate (8 * words) 0))))

-- F with P 2, interval 0, r0 4, other registers 0, no words: 291 bytes
unfoldable pub job_f : List ℕ
job_f = job_of image_f 2 0 4 0

-- an image of one block with one halt
abbrev pub small : List ℕ
small = single 14 0 0 0

-- an image in a job of P 3, lent nothing; and with a byte too many after it
abbrev pub at_jobs : List Asked → List Row
at_jobs [] = []
at_jobs ((image gets n) ∷ images) =
    job (job_of image 3 0 0 0) gives or_later n 11
    ∷ run_job (job_of image 3 0 0 0) 0 gives or_later n 11
    ∷ replay (job_of image 3 0 0 0) 0 gives or_later n 11
    ∷ job (job_of image 3 0 0 0 ++ (0 ∷ [])) gives 10
    ∷ at_jobs images

unfoldable pub own_rows : List Row
own_rows =
    -- Does the input end exactly after its last word? (10) No image length, half of one, nothing after it, a byte too few, one too many
    job job_f gives 0
    ∷ job [] gives 10
    ∷ job (0 ∷ []) gives 10
    ∷ job (0 ∷ 0 ∷ []) gives 10
    ∷ job (take 290 job_f) gives 10
    ∷ job (job_f ++ (0 ∷ [])) gives 10
    -- the image, and nothing after it
    ∷ job (take 158 job_f) gives 10
    -- an image length of 157, or 155
    ∷ job (set job_f 0 157) gives 10
    ∷ job (set job_f 0 155) gives 10
    -- one word, of which there are 0, 7 or 9 bytes
    ∷ job (set job_f 289 1) gives 10
    ∷ job (set job_f 289 1 ++ replicate 7 0) gives 10
    ∷ job (set job_f 289 1 ++ replicate 9 0) gives 10
    ∷ job (set job_f 289 1 ++ replicate 8 0) gives 0
    ∷ job (job_of small 2 0 0 256) gives 0
    -- P allowed? (11) With interval 7 too
    ∷ job (job_of small 0 0 0 0) gives 11
    ∷ job (job_of small 3 0 0 0) gives 11
    ∷ job (job_of small 64 0 0 0) gives 0
    ∷ job (job_of small 128 0 0 0) gives 11
    ∷ job (job_of small 3 7 0 0) gives 11
    -- Interval 0 or 8 to 65,535? (12) With 4,097 words too
    ∷ job (job_of small 2 7 0 0) gives 12
    ∷ job (job_of small 2 8 0 0) gives 0
    ∷ job (job_of small 2 65535 0 0) gives 0
    ∷ job (job_of small 2 7 0 4097) gives 12
    -- At most 4,096 words? (14)
    ∷ job (job_of small 2 0 0 4096) gives 0
    ∷ job (job_of small 2 0 0 4097) gives 14
    -- Every lent buffer of the length docs/ names? (15) The report's 424 bytes, the state's 83,992. Last: a length of 0 beside 12, 14 and 10
    ∷ run_job job_f 424 gives 0
    ∷ run_job job_f 423 gives 15
    ∷ run_job (job_of small 2 7 0 0) 0 gives 12
    ∷ run_job (job_of small 2 0 0 4097) 0 gives 14
    ∷ run_job [] 0 gives 10
    ∷ replay job_f 83992 gives 0
    ∷ replay job_f 83991 gives 15
    ∷ replay (job_of small 2 7 0 0) 0 gives 12
    ∷ replay (job_of small 2 0 0 4097) 0 gives 14
    ∷ replay [] 0 gives 10
    ∷ []

unfoldable pub job_rows : List Row
job_rows = at_jobs headers ++ (at_jobs some_records ++ own_rows)
