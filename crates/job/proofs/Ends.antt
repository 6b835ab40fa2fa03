-- What question 10 tells of a job's bytes.
use mathlib.Core.Path.{◌≡◌}
use mathlib.Core.Bool.{Bool, true, ◌&&◌}
use mathlib.Core.List.{List}
use Prim.Native.Nat.{ℕ, ◌+◌, ◌*◌, ◌≤◌}
use lib.Dec.{eqb, leb}
use lib.ListN.{length}
use borrow.Author.Tests.{eqb-true, leb-true}
use Rattle.facts.proofs.Tests.{both_true}
use Rattle.job.specs.Job.{image_size, word_count, ends_exactly}

-- every field is inside, and nothing comes after the last word
pub record Ends (bytes : List ℕ) : Type 0 where
  pub room : 135 + image_size bytes ≤ length bytes
  pub whole : length bytes ≡ 135 + image_size bytes + 8 * word_count bytes

pub ends : (bytes : List ℕ) → ends_exactly bytes ≡ true → Ends bytes
unfolding ends_exactly
ends bytes h =
    let n : ℕ = 135 + image_size bytes in
    let size : ℕ = n + 8 * word_count bytes in
    let fits : Bool = leb n (length bytes) in
    let exact : Bool = eqb (length bytes) size in
    let two = both_true fits exact (both_true (leb 2 (length bytes)) (fits && exact) h).1 in
    record { room = leb-true n (length bytes) two.0; whole = eqb-true (length bytes) size two.1 }
