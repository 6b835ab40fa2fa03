-- Little-endian numbers: the lowest byte comes first.
use Rattle.std.specs.Prelude.{◌≡◌, ℕ, zero, suc, ◌+◌, ◌*◌, ◌/◌, ◌%◌, ◌^◌, ◌<◌, List, [], ◌∷◌, slice_index}

-- the number that the n bytes from `at` on are
unfoldable pub little : ℕ → List ℕ → ℕ → ℕ
little zero bs at = 0
little (suc n) bs at = slice_index bs at + 256 * little n bs (suc at)

-- the n low bytes of x
unfoldable pub bytes_of : ℕ → ℕ → List ℕ
bytes_of zero x = []
bytes_of (suc n) x = x % 256 ∷ bytes_of n (x / 256)

-- r is the number of the n bytes from `at` on, and below 256 ^ n
pub record NumberAt (n : ℕ) (bs : List ℕ) (at r : ℕ) : Type 0 where
  pub equal : r ≡ little n bs at
  pub below : r < 256 ^ n
