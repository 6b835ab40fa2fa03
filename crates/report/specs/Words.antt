-- Words and decimals, as lists of bytes, and what a function that writes them leaves.
use Rattle.std.specs.Prelude.{◌≡◌, true, false, List, [], ◌∷◌, ◌++◌, ℕ, zero, suc, ◌+◌, ◌/◌, ◌%◌, ◌≤◌, ltb, ℤ, pos, negsuc, length}
use Rattle.std.proofs.lemmas.List.Edits.{sets}

-- `after` is the buffer with the text laid at `at`, and `next` the place after it, at most `most` bytes on
pub record Written (most : ℕ) (before : List ℕ) (at : ℕ) (text after : List ℕ) (next : ℕ) : Type 0 where
  pub stored : after ≡ sets before at text
  pub ends : next ≡ at + length text
  pub short : next ≤ at + most

-- the byte of n's last digit; that of `0` is 48
abbrev pub digit : ℕ → ℕ
digit n = 48 + n % 10

-- n's last digits, fuel + 1 of them at most, the most significant first
unfoldable pub digits : ℕ → ℕ → List ℕ
digits zero n = digit n ∷ []
digits (suc fuel) n = elim (ltb n 10) [
  | true ↦ digit n ∷ []
  | false ↦ digits fuel (n / 10) ++ (digit n ∷ [])
]

-- a number of 64 bits has at most 20 digits. `proofs/ReadBack.antt` proves that they read back as the number
abbrev pub decimal : ℕ → List ℕ
decimal n = digits 19 n

-- `negsuc n` is -(n + 1); 45 is `-`
abbrev pub signed : ℤ → List ℕ
signed (pos n) = decimal n
signed (negsuc n) = 45 ∷ decimal (suc n)

-- a word, a number and the end of the line
abbrev pub line : List ℕ → ℕ → List ℕ
line word n = word ++ decimal n ++ (10 ∷ [])
