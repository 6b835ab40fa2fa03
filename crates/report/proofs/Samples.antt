-- Samples of the texts, computed.
use mathlib.Core.Path.{◌≡◌, refl}
use mathlib.Core.List.{[], ◌∷◌}
use lib.IntN.{pos, negsuc}
use Rattle.task.specs.declared.Value.TheVariants.{Int, Label, Record}
use Rattle.report.specs.Words.{digits, decimal, signed}
use Rattle.report.specs.Text.{register_line, refused_text}

zero_digit : decimal 0 ≡ 48 ∷ []
unfolding digits
zero_digit = refl

one-digit : decimal 7 ≡ 55 ∷ []
unfolding digits
one-digit = refl

two_digits : decimal 10 ≡ 49 ∷ 48 ∷ []
unfolding digits
two_digits = refl

-- the greatest number of 64 bits
twenty_digits : decimal 18446744073709551615 ≡ 49 ∷ 56 ∷ 52 ∷ 52 ∷ 54 ∷ 55 ∷ 52 ∷ 52 ∷ 48 ∷ 55 ∷ 51 ∷ 55 ∷ 48 ∷ 57 ∷ 53 ∷ 53 ∷ 49 ∷ 54 ∷ 49 ∷ 53 ∷ []
unfolding digits
twenty_digits = refl

-- `negsuc n` is -(n + 1), so this is -9223372036854775808
least-integer : signed (negsuc 9223372036854775807) ≡ 45 ∷ 57 ∷ 50 ∷ 50 ∷ 51 ∷ 51 ∷ 55 ∷ 50 ∷ 48 ∷ 51 ∷ 54 ∷ 56 ∷ 53 ∷ 52 ∷ 55 ∷ 55 ∷ 53 ∷ 56 ∷ 48 ∷ 56 ∷ []
unfolding digits
least-integer = refl

greatest-integer : signed (pos 9223372036854775807) ≡ 57 ∷ 50 ∷ 50 ∷ 51 ∷ 51 ∷ 55 ∷ 50 ∷ 48 ∷ 51 ∷ 54 ∷ 56 ∷ 53 ∷ 52 ∷ 55 ∷ 55 ∷ 53 ∷ 56 ∷ 48 ∷ 55 ∷ []
unfolding digits
greatest-integer = refl

-- r0 int 12, r1 rec 2 0 and r15 lab 3
integer-line : register_line 0 (Int (pos 12)) ≡ 114 ∷ 48 ∷ 32 ∷ 105 ∷ 110 ∷ 116 ∷ 32 ∷ 49 ∷ 50 ∷ 10 ∷ []
unfolding digits register_line
integer-line = refl

record_line : register_line 1 (Record 2 0) ≡ 114 ∷ 49 ∷ 32 ∷ 114 ∷ 101 ∷ 99 ∷ 32 ∷ 50 ∷ 32 ∷ 48 ∷ 10 ∷ []
unfolding digits register_line
record_line = refl

label-line : register_line 15 (Label 3) ≡ 114 ∷ 49 ∷ 53 ∷ 32 ∷ 108 ∷ 97 ∷ 98 ∷ 32 ∷ 51 ∷ 10 ∷ []
unfolding digits register_line
label-line = refl

-- refused 10
refusal : refused_text 10 ≡ 114 ∷ 101 ∷ 102 ∷ 117 ∷ 115 ∷ 101 ∷ 100 ∷ 32 ∷ 49 ∷ 48 ∷ 10 ∷ []
unfolding digits
refusal = refl
