-- What stands at the front of the text's buffer.
use Rattle.std.proofs.lemmas.List.{length-replicate}
use Rattle.std.proofs.Common.{◌≡◌, ℕ, ◌+◌, ◌≤◌, List, length, replicate, sym, take, arith, refl, ap, ◌∙◌, take_at, subst, Result, Ok, Err, OnOk}
use Rattle.std.proofs.lemmas.List.Edits.{sets, sets-eq}
use Rattle.std.specs.declared.option.Option.{Option}
use Rattle.std.specs.Io.KnownBytes.{Appends}
use Rattle.job.specs.Run.{text_in, text_length, text_stored}

front : (xs out : List ℕ) → length xs ≤ length out → take (length xs) (sets out 0 xs) ≡ xs
front xs out room =
    let within : 0 + length xs ≤ length out = omega arith in
    ap (take (length xs)) (sets-eq xs out 0 within) ∙ take_at xs _ (length xs) refl

-- the text, where it fits
pub text_front : (job out : List ℕ) (budget n : ℕ) (stored : List ℕ) → length out ≡ 1024 → n ≡ text_length job budget (length out)
    → stored ≡ text_stored job budget out → n ≤ length out → take n stored ≡ text_in job budget
unfolding text_length text_stored
text_front job out budget n stored room is_n is_stored within =
    let e : n ≡ length (text_in job budget) = rw room at is_n in
    let s : stored ≡ sets out 0 (text_in job budget) = rw room at is_stored in
    let fits : length (text_in job budget) ≤ length out = rw (← e) within in
    rw (e, s) (front (text_in job budget) out fits)

-- what was printed
pub printed : {U E : Type 0} (r : Result U E) (a b : Option (List ℕ)) (n : ℕ) (stored text : List ℕ) → (n ≤ length stored → take n stored ≡ text)
    → OnOk r (n ≤ length stored) → OnOk r (Appends a b (take n stored)) → OnOk r (Appends a b text)
printed (Ok u) a b n stored text same room bytes = subst (Appends a b) (same room) bytes
printed (Err e) a b n stored text same room bytes = tt

-- a buffer of so many zeros
pub zeros : (n : ℕ) → length {A = ℕ} (replicate n 0) ≡ n
zeros n = length-replicate {A = ℕ} n 0

pub counted : (n : ℕ) → n ≡ length {A = ℕ} (replicate n 0)
counted n = sym (zeros n)
