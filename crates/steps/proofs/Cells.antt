-- Cells in bytes: written one after the other, and the first of them read.
use mathlib.Core.Path.{◌≡◌, refl, sym, ap, ◌∙◌}
use mathlib.Core.Logic.{⊎_elim}
use mathlib.Core.List.{List, [], ◌∷◌}
use Prim.Native.Nat.{ℕ, ◌+◌, ◌*◌, ◌-◌, ◌<◌, ◌≤◌}
use native.Mathlib.Omega.{arith}
use native.Mathlib.Numerals.{add-one}
use lib.ListN.{length, get_or, take, replicate, length-replicate}
use lib.Seq.{sets, take-suc, take_all, take_at, length-take-le}
use Rattle.facts.proofs.Tests.{below_or_not}
use Rattle.int64.specs.Little.{bytes_of}
use Rattle.image.specs.Layout.{program_cells}
use Rattle.image.specs.Questions.{program_no}
use Rattle.state.specs.Numbers.{in_bytes, integers_in}
use Rattle.state.specs.Reading.{table, number_at}
use Rattle.state.proofs.Laying.{numbers-placed, one_number, length-in_bytes, sets-whole}
use Rattle.state.proofs.Tables.{length-table, table_add}
use Rattle.steps.specs.Buffers.{wholes, cells_of, integers_of, program_bytes}
use Rattle.steps.proofs.Front.{front_same}

-- ---- written

pub written_none : (l cells : List ℕ) → l ≡ sets l 0 (in_bytes (take 0 cells))
unfolding in_bytes
written_none l cells = refl

pub written-more : (l l₁ l₂ cells : List ℕ) (i : ℕ) → i < length cells → l₁ ≡ sets l 0 (in_bytes (take i cells))
    → l₂ ≡ sets l₁ (8 * i) (bytes_of 8 (get_or cells i 0)) → l₂ ≡ sets l 0 (in_bytes (take (i + 1) cells))
written-more l l₁ l₂ cells i h p q =
    numbers-placed l l₁ l₂ 0 (8 * i) (take i cells) (get_or cells i 0 ∷ []) p (q ∙ ap (sets l₁ (8 * i)) (one_number (get_or cells i 0)))
    (omega (arith, length-take-le i cells (omega arith)))
    ∙ ap (λ (t : List ℕ). sets l 0 (in_bytes t)) (sym (take-suc cells i 0 h) ∙ ap (λ (n : ℕ). take n cells) (sym (add-one i)))

pub written_all : (l l₁ cells : List ℕ) (i : ℕ) → length l ≡ 8 * length cells → length cells ≤ i → l₁ ≡ sets l 0 (in_bytes (take i cells)) → l₁ ≡ in_bytes cells
written_all l l₁ cells i e h p =
    p ∙ ap (λ (t : List ℕ). sets l 0 (in_bytes t)) (take_all i cells h) ∙ sets-whole l (in_bytes cells) (length-in_bytes cells ∙ sym e)

-- ---- read

-- the front of a cleared array
pub front_length : {A : Type 0} (room n : ℕ) (a : A) → n ≤ room → length (take n (replicate room a)) ≡ n
front_length room n a h = length-take-le n (replicate room a) (omega (arith, length-replicate room a))

-- a buffer of a program's length
pub program_read : (bytes : List ℕ) → length bytes ≡ program_bytes → table (λ i. number_at bytes (8 * i)) program_cells ≡ cells_of bytes
unfolding cells_of
program_read bytes e = ap (table (λ i. number_at bytes (8 * i))) (let n : program_cells ≡ wholes bytes = omega arith in n)

-- integers that are all of a buffer's
pub integers_read : (bytes : List ℕ) (n : ℕ) → length bytes ≡ 8 * n → integers_in bytes 0 n ≡ integers_of bytes
integers_read bytes n e = ap (integers_in bytes 0) (let m : n ≡ wholes bytes = omega arith in m)

-- the first of a table's entries
first_entries : {A : Type 0} (f : ℕ → A) (m n : ℕ) → m ≤ n → take m (table f n) ≡ table f m
first_entries f m n h =
    let e : n ≡ m + (n - m) = omega arith in
    ap (λ (k : ℕ). take m (table f k)) e
    ∙ ap (take m) (table_add f m (n - m))
    ∙ take_at (table f m) (table (λ j. f (m + j)) (n - m)) m (length-table f m)

-- the program's questions look at no more cells than a program buffer has
pub questions_front : (bytes : List ℕ) (n : ℕ) → n ≤ wholes bytes → (n < wholes bytes → n ≡ program_cells)
    → program_no (table (λ i. number_at bytes (8 * i)) n) ≡ program_no (cells_of bytes)
unfolding cells_of
questions_front bytes n h f = ⊎_elim short whole (below_or_not n (wholes bytes))
  where
    short : n < wholes bytes → program_no (table (λ i. number_at bytes (8 * i)) n) ≡ program_no (table (λ i. number_at bytes (8 * i)) (wholes bytes))
    short q =
        ap program_no
        (sym (first_entries (λ i. number_at bytes (8 * i)) n (wholes bytes) h)
        ∙ ap (λ (k : ℕ). take k (table (λ i. number_at bytes (8 * i)) (wholes bytes))) (f q))
        ∙ front_same (table (λ i. number_at bytes (8 * i)) (wholes bytes))

    whole : wholes bytes ≤ n → program_no (table (λ i. number_at bytes (8 * i)) n) ≡ program_no (table (λ i. number_at bytes (8 * i)) (wholes bytes))
    whole q = let e : n ≡ wholes bytes = omega arith in ap (λ (k : ℕ). program_no (table (λ i. number_at bytes (8 * i)) k)) e
