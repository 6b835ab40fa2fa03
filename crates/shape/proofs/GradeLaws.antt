-- The worst grade of a slot's registers tells whether all 16 are 0 and whether all fit.
use Prim.Native.Nat.{ℕ, ◌+◌, ◌*◌, ◌/◌, ◌≤◌, ◌<◌}
use mathlib.Core.Path.{◌≡◌, refl, ap}
use mathlib.Core.Bool.{Bool, true, false}
use mathlib.Core.List.{List}
use native.Mathlib.Omega.{arith}
use lib.Dec.{eqb, leb}
use lib.ListN.{get_or}
use borrow.Author.Tests.{eqb-true, eq-eqb, leb-true, le-leb}
use Rattle.facts.proofs.Tests.{same}
use Rattle.image.specs.Program.{Program}
use Rattle.task.specs.declared.Value.{Value}
use Rattle.task.specs.declared.Value.TheVariants.{Int, Label, Record}
use Rattle.task.specs.declared.Register.{Register}
use Rattle.task.specs.Frames.{zero_register}
use Rattle.task.specs.Formed.{every, value_fits, is_zero}
use Rattle.task.proofs.EveryLaws.{every-at, every_from}
use Rattle.task.specs.Stretches.{reads}
use Rattle.shape.specs.Codes.{Largest, LargestSlots, grade, grade_of, Graded, GradedSlots}
use Rattle.task.proofs.StretchLaws.{length-reads, get_d_reads}
use Rattle.shape.proofs.Largest.{largest_each, each_largest}

zero_grade : (z f : Bool) → z ≡ true → grade z f ≤ 0
zero_grade z f e = rw e (omega arith)

grade_zero : (z f : Bool) → grade z f ≤ 0 → z ≡ true
grade_zero true f h = refl
grade_zero false true h = absurd (omega arith)
grade_zero false false h = absurd (omega arith)

fit-grade : (z f : Bool) → f ≡ true → grade z f ≤ 1
fit-grade true f e = omega arith
fit-grade false f e = rw e (omega arith)

grade-fit : (f : Bool) → grade false f ≤ 1 → f ≡ true
grade-fit true h = refl
grade-fit false h = absurd (omega arith)

-- the slot of a place of the bank
abbrev pub slot_of : ℕ → ℕ
slot_of j = j / 16

module _ (program : Program) where
  pub grade-fits : (v : Value) → grade_of program v ≤ 1 → value_fits program v ≡ true
  grade-fits (Int z) h = refl
  grade-fits (Label b) h = grade-fit (value_fits program (Label b)) h
  grade-fits (Record b d) h = grade-fit (value_fits program (Record b d)) h

  -- the register's grade at a place of the bank
  abbrev pub grade_at : List Register → ℕ → ℕ
  grade_at bank i = grade_of program (get_or bank i zero_register).value

  module _ (bank : List Register) (k c : ℕ) (l : Largest slot_of (grade_at bank) 1024 k c) (h : k < 64) where
    abbrev registers : List Register
    registers = reads zero_register bank (16 * k) 16

    abbrev value : ℕ → Value
    value j = (get_or registers j zero_register).value

    its : (j : ℕ) → j < 16 → ((16 * k + j) / 16 ≡ k) × (16 * k + j < 1024) × (grade_of program (value j) ≡ grade_at bank (16 * k + j))
    its j p = (omega arith, omega arith, ap (λ (x : Register). grade_of program x.value) (get_d_reads zero_register bank (16 * k) 16 j p))

    -- c is at most n just where each register's grade is
    worst_each : (n : ℕ) → c ≤ n → (j : ℕ) → j < 16 → grade_of program (value j) ≤ n
    worst_each = largest_each l (16 * k) 16 (λ j. grade_of program (value j)) its (λ j p q. (omega arith, omega arith))

    each_worst : (n : ℕ) → ((j : ℕ) → j < 16 → grade_of program (value j) ≤ n) → c ≤ n
    each_worst = each_largest l (16 * k) 16 (λ j. grade_of program (value j)) its (λ j p q. (omega arith, omega arith))

    abbrev zero_at : ℕ → Bool
    zero_at i = is_zero (value i)

    abbrev fit_at : ℕ → Bool
    fit_at i = value_fits program (value i)

    all_zero_least : every zero_at 16 0 ≡ true → c ≤ 0
    all_zero_least e = each_worst 0 (λ j q. zero_grade (zero_at j) (fit_at j) (every-at zero_at 16 0 e j (omega arith) (omega arith)))

    all_fit-least : every fit_at 16 0 ≡ true → c ≤ 1
    all_fit-least e = each_worst 1 (λ j q. fit-grade (zero_at j) (fit_at j) (every-at fit_at 16 0 e j (omega arith) (omega arith)))

    largest_graded : Graded program (reads zero_register bank (16 * k) 16) c
    largest_graded = record {
      sixteen = length-reads zero_register bank (16 * k) 16;
      all_zero =
          same (every zero_at 16 0) (eqb c 0)
          (λ e. let l = all_zero_least e in eq-eqb c 0 (omega arith))
          (λ e. every_from zero_at 16 0
          (λ j p q. grade_zero (zero_at j) (fit_at j) (worst_each 0 (omega (arith, eqb-true c 0 e)) j (omega arith))));
      all_fit =
          same (every fit_at 16 0) (leb c 1)
          (λ e. le-leb c 1 (all_fit-least e))
          (λ e. every_from fit_at 16 0 (λ j p q. grade-fits (value j) (worst_each 1 (leb-true c 1 e) j (omega arith))));
    }

  pub largest_is_grade : (bank : List Register) (grades : List ℕ) (i : ℕ) → i ≡ 1024 → LargestSlots slot_of (grade_at bank) i grades
      → GradedSlots program bank grades
  largest_is_grade bank grades i e all k h = largest_graded bank k (get_or grades k 0) (rw e at (all.1 k h)) h
