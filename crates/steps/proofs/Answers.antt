-- The calls' answers, as the code comes by them: which question decides.
use mathlib.Core.Path.{◌≡◌, refl, sym, ap, ◌∙◌}
use mathlib.Core.Bool.{Bool, true, false}
use mathlib.Core.List.{List}
use Prim.Native.Nat.{ℕ, ◌%◌}
use native.Mathlib.Omega.{arith}
use lib.Dec.{eqb}
use lib.ListN.{length}
use borrow.Author.Tests.{eq-eqb, ne_eqb, eqb-true}
use Rattle.image.specs.Layout.{program_cells, version_of, block_count, instruction_count, image_length, image_of}
use Rattle.image.specs.Questions.{ask, or_else, program_no}
use Rattle.image.specs.Doors as doors
use Rattle.image.specs.Doors.{image_no, write_no, unless_refused}
use Rattle.image.specs.declared.refusal.Refusal.{Refusal}
use Rattle.image.specs.Refusals.{number}
use Rattle.image.proofs.Refusals.{refused_keeps, no_decides}
use Rattle.image.proofs.Asked.{or_else_yes, or_else_none}
use Rattle.state.proofs.Tables.{length-table}
use Rattle.steps.specs.Buffers.{wholes, is_whole, cells_of, program_bytes}
use Rattle.steps.specs.Calls.{read_no, written_no, image_after}

-- ---- A call that answers, and leaves a buffer

pub call_refused : {A : Type 0} (r : Refusal) {N : ℕ} (new old : A) → number r ≡ N → old ≡ unless_refused N new old
call_refused r new old e = sym (refused_keeps r new old) ∙ ap (λ (n : ℕ). unless_refused n new old) e

pub call_accepted : {A : Type 0} {N : ℕ} (new old after : A) → N ≡ 0 → after ≡ new → after ≡ unless_refused N new old
unfolding unless_refused
call_accepted {N = N} new old after e h = rw (eq-eqb N 0 e) h

-- what a callee that answered 0 left
pub left-accepted : {A : Type 0} (r : ℕ) (new old after : A) → r ≡ 0 → after ≡ unless_refused r new old → after ≡ new
unfolding unless_refused
left-accepted r new old after e h = h ∙ rw (eq-eqb r 0 e)

-- 15 asked twice, where not both can be answered with yes
fifteen : (s u t : Bool) → (s ≡ true → t ≡ true → ⊥) → or_else (ask s 15 (ask u 15 0)) (ask t 15 0) ≡ 15
unfolding or_else
fifteen true true true n = absurd (n refl refl)
fifteen true true false n = refl
fifteen true false t n = refl
fifteen false u t n = refl

-- ---- Reading an image

pub read_refused : (image : List ℕ) (lent : ℕ) (r : Refusal) → number r ≡ doors.read_no image program_cells → number r ≡ read_no image lent
unfolding doors.read_no read_no
read_refused image lent r e = sym (no_decides r (image_no image) _ (e ∙ or_else_none (image_no image)))

module _ (image : List ℕ) (lent : ℕ) (answer : 0 ≡ doors.read_no image program_cells) where
  asked_image : image_no image ≡ 0
  unfolding doors.read_no
  asked_image = sym (answer ∙ or_else_none (image_no image))

  pub read_too_long : (lent ≡ program_bytes → ⊥) → 15 ≡ read_no image lent
  unfolding read_no
  read_too_long n = sym (or_else_yes (image_no image) _ asked_image ∙ rw (ne_eqb lent program_bytes n))

  pub read_accepted : lent ≡ program_bytes → read_no image lent ≡ 0
  unfolding read_no
  read_accepted h = or_else_yes (image_no image) _ asked_image ∙ rw (eq-eqb lent program_bytes h)

-- ---- Writing a program

-- a buffer of a program's length has all cells, and nothing is left over
pub all_cells : (program : List ℕ) → length program ≡ program_bytes → wholes program ≡ program_cells
all_cells program e = omega arith

pub count-cells : (program : List ℕ) → length (cells_of program) ≡ wholes program
unfolding cells_of
count-cells program = length-table _ (wholes program)

module _ (program : List ℕ) (lent : ℕ) where
  abbrev cells : List ℕ
  cells = cells_of program

  abbrev image : ℕ
  image = image_length (version_of cells) (block_count cells) (instruction_count cells)

  pub write_refused : (r : Refusal) → number r ≡ program_no (cells_of program) → number r ≡ written_no program lent
  unfolding written_no doors.write_no
  write_refused r e = sym (no_decides r (write_no cells lent) _ (sym (no_decides r (program_no cells) _ e)))

  -- a buffer of another length lacks cells, has more, or has something left over
  pub write_too_long : program_no (cells_of program) ≡ 0 → (length program ≡ program_bytes → ⊥) → 15 ≡ written_no program lent
  unfolding written_no doors.write_no
  write_too_long e n =
      let cells-answer = or_else_yes (program_no cells) (ask (eqb (length cells) program_cells) 15 (ask (eqb lent image) 15 0)) e in
      sym
      (ap (λ (a : ℕ). or_else a (ask (is_whole program) 15 0)) cells-answer
      ∙ fifteen (eqb (length cells) program_cells) (eqb lent image) (is_whole program)
      (λ p q. n (omega (arith, eqb-true (length cells) program_cells p, eqb-true (length program % 8) 0 q, count-cells program))))

  pub write_whole : length program ≡ program_bytes → write_no (cells_of program) lent ≡ written_no program lent
  unfolding written_no
  write_whole e =
      let none : length program % 8 ≡ 0 = omega arith in
      sym (rw (eq-eqb (length program % 8) 0 none) (or_else_none (write_no cells lent)))

-- the writer's answer, to the cells that were read
pub write_answered : (program read image after : List ℕ) (r : ℕ) → length program ≡ program_bytes → read ≡ cells_of program
    → r ≡ write_no read (length image) → after ≡ unless_refused r (image_of read) image
    → (r ≡ written_no program (length image)) × (after ≡ image_after program image)
write_answered program read image after r e same p q =
    let answer : r ≡ written_no program (length image) = p ∙ ap (λ (l : List ℕ). write_no l (length image)) same ∙ write_whole program (length image) e in
    (answer, q ∙ (λ i. unless_refused (answer i) (image_of (same i)) image))
