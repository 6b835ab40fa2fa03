-- The lines of a report's text, as the code comes by them.
use mathlib.Core.Path.{◌≡◌, refl, sym, ap, ◌∙◌}
use mathlib.Core.Bool.{Bool, true, false}
use mathlib.Core.List.{List, ◌++◌, append-nil}
use Prim.Native.Nat.{ℕ, ◌+◌, ◌*◌}
use native.Mathlib.Omega.{arith}
use native.Mathlib.Numerals.{add-one}
use lib.ListN.{length, get_or}
use lib.Seq.{sets}
use Rattle.image.specs.Layout.{rows}
use Rattle.task.specs.declared.Register.{Register}
use Rattle.task.specs.Frames.{zero_register}
use Rattle.drive.specs.Ending.{is_end}
use Rattle.report.specs.declared.Report.{Report}
use Rattle.report.specs.Words.{Written}
use Rattle.report.specs.Text.{end_line, work_line, span_line, register_line, register_lines, result_lines, text_of}
use Rattle.report.proofs.Writing.{written_then, written_as}

-- ---- the registers' lines

pub no_lines : (registers : List Register) (l : List ℕ) (at : ℕ) → Written (50 * 0) l at (register_lines registers 0) l at
unfolding register_lines rows
no_lines registers l at = record { stored = refl; ends = omega arith; short = omega arith }

pub line-more : {l l₁ l₂ : List ℕ} {at n p : ℕ} (registers : List Register) (i : ℕ) → Written (50 * i) l at (register_lines registers i) l₁ n
    → Written 50 l₁ n (register_line i (get_or registers i zero_register).value) l₂ p
    → Written (50 * (i + 1)) l at (register_lines registers (i + 1)) l₂ p
unfolding register_lines rows
line-more registers i a b =
    written_as (50 * (i + 1)) _ (written_then a b) (ap (register_lines registers) (sym (add-one i))) (omega arith)

-- ---- the whole text

pub spent_text : (r : Report) → is_end r.end ≡ false → end_line r.end ++ work_line r.work ≡ text_of r
unfolding text_of
spent_text r e =
    let head : List ℕ = end_line r.end ++ work_line r.work in
    sym (append-nil head) ∙ ap (λ (b : Bool). head ++ result_lines b r) (sym e)

pub ended_text : (r : Report) → is_end r.end ≡ true
    → end_line r.end ++ work_line r.work ++ (span_line r.span ++ register_lines r.registers 16) ≡ text_of r
unfolding text_of
ended_text r e = ap (λ (b : Bool). end_line r.end ++ work_line r.work ++ result_lines b r) (sym e)

-- a text that was written from the front on
pub from_front : {m : ℕ} {l l₁ : List ℕ} {n : ℕ} {xs : List ℕ} (ys : List ℕ) → Written m l 0 xs l₁ n → xs ≡ ys
    → (n ≡ length ys) × (l₁ ≡ sets l 0 ys)
from_front {l = l} ys a e = (omega (arith, a.ends, ap length e), a.stored ∙ ap (sets l 0) e)
