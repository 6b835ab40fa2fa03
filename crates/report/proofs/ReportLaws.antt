-- The report of a state, by how the job has ended, and the parts of its bytes put together.
use mathlib.Core.Path.{◌≡◌, refl, sym, ap, ap₂, ◌∙◌}
use mathlib.Core.Bool.{Bool, true, false}
use mathlib.Core.List.{List, [], ◌∷◌, ◌++◌}
use Prim.Native.Nat.{ℕ, ◌*◌}
use native.Mathlib.Omega.{arith}
use lib.ListN.{length, get_or, length-append}
use lib.Seq.{sets}
use Rattle.int64.specs.Little.{bytes_of}
use Rattle.image.specs.Layout.{rows}
use Rattle.image.proofs.Rows.{length-rows}
use Rattle.task.specs.Frames.{zero_register, zeros}
use Rattle.drive.specs.declared.State.{State}
use Rattle.drive.specs.declared.End.{End}
use Rattle.drive.specs.Ending.{ending, is_end}
use Rattle.report.specs.declared.Report.{Report}
use Rattle.state.specs.Numbers.{value_numbers, in_bytes}
use Rattle.report.specs.Report.{report_by, report_of, end_number, end_fault, report_numbers, report_length, report_bytes, rounds_report_length, rounds_report_bytes}
use Rattle.state.proofs.Laying.{length-value, length-in_bytes, in_bytes-rows, numbers-placed, one_number, sets-whole}

module _ (m : State) (picks : ℕ) (end : End) (e : end ≡ ending m) where
  by_end : (b : Bool) → is_end end ≡ b → report_by b m picks ≡ report_of m picks
  by_end b k = ap (λ (t : Bool). report_by t m picks) (sym k ∙ ap is_end e)

  pub spent_report : is_end end ≡ false
      → ◌≡◌ {A = Report} (record { end = end; picks = picks; work = m.work; span = 0; registers = zeros }) (report_of m picks)
  spent_report k =
      (λ j. record { end = e j; picks = picks; work = m.work; span = 0; registers = zeros }) ∙ by_end false k

  pub ended_report : (r : Report) → r ≡ report_by true m picks → is_end end ≡ true → r ≡ report_of m picks
  ended_report r p k = p ∙ by_end true k

-- ---- its bytes

-- the report has 424 bytes
pub report_length_lem : (r : Report) → length (report_bytes r) ≡ report_length
unfolding report_numbers
report_length_lem r =
    let registers : ℕ → List ℕ = λ i. value_numbers (get_or r.registers i zero_register).value in
    length-in_bytes (report_numbers r)
    ∙ omega (arith, length-rows registers 3 (λ i. length-value (get_or r.registers i zero_register).value) 16)

pub report_placed : (r : Report) (l l₁ l₂ l₃ : List ℕ) (e f : ℕ) → e ≡ end_number r.end → f ≡ end_fault r.end
    → l₁ ≡ sets l 0 (in_bytes (e ∷ f ∷ r.picks ∷ []))
    → l₂ ≡ sets l₁ 24 (in_bytes (r.work ∷ r.span ∷ []))
    → l₃ ≡ sets l₂ 40 (rows (λ i. in_bytes (value_numbers (get_or r.registers i zero_register).value)) 16)
    → l₃ ≡ sets l 0 (report_bytes r)
unfolding report_numbers
report_placed r l l₁ l₂ l₃ e f he hf p q u =
    let three : List ℕ = end_number r.end ∷ end_fault r.end ∷ r.picks ∷ [] in
    let registers : ℕ → List ℕ = λ i. value_numbers (get_or r.registers i zero_register).value in
    let p' : l₁ ≡ sets l 0 (in_bytes three) = p ∙ ap₂ (λ (a b : ℕ). sets l 0 (in_bytes (a ∷ b ∷ r.picks ∷ []))) he hf in
    let q' = numbers-placed l l₁ l₂ 0 24 three (r.work ∷ r.span ∷ []) p' q refl in
    numbers-placed l l₂ l₃ 0 40 (three ++ (r.work ∷ r.span ∷ [])) (rows registers 16) q'
    (u ∙ ap (sets l₂ 40) (sym (in_bytes-rows registers 16)))
    refl

-- over a buffer of its length it is all; of rounds there is a number more
pub report_whole : (r : Report) (l l' : List ℕ) → length l ≡ report_length → l' ≡ sets l 0 (report_bytes r) → l' ≡ report_bytes r
report_whole r l l' h e = e ∙ sets-whole l (report_bytes r) (report_length_lem r ∙ sym h)

pub rounds-whole : (r : Report) (rounds : ℕ) (l l₁ l₂ : List ℕ) → length l ≡ rounds_report_length → l₁ ≡ sets l 0 (report_bytes r) → l₂ ≡ sets l₁ 424 (bytes_of 8 rounds)
    → l₂ ≡ rounds_report_bytes r rounds
rounds-whole r rounds l l₁ l₂ h p q =
    let front : 8 * length (report_numbers r) ≡ 424 = sym (length-in_bytes (report_numbers r)) ∙ report_length_lem r in
    let all : length (rounds_report_bytes r rounds) ≡ rounds_report_length =
    length-in_bytes (report_numbers r ++ (rounds ∷ [])) ∙ omega (arith, front, length-append (report_numbers r) (rounds ∷ [])) in
    numbers-placed l l₁ l₂ 0 424 (report_numbers r) (rounds ∷ []) p (q ∙ ap (sets l₁ 424) (one_number rounds)) (omega (arith, front))
    ∙ sets-whole l (rounds_report_bytes r rounds) (all ∙ sym h)
