-- A refusal's number is not 0, so that it decides.
use Rattle.std.proofs.Common.{◌≡◌, ℕ, ◌<◌, arith, sym, ◌∙◌, Result}
use Rattle.std.specs.Result.{IsErrAnd}
use Rattle.std.proofs.lemmas.Result.{err_from_is_err_and}
use borrow.Author.Tests.{ne_eqb}
use Rattle.image.specs.declared.refusal.Refusal.{Refusal}
use Rattle.image.specs.declared.refusal.Refusal.TheVariants.{Header, Mark, Version, Counts, Length, BlockStart, Annotation, Fields, LastInBlock}
use Rattle.image.specs.declared.refusal.Refusal.TheVariants.{Input, Places, Interval, Registers, Words, Buffer, Shape, Slot, Ended, NotRunning, Work, Lanes}
use Rattle.image.specs.Refusals.{number, no_of}
use Rattle.image.specs.Questions.{or_else}
use Rattle.image.specs.Doors.{unless_refused}
use Rattle.image.proofs.Asked.{or_else_no}

pub number_positive : (r : Refusal) → 0 < number r
number_positive Header = omega arith
number_positive Mark = omega arith
number_positive Version = omega arith
number_positive Counts = omega arith
number_positive Length = omega arith
number_positive BlockStart = omega arith
number_positive Annotation = omega arith
number_positive Fields = omega arith
number_positive LastInBlock = omega arith
number_positive Input = omega arith
number_positive Places = omega arith
number_positive Interval = omega arith
number_positive Registers = omega arith
number_positive Words = omega arith
number_positive Buffer = omega arith
number_positive Shape = omega arith
number_positive Slot = omega arith
number_positive Ended = omega arith
number_positive NotRunning = omega arith
number_positive Work = omega arith
number_positive Lanes = omega arith

pub refused : (r : Refusal) → number r ≡ 0 → ⊥
refused r e =
    let p = number_positive r in
    omega arith

-- the first no decides: `?` on it
pub no_decides : (r : Refusal) (a b : ℕ) → number r ≡ a → or_else a b ≡ number r
no_decides r a b e = or_else_no a b (λ z. refused r (e ∙ z)) ∙ sym e

-- and what was lent stays as it was
pub refused_keeps : {A : Type 0} (r : Refusal) (new old : A) → unless_refused (number r) new old ≡ old
unfolding unless_refused
refused_keeps r new old = rw (ne_eqb (number r) 0 (refused r))

-- what the exit of a `?` answers
pub exit_no : {T : Type 0} (answer : Result T Refusal) (r : Refusal) → IsErrAnd answer (λ e. e ≡ r) → no_of answer ≡ number r
exit_no answer r h = let p = err_from_is_err_and answer h in rw (p.1, p.2)

pub exit_refused : {T : Type 0} (answer : Result T Refusal) (r : Refusal) → IsErrAnd answer (λ e. e ≡ r) → no_of answer ≡ 0 → ⊥
exit_refused answer r h z = refused r (sym (exit_no answer r h) ∙ z)

-- where that decides
pub exit_decides : {T : Type 0} (answer : Result T Refusal) (r : Refusal) (a b : ℕ) → IsErrAnd answer (λ e. e ≡ r) → number r ≡ a → no_of answer ≡ or_else a b
exit_decides answer r a b h e = exit_no answer r h ∙ sym (no_decides r a b e)
