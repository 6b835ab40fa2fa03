-- An accepted job, run in rounds: its fresh start is a state of the shape, and the rounds from there are those of the definition. And the text.
use mathlib.Core.Path.{◌≡◌, sym, ap, ◌∙◌, subst}
use mathlib.Core.Bool.{true}
use mathlib.Core.List.{List}
use Prim.Native.Nat.{ℕ, ◌^◌, ◌<◌}
use lib.IntN.{ℤ}
use lib.ListN.{length}
use lib.Seq.{sets}
use borrow.Author.Tests.{eq-eqb, ne_eqb}
use Rattle.image.specs.Layout.{cells_in}
use Rattle.drive.specs.declared.State.{State}
use Rattle.machine.specs.Dispatching.{lanes_allowed, dispatched}
use Rattle.machine.proofs.DispatchLaws.{passed-dispatch, dispatch-accepted}
use Rattle.machine.specs.Starting.{fresh, empty}
use native.Mathlib.Omega.{arith}
use Rattle.image.specs.declared.refusal.Refusal.{Refusal}
use Rattle.image.specs.Refusals.{number}
use Rattle.image.proofs.Refusals.{number_positive}
use Rattle.drive.specs.Ending.{job_ended}
use Rattle.drive.proofs.Intervals.{interval_fits}
use Rattle.drive.proofs.ShapeLaws.{Fits, fits-shape}
use Rattle.machine.proofs.StartLaws.{StartAccepted, start_accepted, started-fresh, fresh-fits}
use Rattle.orders.specs.Demand.{Job, start_on}
use Rattle.report.specs.declared.Report.{Report}
use Rattle.report.specs.Text.{text_of, refused_text, text_room}
use Rattle.job.specs.Job.{job_image, job_places, job_interval, job_registers, job_words, job_no}
use Rattle.job.specs.Replay.{job_in}
use Rattle.job.specs.Dispatch.{rounds_in}
use Rattle.job.specs.Run.{report_in, text_in, text_length, text_stored}
use Rattle.job.proofs.Replaying.{start-agrees}

module _ (bytes : List ℕ) (accepted : job_no bytes ≡ 0) where
  abbrev j : Job
  j = job_in bytes

  start : StartAccepted j.cells j.places j.interval j.registers j.words
  start = start_accepted j.cells j.places j.interval j.registers j.words (start-agrees bytes accepted)

  pub interval_small : job_interval bytes < 2 ^ 16
  interval_small = interval_fits (job_interval bytes) start.allowed.its_interval_allowed

  module _ {cells : List ℕ} {places interval : ℕ} {registers : List ℤ} (p : cells ≡ cells_in (job_image bytes)) (q : places ≡ job_places bytes)
      (r : interval ≡ job_interval bytes) (s : registers ≡ job_registers bytes) {m : State} (e : m ≡ fresh places interval registers) where
    its_state : m ≡ fresh j.places j.interval j.registers
    its_state = e ∙ (λ i. fresh (q i) (r i) (s i))

    -- in rounds: none of the dispatcher's questions is answered with no
    pub rounds_agree : {words : List ℤ} (t : words ≡ job_words bytes) (lanes budget : ℕ) → lanes_allowed lanes ≡ true
        → let o = rounds_in bytes lanes budget in
        dispatched cells words m lanes budget
        ≡ record { no = 0; ended = job_ended o.state; rounds = o.kept.done; picks = o.picks; machine = record { state = o.state } }
    rounds_agree t lanes budget allows =
        let first : m ≡ start_on j (empty 0 0) = its_state ∙ sym (started-fresh (empty 0 0) j.cells j.places j.interval j.registers j.words (start-agrees bytes accepted)) in
        let x : Fits j.cells j.interval j.places (start_on j (empty 0 0)) = subst (Fits j.cells j.interval j.places) (sym its_state ∙ first) (fresh-fits start) in
        let passes = passed-dispatch j.cells j.words lanes (start_on j (empty 0 0)) (record { program = start.allowed.program; lent = start.lent }) allows (fits-shape start.allowed _ x) in
        (λ i. dispatched (p i) (t i) (first i) lanes budget) ∙ dispatch-accepted j.cells j.words lanes (start_on j (empty 0 0)) budget passes

-- ---- the text

-- a buffer of another length
pub no_text : (bytes : List ℕ) (budget : ℕ) (out : List ℕ) → (length out ≡ text_room → ⊥)
    → (0 ≡ text_length bytes budget (length out)) × (out ≡ text_stored bytes budget out)
unfolding text_length text_stored
no_text bytes budget out other = (rw (ne_eqb (length out) text_room other), rw (ne_eqb (length out) text_room other))

module _ (bytes : List ℕ) (budget : ℕ) (out : List ℕ) (room : length out ≡ text_room) {n : ℕ} {stored : List ℕ} where
  given : (text : List ℕ) → text_in bytes budget ≡ text → n ≡ length text → stored ≡ sets out 0 text
      → (n ≡ text_length bytes budget (length out)) × (stored ≡ text_stored bytes budget out)
  unfolding text_length text_stored
  given text e p q =
      (rw (eq-eqb (length out) text_room room) (p ∙ ap length (sym e)), rw (eq-eqb (length out) text_room room) (q ∙ ap (sets out 0) (sym e)))

  pub refusal_given : (r : Refusal) → number r ≡ job_no bytes → n ≡ length (refused_text (number r)) → stored ≡ sets out 0 (refused_text (number r))
      → (n ≡ text_length bytes budget (length out)) × (stored ≡ text_stored bytes budget out)
  unfolding text_in
  refusal_given r e = given (refused_text (number r)) (rw (← e, ne_eqb (number r) 0 (λ z. omega (arith, number_positive r))))

  pub report_given : (r : Report) → job_no bytes ≡ 0 → r ≡ report_in bytes budget → n ≡ length (text_of r) → stored ≡ sets out 0 (text_of r)
      → (n ≡ text_length bytes budget (length out)) × (stored ≡ text_stored bytes budget out)
  unfolding text_in
  report_given r accepted e = given (text_of r) (rw (accepted, e))
