-- A sequence of calls is an order of picks; and any bytes that stand for a state can be gone on with.
use mathlib.Core.Path.{◌≡◌, refl, ap, ◌∙◌}
use mathlib.Core.Bool.{true}
use mathlib.Core.List.{List, [], ◌∷◌}
use Prim.Native.Nat.{ℕ, ◌*◌, ◌%◌, ◌≤◌}
use native.Mathlib.Omega.{arith}
use lib.Dec.{eqb}
use lib.ListN.{length}
use borrow.Author.Tests.{eq-eqb, le-leb}
use Rattle.facts.proofs.Tests.{by-test, true_both}
use Rattle.image.specs.Doors.{unless_refused}
use Rattle.drive.specs.declared.State.{State}
use Rattle.machine.specs.Starting.{empty}
use Rattle.machine.specs.Picking.{pick_no, picked}
use Rattle.orders.specs.Demand.{start_on, played_of, played}
use Rattle.orders.proofs.Demand.{demand_3}
use Rattle.state.specs.State.{state_length, state_bytes}
use Rattle.state.specs.Reading.{stands_state, state_in}
use Rattle.state.specs.Fields.{InFields}
use Rattle.state.proofs.StateLaws.{state_length_lem}
use Rattle.state.proofs.RoundTrip.{round_trip}
use Rattle.steps.specs.Buffers.{wholes, cells_of, integers_of, program_bytes}
use Rattle.steps.specs.Calls.{picked_no, state_after_pick, ran_no}
use Rattle.steps.specs.Orders.{Lent, job_lent, start_answer, after_start, after_picks, in_order, CallsAreAnOrder, EveryBufferGoesOn}
use Rattle.steps.proofs.Answers.{left-accepted}
use Rattle.steps.proofs.StartAnswers.{start_accepted}
use Rattle.steps.proofs.LentAnswers.{Ready, when_ready, pick-ready}
use Rattle.steps.proofs.OrderFields.{integers_in_field, fresh_in_fields, played_in_fields}
use Rattle.steps.proofs.PickFields.{picked_in_fields}
use Rattle.steps.proofs.RunFields.{outcome_in_fields}

-- ---- One call of pick, on a buffer that holds a state's bytes

module _ (program words : List ℕ) (whole : length program ≡ program_bytes) (even : length words ≡ 8 * wholes words) (few : wholes words ≤ 4096) where
  module _ (m : State) (fields : InFields m) where
    ready : Ready program words (state_bytes m) (eqb (length (state_bytes m)) state_length)
    ready =
        let none : length words % 8 ≡ 0 = omega arith in
        let lengths = true_both (eq-eqb _ program_bytes whole) (true_both (eq-eqb _ 0 none) (eq-eqb _ state_length (state_length_lem m))) in
        when_ready program words (state_bytes m) (eqb (length (state_bytes m)) state_length)
        (true_both lengths (true_both (le-leb (wholes words) 4096 few) (round_trip.read_again m fields).0))

    pub same_answer : (k : ℕ) → picked_no program words k (state_bytes m) ≡ pick_no (cells_of program) (integers_of words) m k
    same_answer k =
        pick-ready program words (state_bytes m) k ready
        ∙ ap (λ (n : State). pick_no (cells_of program) (integers_of words) n k) (round_trip.read_again m fields).1

    pub same_bytes_lem : (k : ℕ) → state_after_pick program words k (state_bytes m) ≡ state_bytes (picked (cells_of program) (integers_of words) m k)
    unfolding unless_refused
    same_bytes_lem k =
        (λ i. unless_refused (same_answer k i) (state_bytes (picked (cells_of program) (integers_of words) ((round_trip.read_again m fields).1 i) k)) (state_bytes m))
        ∙ by-test (eqb (pick_no (cells_of program) (integers_of words) m k) 0) (λ e. rw e) (λ e. rw e)

-- ---- Calls one after the other

module _ (l : Lent) (whole : length l.program ≡ program_bytes) (even : length l.words ≡ 8 * wholes l.words) (few : wholes l.words ≤ 4096) where
  pub picks_bytes : (ks : List ℕ) (m : State) → InFields m → after_picks l (state_bytes m) ks ≡ state_bytes (played (job_lent l) m ks)
  unfolding after_picks played_of
  picks_bytes [] m fields = refl
  picks_bytes (k ∷ ks) m fields =
      ap (λ (state : List ℕ). after_picks l state ks) (same_bytes_lem l.program l.words whole even few m fields k)
      ∙ picks_bytes ks (picked (cells_of l.program) (integers_of l.words) m k)
      (picked_in_fields (cells_of l.program) (integers_of l.words) m k (integers_in_field l.words 0 (wholes l.words)) fields)

pub calls_are_an_order : CallsAreAnOrder
calls_are_an_order l state answer ks =
    let registers = integers_in_field l.registers 0 (wholes l.registers) in
    let words = integers_in_field l.words 0 (wholes l.words) in
    let a = start_accepted l.program l.places l.interval l.registers l.words (length state) answer in
    let f = a.1 in
    let m = start_on (job_lent l) (empty 0 0) in
    let fresh = fresh_in_fields (empty 0 0) (cells_of l.program) l.places l.interval (integers_of l.registers) (integers_of l.words) a.0 registers in
    let fields = played_in_fields (job_lent l) words ks m fresh in
    let bytes =
    ap (λ (b : List ℕ). after_picks l b ks) (left-accepted (start_answer l state) (state_bytes m) state (after_start l state) answer refl)
    ∙ picks_bytes l f.program_length f.words_whole f.words_few ks m fresh in
    let again = round_trip.read_again (in_order l ks) fields in
    record {
      its_bytes = bytes;
      its_state = ap state_in bytes ∙ again.1;
      stands = ap stands_state bytes ∙ again.0;
      next_answer =
          λ k. ap (picked_no l.program l.words k) bytes
          ∙ same_answer l.program l.words f.program_length f.words_whole f.words_few (in_order l ks) fields k;
      whatever_the_order = demand_3 (job_lent l) a.0 (empty 0 0) ks;
    }

-- ---- From any bytes that stand for a state

pub every-buffer-goes-on : EveryBufferGoesOn
every-buffer-goes-on program words state small stands =
    let fields = (round_trip.written_back state small stands).0 in
    let held = integers_in_field words 0 (wholes words) in
    record {
      after_pick =
          λ k accepted. after (picked_no program words k state) _ accepted (picked_in_fields (cells_of program) (integers_of words) (state_in state) k held fields);
      after_run =
          λ budget report accepted. after (ran_no program words state report) _ accepted (outcome_in_fields (cells_of program) (integers_of words) (state_in state) budget held fields);
    }
  where
    after : (answer : ℕ) (m : State) → answer ≡ 0 → InFields m
        → (stands_state (unless_refused answer (state_bytes m) state) ≡ true) × (state_in (unless_refused answer (state_bytes m) state) ≡ m)
    after answer m accepted fields =
        let e = left-accepted answer (state_bytes m) state _ accepted refl in
        let again = round_trip.read_again m fields in
        (ap stands_state e ∙ again.0, ap state_in e ∙ again.1)
