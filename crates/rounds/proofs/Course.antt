-- The loop's rounds are lanes': round by round, and pick by pick within a round.
use Prim.Native.Nat.{ℕ, zero, suc, ◌+◌, ◌-◌, ◌<◌, ◌≤◌}
use mathlib.Core.Path.{◌≡◌, refl, sym, ap, ap₂, ◌∙◌, subst⁻¹}
use mathlib.Core.Bool.{Bool, true, false, not, ◌&&◌, ◌||◌}
use mathlib.Core.List.{List, [], ◌∷◌}
use native.Mathlib.Omega.{arith}
use native.Mathlib.Numerals.{add-one}
use lib.Dec.{ltb}
use borrow.Author.Tests.{le-ltb}
use Rattle.facts.proofs.Tests.{clash, by-test, by-below}
use Rattle.agreement.specs.Picks.{Model, can_pick, pick, play}
use Rattle.agreement.proofs.PickLaws.{pick-refused, play_work}
use Rattle.task.specs.declared.Frame.{Frame}
use Rattle.task.specs.Frames.{running, work_limit}
use Rattle.drive.specs.declared.State.{State}
use Rattle.drive.specs.Driven.{Driven}
use Rattle.drive.specs.Slots.{at}
use Rattle.drive.specs.Settings.{rank}
use Rattle.drive.specs.Ending.{job_ended}
use Rattle.drive.specs.Courses.{over, follows}
use Rattle.drive.specs.Passes.{stops}
use Rattle.drive.specs.Rounds.{taken, rounds, rounds_from}
use Rattle.drive.specs.Driving.{left_rounds}
use Rattle.drive.proofs.CourseLaws.{stays, picks_turn}
use Rattle.drive.proofs.IssueLaws.{issued_is_pick, issued_work}
use Rattle.drive.proofs.Models.{forms_of, laws_hold}
use Rattle.drive.proofs.ShapeLaws.{fits-shows, pick-fits}
use Rattle.drive.proofs.Quiet.{fits-ended, running_open}
use Rattle.drive.proofs.Passing.{stops-not, stops-full}
use Rattle.drive.proofs.RoundLaws.{round_run, leaves_from, rounds_stop, rounds-spent, rounds-go, begins-round}
use Rattle.lanes.specs.Rounds.{Dispatched, round_of, round, goes_on, dispatch}
use Rattle.lanes.specs.Rounds as lane
use Rattle.lanes.proofs.Turns.{InTurn, round-turns}
use Rattle.orders.specs.Demand.{Job, start_on, played}
use Rattle.orders.proofs.Plays.{FitsJob, JobAccepted, job_accepted, started_job, play-fits, played_is}
use Rattle.machine.proofs.StartLaws.{fresh-fits}
use Rattle.rounds.specs.Jobs.{machine_of, span}
use Rattle.rounds.specs.Course.{SameRounds, CourseIsDispatch}
use Rattle.rounds.proofs.Machine.{spans_hold}

module _ {j : Job} (start : JobAccepted j) (lanes : ℕ) (some_lanes : 0 < lanes) where
  open j use {cells, words, places}

  abbrev M : Model Frame State
  M = machine_of j

  -- the same slots are taken
  taken_is : (m : State) (l n k : ℕ) → taken m l n k ≡ lane.taken M m l n k
  unfolding taken lane.taken
  taken_is m zero n k = refl
  taken_is m (suc l) zero k = refl
  taken_is m (suc l) (suc n) k =
      by-test (running (at m k))
      (λ r. rw (r, taken, lane.taken, add-one k) (ap (λ ks. k ∷ ks) (taken_is m l n (suc k))))
      (λ r. rw (r, taken, lane.taken, add-one k) (taken_is m (suc l) n (suc k)))

  work_grows : (ks : List ℕ) (m : State) → m.work ≤ (play M m ks).work
  work_grows ks m =
      let laws = laws_hold start.allowed words in
      omega (arith, play_work M laws.put_work laws.tick_work ks m)

  -- at the limit nothing is picked
  full-plays : (ks : List ℕ) (m : State) → work_limit ≤ m.work → play M m ks ≡ m
  unfolding play
  full-plays [] m h = refl
  full-plays (k ∷ ks) m h =
      let full : can_pick M m k ≡ false = by-test (can_pick M m k) (λ c. clash c (no_room k m h)) (λ c. c) in
      let same = pick-refused M m k full in
      ap (λ n. play M n ks) same ∙ full-plays ks m h
    where
      no_room : (k : ℕ) (m : State) → work_limit ≤ m.work → can_pick M m k ≡ false
      no_room k m h = rw (le-ltb m.work work_limit h) (go (ltb k places) (running (at m k)))
        where
          go : (a b : Bool) → (a && (b && false)) ≡ false
          go false b = refl
          go true false = refl
          go true true = refl

  module _ (budget : ℕ) where
    abbrev run : State → List ℕ → ℕ → ℕ → Driven
    run m ks done picks = leaves_from cells words lanes budget m ks done picks

    -- the slots that are left of a round, picked in turn
    slots_played : (ks : List ℕ) (m : State) → FitsJob j m → InTurn M m ks → (done picks : ℕ)
        → run m ks done picks ≡ run (play M m ks) [] done (picks + ((play M m ks).work - m.work))
    unfolding play follows
    slots_played [] m x t done picks =
        let z : picks + (m.work - m.work) ≡ picks = omega arith in ap (λ n. run m [] done n) (sym z)
    slots_played (k ∷ ks) m x t done picks =
        by-below m.work work_limit
        (λ room. on room (slots_played ks (pick M m k) (pick-fits start.allowed words m k x) t.2 done (picks + 1))) full
      where
        full : work_limit ≤ m.work → run m (k ∷ ks) done picks ≡ run (play M (pick M m k) ks) [] done (picks + ((play M (pick M m k) ks).work - m.work))
        full h =
            let z : work_limit - m.work ≡ 0 = omega arith in
            let n : picks + (m.work - m.work) ≡ picks = omega arith in
            subst⁻¹ (λ s. run m (k ∷ ks) done picks ≡ run s [] done (picks + (s.work - m.work))) (full-plays (k ∷ ks) m h) (rw (z, n))

        on : m.work < work_limit
            → run (pick M m k) ks done (picks + 1)
            ≡ run (play M (pick M m k) ks) [] done (picks + 1 + ((play M (pick M m k) ks).work - (pick M m k).work))
            → run m (k ∷ ks) done picks ≡ run (play M (pick M m k) ks) [] done (picks + ((play M (pick M m k) ks).work - m.work))
        on room rest =
            let is = issued_is_pick start.allowed words m k x t.0 t.1 room in
            let more : (pick M m k).work ≡ m.work + 1 = ap (λ (s : State). s.work) (sym is) ∙ issued_work cells words m k in
            let goes = stops-not m (running_open start.allowed words m x k (omega (arith, t.0, x.its_places)) t.1) room in
            let n : work_limit - m.work ≡ suc (work_limit - (pick M m k).work) = omega (arith, more, room) in
            let last : picks + 1 + ((play M (pick M m k) ks).work - (pick M m k).work) ≡ picks + ((play M (pick M m k) ks).work - m.work) =
            omega (arith, more, work_grows ks (pick M m k)) in
            ap (λ i. left_rounds (round_run cells words lanes budget i m (k ∷ ks) done picks)) n
            ∙ ap left_rounds (picks_turn cells words (rounds lanes) (work_limit - (pick M m k).work) _ k _ (rounds-go lanes m _ k ks goes refl))
            ∙ ap (λ (s : State). left_rounds (round_run cells words lanes budget (work_limit - (pick M m k).work) s ks done (picks + 1))) is
            ∙ rest
            ∙ ap (λ i. run (play M (pick M m k) ks) [] done i) last

  -- what the run comes to: the rounds from here on, and the picks that they are
  abbrev After : State → ℕ → ℕ → Dispatched State → Driven
  After m done picks d = record { state = d.state; picks = picks + (d.state.work - m.work); rounds = done + d.rounds }

  goes_or_stops : (m : State) → FitsJob j m → goes_on M m ≡ not (stops m)
  goes_or_stops m x = rw (sym (fits-ended start.allowed words m x)) (go (job_ended m) (ltb m.work work_limit))
    where
      go : (a b : Bool) → (not a && b) ≡ not (a || not b)
      go true b = refl
      go false true = refl
      go false false = refl

  -- nothing more is picked
  stands-still : (m : State) (done picks budget : ℕ) → rounds lanes m (record { slots = []; done = done; budget = budget }) ≡ over
      → run budget m [] done picks ≡ After m done picks (record { state = m; rounds = 0 })
  stands-still m done picks budget e =
      let p : picks ≡ picks + (m.work - m.work) = omega arith in
      let r : done ≡ done + 0 = omega arith in
      ap left_rounds (stays cells words (rounds lanes) (work_limit - m.work) (record { state = m; kept = record { slots = []; done = done; budget = budget }; picks = picks }) e)
      ∙ ap₂ (λ a b. record { state = m; picks = a; rounds = b }) p r

  dispatch_grows : (b : ℕ) (m : State) → m.work ≤ (dispatch M lanes b m).state.work
  unfolding dispatch
  dispatch_grows zero m = omega arith
  dispatch_grows (suc b) m =
      by-test (goes_on M m)
      (λ g. let e : (dispatch M lanes (suc b) m).state.work ≡ (dispatch M lanes b (round M lanes m)).state.work = rw (g, dispatch) in
      omega (arith, e, dispatch_grows b (round M lanes m), work_grows (round_of M lanes m) m))
      (λ g. let e : (dispatch M lanes (suc b) m).state.work ≡ m.work = rw (g, dispatch) in omega (arith, e))

  pub dispatch-fits : (b : ℕ) (m : State) → FitsJob j m → FitsJob j (dispatch M lanes b m).state
  unfolding dispatch
  dispatch-fits zero m x = x
  dispatch-fits (suc b) m x =
      by-test (goes_on M m)
      (λ g. rw (g, dispatch) (dispatch-fits b (round M lanes m) (play-fits start (round_of M lanes m) m x)))
      (λ g. rw (g, dispatch) x)

  rounds-dispatched : (b : ℕ) (m : State) → FitsJob j m → (done picks : ℕ) → run (done + b) m [] done picks ≡ After m done picks (dispatch M lanes b m)
  unfolding dispatch
  rounds-dispatched zero m x done picks = stands-still m done picks (done + 0) (rounds-spent lanes m _ refl (omega arith))
  rounds-dispatched (suc b) m x done picks =
      by-test (stops m)
      (λ s. let g : goes_on M m ≡ false = goes_or_stops m x ∙ ap not s in
      rw (g, dispatch) (stands-still m done picks (done + suc b) (rounds_stop lanes m _ s)))
      (λ s. let g : goes_on M m ≡ true = goes_or_stops m x ∙ ap not s in
      rw (g, dispatch) (on s (rounds-dispatched b (round M lanes m) (play-fits start (round_of M lanes m) m x) (done + 1) (picks + ((round M lanes m).work - m.work)))))
    where
      on : stops m ≡ false
          → run (done + 1 + b) (round M lanes m) [] (done + 1) (picks + ((round M lanes m).work - m.work))
          ≡ After (round M lanes m) (done + 1) (picks + ((round M lanes m).work - m.work)) (dispatch M lanes b (round M lanes m))
          → run (done + suc b) m [] done picks
          ≡ After m done picks (record { state = (dispatch M lanes b (round M lanes m)).state; rounds = suc (dispatch M lanes b (round M lanes m)).rounds })
      on s rest =
          let room : m.work < work_limit = by-below m.work work_limit (λ h. h) (λ h. clash (stops-full m h) s) in
          let shown = fits-shows start.allowed words m x in
          let turns = round-turns M (forms_of cells (rank places)) (laws_hold start.allowed words) span (spans_hold cells words j.interval places) lanes m shown.0 shown.1 in
          let slots : taken m lanes m.places 0 ≡ round_of M lanes m = ap (λ n. taken m lanes n 0) x.its_places ∙ taken_is m lanes places 0 in
          let d = dispatch M lanes b (round M lanes m) in
          let total : done + suc b ≡ done + 1 + b = omega arith in
          let p : picks + ((round M lanes m).work - m.work) + (d.state.work - (round M lanes m).work) ≡ picks + (d.state.work - m.work) =
          omega (arith, work_grows (round_of M lanes m) m, dispatch_grows b (round M lanes m)) in
          let r : done + 1 + d.rounds ≡ done + suc d.rounds = omega arith in
          ap left_rounds (begins-round cells words lanes (done + suc b) some_lanes m start.allowed x s room done picks (omega arith))
          ∙ ap (λ ks. run (done + suc b) m ks (done + 1) picks) slots
          ∙ slots_played (done + suc b) (round_of M lanes m) m x turns (done + 1) picks
          ∙ ap (λ n. run n (round M lanes m) [] (done + 1) (picks + ((round M lanes m).work - m.work))) total
          ∙ rest
          ∙ ap₂ (λ a b. record { state = d.state; picks = a; rounds = b }) p r

  -- from a state of the job
  pub same_rounds : (budget : ℕ) (m : State) → FitsJob j m → SameRounds m (rounds_from cells words m lanes budget) (dispatch M lanes budget m)
  same_rounds budget m x =
      let z : 0 + budget ≡ budget = omega arith in
      let e = ap (λ n. run n m [] 0 0) (sym z) ∙ rounds-dispatched budget m x 0 0 in
      record {
        same_state = ap (λ (d : Driven). d.state) e;
        same_rounds = ap (λ (d : Driven). d.rounds) e ∙ omega arith;
        picks_counted = let p = ap (λ (d : Driven). d.picks) e in omega (arith, p, dispatch_grows budget m);
      }

pub course_is_dispatch : CourseIsDispatch
course_is_dispatch j a m₀ ks lanes some budget =
    let start = job_accepted j a in
    let fits : FitsJob j (played j (start_on j m₀) ks) =
    subst⁻¹ (λ n. FitsJob j (played j n ks)) (started_job j a m₀)
    (subst⁻¹ (FitsJob j) (played_is start ks _ (fresh-fits start)) (play-fits start ks _ (fresh-fits start))) in
    same_rounds start lanes some budget (played j (start_on j m₀) ks) fits
