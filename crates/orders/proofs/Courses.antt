-- A run along the course of a sound chooser is an order of picks that are all carried out, in every state that meets the shape test.
use Prim.Native.Nat.{ℕ, zero, suc, ◌+◌, ◌<◌, ◌≤◌}
use mathlib.Core.Path.{◌≡◌, refl, sym, ap, ◌∙◌, subst⁻¹}
use mathlib.Core.Logic.{◌⊎◌, inl, inr}
use mathlib.Core.Bool.{true, false}
use mathlib.Core.List.{List, [], ◌∷◌}
use native.Mathlib.Omega.{arith}
use lib.Dec.{ltb}
use lib.IntN.{ℤ}
use lib.ListN.{length}
use borrow.Author.Tests.{ltb-true}
use Rattle.facts.proofs.Tests.{clash, by-test}
use Rattle.agreement.specs.Picks.{once}
use Rattle.image.specs.Questions.{program_no, or_else}
use Rattle.task.specs.Frames.{running, work_limit}
use Rattle.drive.specs.declared.State.{State}
use Rattle.drive.specs.Slots.{at, Sized}
use Rattle.drive.specs.Ending.{job_ended}
use Rattle.drive.specs.Issue.{slot_no, issued}
use Rattle.machine.specs.Picking.{state_no_by, state_no, pick_no, picked}
use Rattle.drive.specs.Courses.{Next, over, turn, Chooser, Run, begun, picked_at, follows}
use Rattle.drive.specs.Passes.{stops}
use Rattle.drive.proofs.CourseLaws.{stays, picks_turn}
use Rattle.machine.proofs.PickLaws.{Passed, state_passed, picked-issued, picked_work}
use Rattle.drive.proofs.SlotQuestions.{slot_ready, ready-passes}
use Rattle.orders.specs.Demand.{Job, played_of, played, carried_out_of, carried_out}
use Rattle.orders.specs.Shapes.{Meets, ShapeEnsures}
use Rattle.orders.specs.Runs.{Sound, Untouched, IsOrder, course, CourseIsOrder, SpentOrOver}
use Rattle.orders.proofs.Shapes.{every-shape}

-- ---- a state that questions 1 to 20 let pass

pub state_meets : (cells : List ℕ) (words : List ℤ) (m : State) → Sized m → state_no cells words m ≡ 0 → Meets cells m
state_meets cells words m sized e = record { sized = sized; shaped = (state_passed cells words m e).shaped }

-- with them, in a state that meets the shape test
module _ {cells : List ℕ} {words : List ℤ} (passed : Passed cells words) (m : State) (x : Meets cells m) where
  pub ensures : ShapeEnsures cells words m
  ensures = every-shape cells words m passed.program x

  -- questions 1 to 20 let it pass
  pub meets-passes : state_no cells words m ≡ 0
  unfolding state_no_by or_else
  meets-passes = rw (passed.program, passed.lent.few_words, passed.lent.whole, x.shaped)

  -- and so 21 to 24 are left
  pub slot_is_pick : (k : ℕ) → pick_no cells words m k ≡ slot_no m k
  unfolding or_else
  slot_is_pick k = rw meets-passes

  pub pick-accepted : (k : ℕ) → slot_no m k ≡ 0 → pick_no cells words m k ≡ 0
  pick-accepted k e = slot_is_pick k ∙ e

  -- a slot that they let pass is picked, and the state after it meets the shape test again
  pub issued-meets : (k : ℕ) → slot_no m k ≡ 0 → Meets cells (issued cells words m k)
  issued-meets k e = subst⁻¹ (Meets cells) (sym (picked-issued cells words m k (pick-accepted k e))) (ensures.pick_meets k)

-- ---- turns: what a chooser is shown to be sound with

pub no-turn : {A C : Type 0} {k : ℕ} {c : C} → over ≡ turn k c → A
no-turn z = let n : ◌≡◌ {A = ℕ} 0 1 = cc in absurd (omega arith)

-- the job has not ended, and the work is below the limit
pub record GoesOn (m : State) : Type 0 where
  pub not_ended : job_ended m ≡ false
  pub below_limit : m.work < work_limit

pub its_goes_on : (m : State) → stops m ≡ false → GoesOn m
its_goes_on m e = by-test (job_ended m) (λ o. clash (rw o) e)
    (λ o. by-test (ltb m.work work_limit) (λ t. record { not_ended = o; below_limit = ltb-true m.work work_limit t }) (λ t. clash (rw (o, t)) e))

-- then a running task can be picked
pub slot_pickable : (m : State) → GoesOn m → (k : ℕ) → k < m.places → running (at m k) ≡ true → slot_no m k ≡ 0
slot_pickable m goes k below r = ready-passes m k goes.not_ended (record { below = below; runs = r; below_limit = goes.below_limit })

-- and in a state that meets the shape test there is one
pub some_runs : {cells : List ℕ} → program_no cells ≡ 0 → (m : State) → Meets cells m → GoesOn m → (k : ℕ) × (k < m.places) × (running (at m k) ≡ true)
some_runs {cells} program m x goes = (every-shape cells [] m program x).open_runs goes.not_ended

-- ---- a course is spent or over

module _ {C : Type 0} (j : Job) (next : Chooser C) where
  open j use {cells, words}

  -- from the run r a run of budget b has come to e
  abbrev Stops : ℕ → Run C → Run C → Type 0
  Stops b r e = (e.picks ≡ r.picks + b) ⊎ (next e.state e.kept ≡ over)

  stops-later : (b : ℕ) (r : Run C) → ((s : Run C) → Stops b s (course j next b s)) → Stops (suc b) r (course j next (suc b) r)
  stops-later b r rest = by (next r.state r.kept) refl
    where
      further : (e : Run C) → (e.picks ≡ r.picks + 1 + b) ⊎ (next e.state e.kept ≡ over) → Stops (suc b) r e
      further e (inl h) = inl (omega arith)
      further e (inr h) = inr h

      by : (n : Next C) → next r.state r.kept ≡ n → Stops (suc b) r (course j next (suc b) r)
      by over e = subst⁻¹ (Stops (suc b) r) (stays cells words next (suc b) r e) (inr e)
      by (turn k c) e =
          let s = picked_at cells words k c r in
          subst⁻¹ (Stops (suc b) r) (picks_turn cells words next b r k c e) (further (course j next b s) (rest s))

  stops_at : (b : ℕ) (r : Run C) → Stops b r (course j next b r)
  unfolding follows
  stops_at zero r = inl (omega arith)
  stops_at (suc b) r = stops-later b r (stops_at b)

pub spent_or_over : SpentOrOver
spent_or_over C j next m c b = by (stops_at j next b (begun m c))
  where
    by : {n : ℕ} {A : Type 0} → (n ≡ 0 + b) ⊎ A → (n ≡ b) ⊎ A
    by (inl h) = inl (omega arith)
    by (inr h) = inr h

-- ---- a course is an order

module _ {C : Type 0} (j : Job) (next : Chooser C) where
  open j use {cells, words}

  -- from the run r a run of budget b has come to e
  record Ordered (b : ℕ) (r e : Run C) : Type 0 where
    order : List ℕ
    leads_here : e.state ≡ played j r.state order
    all_carried_out : carried_out j once r.state order ≡ length order
    picks_counted : e.picks ≡ r.picks + length order
    rise_in_work : e.state.work ≡ r.state.work + length order
    its_within_budget : length order ≤ b
    within_limit : r.state.work ≤ work_limit → e.state.work ≤ work_limit
    meets : Meets cells e.state

  -- it picks no more
  no_more : (b : ℕ) (r : Run C) → Meets cells r.state → Ordered b r r
  unfolding played_of carried_out_of
  no_more b r x = record {
    order = [];
    leads_here = refl;
    all_carried_out = refl;
    picks_counted = omega arith;
    rise_in_work = omega arith;
    its_within_budget = omega arith;
    within_limit = λ h. h;
    meets = x;
  }

  -- one pick, and then the others
  picks_first : (b k : ℕ) (c : C) (r e : Run C) → r.state.work < work_limit → pick_no cells words r.state k ≡ 0
      → Ordered b (picked_at cells words k c r) e → Ordered (suc b) r e
  unfolding played_of carried_out_of
  picks_first b k c r e room accepts rest =
      let m = r.state in
      let same : picked cells words m k ≡ issued cells words m k = picked-issued cells words m k accepts in
      let more : (issued cells words m k).work ≡ m.work + 1 = ap (λ (n : State). n.work) (sym same) ∙ picked_work cells words m k accepts in
      record {
        order = k ∷ rest.order;
        leads_here = rest.leads_here ∙ ap (λ (n : State). played j n rest.order) (sym same);
        all_carried_out = rw (same, accepts, rest.all_carried_out) (omega arith);
        picks_counted = rest.picks_counted ∙ omega arith;
        rise_in_work = rest.rise_in_work ∙ omega arith;
        its_within_budget = omega (arith, rest.its_within_budget);
        within_limit = λ h. rest.within_limit (omega arith);
        meets = rest.meets;
      }

  module _ (sound : Sound cells next) (passed : Passed cells words) where
    one_more_lem : (b : ℕ) (r : Run C) → Meets cells r.state → ((s : Run C) → Meets cells s.state → Ordered b s (course j next b s))
        → Ordered (suc b) r (course j next (suc b) r)
    one_more_lem b r x rest = by (next r.state r.kept) refl
      where
        by : (n : Next C) → next r.state r.kept ≡ n → Ordered (suc b) r (course j next (suc b) r)
        by over e = subst⁻¹ (Ordered (suc b) r) (stays cells words next (suc b) r e) (no_more (suc b) r x)
        by (turn k c) e =
            let can = sound.turn_pickable passed.program r.state x r.kept k c e in
            let s = picked_at cells words k c r in
            subst⁻¹ (Ordered (suc b) r) (picks_turn cells words next b r k c e)
            (picks_first b k c r (course j next b s) (slot_ready r.state k can).below_limit (pick-accepted passed r.state x k can)
            (rest s (issued-meets passed r.state x k can)))

    ordered : (b : ℕ) (r : Run C) → Meets cells r.state → Ordered b r (course j next b r)
    unfolding follows
    ordered zero r x = no_more zero r x
    ordered (suc b) r x = one_more_lem b r x (ordered b)

    -- where the job has ended no slot can be picked
    over_when_ended : (m : State) → Meets cells m → (c : C) → job_ended m ≡ true → next m c ≡ over
    over_when_ended m x c o = by (next m c) refl
      where
        by : (n : Next C) → next m c ≡ n → next m c ≡ over
        by over e = e
        by (turn k d) e =
            let ready = slot_ready m k (sound.turn_pickable passed.program m x c k d e) in
            clash ready.runs ((ensures passed m x).ended_idle o k ready.below)

    is_order : (m : State) → Meets cells m → (c : C) (b : ℕ) → IsOrder j m b (course j next b (begun m c))
    unfolding follows
    is_order m x c b =
        let o = ordered b (begun m c) x in
        let count : (course j next b (begun m c)).picks ≡ length o.order = o.picks_counted ∙ omega arith in
        record {
          order = o.order;
          leads_here = o.leads_here;
          all_carried_out = o.all_carried_out;
          picks_counted = count;
          rise_in_work = omega (arith, o.rise_in_work, count);
          its_within_budget = omega (arith, o.its_within_budget, count);
          within_limit = o.within_limit;
          ended_before = λ e. untouched (stays cells words next b (begun m c) (over_when_ended m x c e));
          no_budget = λ z. untouched (ap (λ (n : ℕ). course j next n (begun m c)) z);
          meets = o.meets;
        }
      where
        untouched : {r : Run C} → r ≡ begun m c → Untouched m r
        untouched e = record { no_picks = ap (λ (s : Run C). s.picks) e; same_state = ap (λ (s : Run C). s.state) e }

pub course_is_order : CourseIsOrder
course_is_order C j next sound m sized e =
    is_order j next sound (state_passed j.cells j.words m e).passed m (state_meets j.cells j.words m sized e)
