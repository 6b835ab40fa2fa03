-- Passes, as the loop goes through them: from where it stands, the run with the picks that are left is the whole run.
use mathlib.Core.Path.{◌≡◌, refl, sym, ap, ◌∙◌}
use mathlib.Core.Bool.{true, false}
use mathlib.Core.List.{List}
use Prim.Native.Nat.{ℕ, zero, suc, ◌+◌, ◌-◌, ◌<◌, ◌≤◌}
use native.Mathlib.Omega.{arith}
use lib.IntN.{ℤ}
use borrow.Author.Tests.{lt-ltb, le-ltb}
use Rattle.facts.proofs.Tests.{clash, by-test, by-below}
use Rattle.task.specs.Frames.{running, work_limit}
use Rattle.drive.specs.declared.State.{State}
use Rattle.drive.specs.Driven.{Driven}
use Rattle.drive.specs.Slots.{at}
use Rattle.drive.specs.Ending.{job_ended}
use Rattle.drive.specs.Issue.{issued}
use Rattle.drive.specs.Courses.{over, turn, Run, begun, picked_at, follows}
use Rattle.drive.specs.Passes.{next_pick, stops, passes, runs, run_from}
use Rattle.turns.specs.declared.course.Position.{Position}
use Rattle.turns.specs.Stretches.{stop_at, walk_from}
use Rattle.turns.specs.Walk.{walks_on, behind, to, gone_by}
use Rattle.drive.specs.Driving.{left}
use Rattle.drive.proofs.CourseLaws.{stays, picks_turn}
use Rattle.drive.proofs.Models.{Allowed}
use Rattle.drive.proofs.ShapeLaws.{Fits}
use Rattle.drive.proofs.IssueLaws.{issued_work}
use Rattle.drive.proofs.Quiet.{running_open, quiet_ended}
use Rattle.drive.proofs.Positions.{rests}
use Rattle.drive.proofs.Seeking.{Seeks, Quiet, Alone, finds, none_runs, goes_by, begins, begins-behind, comes_back}

-- ---- the run

passes_over_lem : (m : State) (slot : ℕ) → stops m ≡ true → passes m slot ≡ over
unfolding passes
passes_over_lem m slot e = rw (passes, e)

passes-turn : (m : State) (slot : ℕ) → stops m ≡ false → passes m slot ≡ turn (next_pick m slot) (next_pick m slot + 1)
unfolding passes
passes-turn m slot e = rw (passes, e)

pub stops-not : (m : State) → job_ended m ≡ false → m.work < work_limit → stops m ≡ false
stops-not m e h = rw (e, lt-ltb m.work work_limit h)

pub stops-full : (m : State) → work_limit ≤ m.work → stops m ≡ true
stops-full m h = by-test (job_ended m) (λ e. rw e) (λ e. rw (e, le-ltb m.work work_limit h))

module _ (cells : List ℕ) (words : List ℤ) where
  -- where it stops it stays, with any budget
  pub run-rests : (n : ℕ) (r : Run ℕ) → stops r.state ≡ true → runs cells words n r ≡ r
  run-rests n r e = stays cells words passes n r (passes_over_lem r.state r.kept e)

  -- elsewhere it picks the next running task
  pub picks_next : (n : ℕ) (r : Run ℕ) → stops r.state ≡ false
      → runs cells words (suc n) r
      ≡ runs cells words n (picked_at cells words (next_pick r.state r.kept) (next_pick r.state r.kept + 1) r)
  picks_next n r e = picks_turn cells words passes n r _ _ (passes-turn r.state r.kept e)

  picks_on : (n : ℕ) (r : Run ℕ) (k : ℕ) → 0 < n → stops r.state ≡ false → next_pick r.state r.kept ≡ k
      → runs cells words n r ≡ runs cells words (n - 1) (picked_at cells words k (k + 1) r)
  picks_on zero r k h e f = absurd (omega arith)
  picks_on (suc n) r k h e f = picks_next n r e ∙ rw (f, less_one n)
    where
      less_one : (n : ℕ) → suc n - 1 ≡ n
      less_one n = omega arith

  -- no budget takes it past the limit
  enough : (n : ℕ) (r : Run ℕ) → work_limit ≤ n + r.state.work → runs cells words n r ≡ runs cells words (work_limit - r.state.work) r
  enough zero r h = let none : work_limit - r.state.work ≡ 0 = omega arith in ap (λ n. runs cells words n r) (sym none)
  enough (suc n) r h =
      by-test (stops r.state)
      (λ t. run-rests (suc n) r t ∙ sym (run-rests (work_limit - r.state.work) r t))
      (λ t. let k = next_pick r.state r.kept in
      let r' = picked_at cells words k (k + 1) r in
      let more : r'.state.work ≡ r.state.work + 1 = issued_work cells words r.state k in
      let room : r.state.work < work_limit = below r.state t in
      let fewer : work_limit - r.state.work ≡ suc (work_limit - r'.state.work) = omega arith in
      picks_next n r t ∙ enough n r' (omega arith)
      ∙ sym (ap (λ n. runs cells words n r) fewer ∙ picks_next (work_limit - r'.state.work) r t))
    where
      below : (m : State) → stops m ≡ false → m.work < work_limit
      below m t = by-below m.work work_limit (λ b. b) (λ b. clash (stops-full m b) t)

  -- ---- where the loop stands

  pub record Passing (whole : Driven) (m : State) (p : Position) (picks : ℕ) : Type 0 where
    pub from : ℕ
    pub passed : ℕ
    pub counted : m.places ≤ passed + p.ahead
    pub ahead_most : p.ahead ≤ m.places
    pub seeks : Seeks m from passed p.slot
    pub is_begun : p.begun ≡ 0 → ⊥
    pub no_row : p.row ≡ 0
    pub same : whole ≡ left (runs cells words (p.until - m.work) (record { state = m; kept = from; picks = picks }))

  -- at the first slot of the stretch
  pub pass_begins : (m : State) (slot budget : ℕ) → slot < m.places
      → Passing (left (run_from cells words m slot budget)) m (walk_from slot m.places (stop_at m.work budget) 1).first 0
  pass_begins m slot budget below = record {
    from = slot;
    passed = 0;
    counted = omega arith;
    ahead_most = omega arith;
    seeks = begins m slot below;
    is_begun = λ z. absurd (omega arith);
    no_row = refl;
    same = ap left (by-below budget (work_limit - m.work)
        (λ h. let n : stop_at m.work budget - m.work ≡ budget = rw (lt-ltb budget (work_limit - m.work) h) (omega arith) in
        ap (λ n. runs cells words n (begun m slot)) (sym n))
        (λ h. let n : stop_at m.work budget ≡ work_limit = rw (le-ltb budget (work_limit - m.work) h) in
        enough budget (begun m slot) (omega arith) ∙ ap (λ n. runs cells words (n - m.work) (begun m slot)) (sym n)));
  }

  module _ {whole : Driven} {m : State} {p : Position} {picks : ℕ} (x : Passing whole m p picks) where
    -- places in which nothing runs
    pub pass_goes-by : (w : ℕ) → p.slot + w ≤ m.places → Quiet m p.slot (p.slot + w) → Passing whole m (gone_by m.places w p) picks
    pass_goes-by w fits quiet = record {
      from = x.from;
      passed = x.passed + w;
      counted = omega (arith, x.counted);
      ahead_most = omega (arith, x.ahead_most);
      seeks = goes_by x.seeks w fits quiet;
      is_begun = x.is_begun;
      no_row = x.no_row;
      same = x.same;
    }

    module _ {interval places : ℕ} (allowed : Allowed cells interval places) (fits : Fits cells interval places m) where
      abbrev here : Run ℕ
      here = record { state = m; kept = x.from; picks = picks }

      -- where the walk does not go on, the run has stopped
      pub pass_rests : walks_on false m.work p ≡ false → whole ≡ record { state = m; picks = picks; rounds = 0 }
      unfolding follows
      pass_rests h = x.same ∙ ap left (rests m p h spent idle)
        where
          spent : p.until ≤ m.work → runs cells words (p.until - m.work) here ≡ here
          spent none = let z : p.until - m.work ≡ 0 = omega arith in ap (λ n. runs cells words n here) z

          idle : m.work < p.until → p.ahead ≡ 0 → runs cells words (p.until - m.work) here ≡ here
          idle some all =
              let quiet = none_runs x.seeks (omega (arith, x.counted)) in
              run-rests (p.until - m.work) here (rw (quiet_ended allowed words m fits (λ k b. quiet k (omega arith) b)))

      -- slot k's task is picked
      module _ (below : p.slot < m.places) (runs_there : running (at m p.slot) ≡ true) (some : m.work < p.until) (most : p.until ≤ work_limit)
          {m' : State} (is : m' ≡ issued cells words m p.slot) where
        abbrev k : ℕ
        k = p.slot

        found : next_pick m x.from ≡ k
        found = by-below x.passed m.places (λ few. finds x.seeks few below runs_there)
            (λ all. clash runs_there (none_runs x.seeks all k (omega arith) below))

        same-on : whole ≡ left (runs cells words (p.until - m'.work) (record { state = m'; kept = k + 1; picks = picks + 1 }))
        same-on =
            let open' = stops-not m (running_open allowed words m fits k below runs_there) (omega arith) in
            let more : m'.work ≡ m.work + 1 = ap (λ (n : State). n.work) is ∙ issued_work cells words m k in
            let fewer : p.until - m.work - 1 ≡ p.until - m'.work = omega arith in
            x.same ∙ ap left (picks_on (p.until - m.work) _ k (omega arith) open' found
            ∙ ap (λ (n : ℕ). runs cells words n (record { state = issued cells words m k; kept = k + 1; picks = picks + 1 })) fewer
            ∙ ap (λ (n : State). runs cells words (p.until - m'.work) (record { state = n; kept = k + 1; picks = picks + 1 })) (sym is))

        -- and the walk goes on behind w places, in the others of which nothing runs
        pub pass_behind : (w : ℕ) → m'.places ≡ m.places → 0 < w → k + w ≤ m.places → Quiet m' (k + 1) (k + w)
            → Passing whole m' (to (behind m.places k w) m.places p) (picks + 1)
        pass_behind w same_places some_places inside quiet = record {
          from = k + 1;
          passed = w - 1;
          counted = omega arith;
          ahead_most = omega arith;
          seeks = rw (sym same_places) (begins-behind m' k w some_places (omega arith) quiet);
          is_begun = x.is_begun;
          no_row = x.no_row;
          same = same-on;
        }

        -- or it comes back at once
        pub pass_again : m'.places ≡ m.places → 0 < p.ahead → Alone m' k → Passing whole m' p (picks + 1)
        pass_again same_places some-ahead others = record {
          from = k + 1;
          passed = m'.places - 1;
          counted = omega arith;
          ahead_most = omega (arith, x.ahead_most);
          seeks = comes_back m' k (omega arith) others;
          is_begun = x.is_begun;
          no_row = x.no_row;
          same = same-on;
        }

-- with a budget of 1, from a slot with a running task, a run is one pick
pub one_pick : {cells : List ℕ} {interval places : ℕ} → Allowed cells interval places → (words : List ℤ) (m : State) → Fits cells interval places m → (k : ℕ)
    → k < m.places → running (at m k) ≡ true → m.work < work_limit
    → run_from cells words m k 1 ≡ record { state = issued cells words m k; kept = k + 1; picks = 1 }
unfolding follows
one_pick {cells} allowed words m x k below r room =
    picks_on cells words 1 (begun m k) k (omega arith) (stops-not m (running_open allowed words m x k below r) room)
    (finds (begins m k below) (omega arith) below r)
