-- The loop's walk along its course, whichever that is: what holds where it stands, and what each way on keeps. Nothing here knows what an
-- instruction does, but that it is one pick.
use mathlib.Core.Path.{◌≡◌, refl, sym, ap, ◌∙◌}
use mathlib.Core.Logic.{◌⊎◌, inl, inr}
use mathlib.Core.Bool.{true, false}
use mathlib.Core.List.{List}
use Prim.Native.Nat.{ℕ, ◌+◌, ◌-◌, ◌^◌, ◌<◌, ◌≤◌}
use native.Mathlib.Omega.{arith}
use lib.Dec.{eqb, ltb, leb}
use lib.Pow.{pow_pos}
use lib.IntN.{ℤ}
use lib.ListN.{length}
use borrow.Author.Tests.{le-leb, lt-leb, leb-true, ltb-true, ne_eqb, eq-eqb}
use Rattle.facts.proofs.Tests.{both_true, clash, by-below, by_order}
use Rattle.task.specs.Frames.{running, work_limit}
use Rattle.drive.specs.declared.State.{State}
use Rattle.drive.specs.Driven.{Driven}
use Rattle.turns.specs.declared.course.Course.{Course}
use Rattle.turns.specs.declared.course.Course.TheVariants.{Passes, Listed, Rounds}
use Rattle.turns.specs.declared.course.Position.{Position}
use Rattle.drive.specs.Slots.{at}
use Rattle.drive.specs.Settings.{rank}
use Rattle.drive.specs.Ending.{job_ended}
use Rattle.drive.specs.Issue.{slot_no, issued}
use Rattle.drive.specs.Passes.{run_from}
use Rattle.drive.specs.Rounds.{round_of}
use Rattle.turns.specs.Rows.{packed}
use Rattle.turns.specs.Stretches.{Stretch, nowhere, next_pass, next_stretch, lanes_of, rounds_of}
use Rattle.turns.specs.Walk.{walks_on, behind, to, gone_by, passed_on, picked_on, stopped_at, width}
use Rattle.drive.specs.Driving.{starts_in, left, driven}
use Rattle.drive.proofs.RankLaws.{rank_power}
use Rattle.drive.proofs.Models.{Allowed}
use Rattle.drive.proofs.ShapeLaws.{Fits}
use Rattle.drive.proofs.IssueLaws.{issued-fits, issued_work, issued_places}
use Rattle.drive.proofs.Carrying.{stand}
use Rattle.drive.proofs.Covering.{width-inside, width_quiet, width_some}
use Rattle.drive.proofs.Owning.{places_most, places_some}
use Rattle.drive.proofs.Quiet.{running_open}
use Rattle.drive.proofs.Positions.{Walks, Goes, goes, no_picks_left, Kept, picked-kept, stopped-kept, passed-same, Comes, comes_none, comes_one, stop_most}
use Rattle.drive.proofs.Seeking.{Quiet, Alone, alone, behind-below}
use Rattle.drive.proofs.Passing.{Passing, pass_begins, pass_goes-by, pass_behind, pass_again, pass_rests}
use Rattle.drive.proofs.ListLaws.{Listing, list_begins, list_goes-by, list_picked, list_next}
use Rattle.drive.proofs.RoundLaws.{Between, InRound, Lands, round-runs, round-stopped, round-on, round-ends, round-next}
use Rattle.drive.proofs.SlotQuestions.{ready-passes}
use Rattle.drive.proofs.Beyond.{issued-beyond}

-- what the loop was given
pub record Given : Type 0 where
  pub cells : List ℕ
  pub words : List ℤ
  pub state : State
  pub order : List ℕ
  pub course : Course

abbrev pub given : List ℕ → List ℤ → State → List ℕ → Course → Given
given cells words state order course = record { cells = cells; words = words; state = state; order = order; course = course }

abbrev pub result : Given → Driven
result g = driven g.cells g.words g.state g.order g.course

abbrev pub GivenAllowed : Given → Type 0
GivenAllowed g = Allowed g.cells g.state.interval g.state.places

-- the most stretches that a course has
abbrev pub most_stretches : Course → List ℕ → ℕ
most_stretches (Passes slot picks) order = 1
most_stretches Listed order = length order
most_stretches (Rounds lanes budget) order = budget

-- ---- where a course stands

module _ (cells : List ℕ) (words : List ℤ) where
  -- passes before their stretch
  pub record Unbegun (whole : Driven) (m : State) (p : Position) (picks slot budget : ℕ) : Type 0 where
    pub none_begun : p.begun ≡ 0
    pub no_picks : p.until ≤ m.work
    pub none_yet : picks ≡ 0
    pub slot_below : slot < m.places
    pub same : whole ≡ left (run_from cells words m slot budget)

  abbrev pub Standing : List ℕ → Driven → Course → State → Position → ℕ → Type 0
  Standing order whole (Passes slot budget) m p picks = Unbegun whole m p picks slot budget ⊎ Passing cells words whole m p picks
  Standing order whole Listed m p picks = Listing cells words order whole m p picks
  Standing order whole (Rounds lanes budget) m p picks = Between cells words lanes budget whole m p picks ⊎ InRound cells words lanes budget whole m p picks

pub record At (g : Given) (m : State) (p : Position) : Type 0 where
  pub fits : Fits g.cells g.state.interval g.state.places m
  pub slot_below : p.slot < m.places
  pub ahead_most : p.ahead ≤ 64
  pub until_most : p.until ≤ work_limit
  pub work_most : m.work ≤ work_limit
  pub begun_most : p.begun ≤ most_stretches g.course g.order
  pub picks : ℕ
  pub all_picks : g.state.work + picks ≡ m.work
  pub stands : Standing g.cells g.words g.order (result g) g.course m p picks

-- before the first stretch
pub at_first : (g : Given) → Fits g.cells g.state.interval g.state.places g.state → GivenAllowed g → starts_in g.course g.state ≡ true
    → g.state.work ≤ work_limit → At g g.state (nowhere 0 g.state.work)
at_first g fits allowed inside limit = record {
  fits = fits;
  slot_below = omega (arith, places_some g.state.places allowed.its_places_allowed);
  ahead_most = omega arith;
  until_most = limit;
  work_most = limit;
  begun_most = omega arith;
  picks = 0;
  all_picks = omega arith;
  stands = by g.course inside;
}
  where
    by : (course : Course) → starts_in course g.state ≡ true
        → Standing g.cells g.words g.order (driven g.cells g.words g.state g.order course) course g.state (nowhere 0 g.state.work) 0
    by (Passes slot budget) h = inl (record { none_begun = refl; no_picks = omega arith; none_yet = refl; slot_below = ltb-true slot g.state.places h; same = refl })
    by Listed h = list_begins g.cells g.words g.order g.state (nowhere 0 g.state.work) refl (omega arith) refl
    by (Rounds lanes budget) h = inl (record { some_lanes = ltb-true 0 lanes (both_true (ltb 0 lanes) (leb lanes 8) h).0; no_picks = omega arith; same = refl })

-- a round has 8 lanes at most
pub lanes_few : (course : Course) (m : State) → starts_in course m ≡ true → lanes_of course ≤ 8
lanes_few (Passes slot budget) m h = omega arith
lanes_few Listed m h = omega arith
lanes_few (Rounds lanes budget) m h = leb-true lanes 8 (both_true (ltb 0 lanes) (leb lanes 8) h).1

module _ (g : Given) (allowed : GivenAllowed g) {m : State} {p : Position} (a : At g m p) where
  open g use {cells, words, order, course}

  abbrev k : ℕ
  k = p.slot

  slot_below-there : k < g.state.places
  slot_below-there = omega (arith, a.slot_below, a.fits.its_places)

  some_places : 0 < m.places
  some_places = omega (arith, a.slot_below)

  few : m.places ≤ 64
  few = omega (arith, a.fits.its_places, places_most g.state.places allowed.its_places_allowed)

  abbrev Stands : Course → Driven → State → Position → ℕ → Type 0
  Stands c whole n q picks = Standing cells words order whole c n q picks

  -- ---- nothing runs at the slot: its places are gone by

  pub gone_by_lem : Walks m p → running (at m k) ≡ false → At g m (gone_by m.places (width (at m k).task.places) p)
  gone_by_lem walks idle = record {
    fits = a.fits;
    slot_below = behind-below m.places k _ some_places;
    ahead_most = omega (arith, a.ahead_most);
    until_most = a.until_most;
    work_most = a.work_most;
    begun_most = a.begun_most;
    picks = a.picks;
    all_picks = a.all_picks;
    stands = by course (result g) a.stands;
  }
    where
      passing : (whole : Driven) → Passing cells words whole m p a.picks → Passing cells words whole m (gone_by m.places (width (at m k).task.places) p) a.picks
      passing whole x = pass_goes-by cells words x _ (width-inside allowed m a.fits k a.slot_below) (width_quiet allowed m a.fits k a.slot_below idle)

      by : (c : Course) (whole : Driven) → Stands c whole m p a.picks → Stands c whole m (gone_by m.places (width (at m k).task.places) p) a.picks
      by (Passes slot budget) whole (inl u) = clash walks (no_picks_left m p u.no_picks)
      by (Passes slot budget) whole (inr x) = inr (passing whole x)
      by Listed whole x = list_goes-by cells words x walks idle _ (width_some (at m k).task.places)
      by (Rounds lanes budget) whole (inl u) = clash walks (no_picks_left m p u.no_picks)
      by (Rounds lanes budget) whole (inr x) = clash (round-runs cells words lanes budget x few walks) idle

  -- ---- a running task in its places

  pub record Tile : Type 0 where
    pub some : 0 < (at m k).task.places
    pub inside : k + (at m k).task.places ≤ m.places
    pub quiet : Quiet m (k + 1) (k + (at m k).task.places)

  pub tile : running (at m k) ≡ true → Tile
  tile runs_there =
      let s = stand allowed words m k a.fits slot_below-there runs_there in
      let P : g.state.places ≡ 2 ^ rank g.state.places = rank_power g.state.places allowed.its_places_allowed in
      record {
        some = omega (arith, s.formed.has_places, pow_pos s.height);
        inside = omega (arith, s.formed.has_places, s.inside, P, a.fits.its_places);
        quiet = λ i x y. s.alone i (omega arith) (omega (arith, s.formed.has_places));
      }

  -- ---- its task is picked

  module _ (walks : Walks m p) (runs_there : running (at m k) ≡ true) {m' : State} (is : m' ≡ issued cells words m k) where
    room : m.work < work_limit
    room = omega (arith, (goes {m = m} {p = p} walks).picks_left, a.until_most)

    same_places : m'.places ≡ m.places
    same_places = ap (λ (n : State). n.places) is ∙ issued_places cells words m k

    fits_on : Fits cells g.state.interval g.state.places m'
    fits_on = rw is (issued-fits allowed words m k a.fits slot_below-there runs_there room)

    rise : g.state.work + (a.picks + 1) ≡ m'.work
    rise = let more = ap (λ (n : State). n.work) is ∙ issued_work cells words m k in omega (arith, a.all_picks)

    ready : eqb (slot_no m k) 0 ≡ true
    ready = eq-eqb (slot_no m k) 0 (ready-passes m k (running_open allowed words m a.fits k a.slot_below runs_there) (record { below = a.slot_below; runs = runs_there; below_limit = room }))

    abbrev w : ℕ
    w = (at m k).task.places

    abbrev on : Goes m p
    on = goes {m = m} {p = p} walks

    -- the course stands at a slot of the state, with no more stretches begun than it has
    record Stood (c : Course) (whole : Driven) (q : Position) : Type 0 where
      slot_below : q.slot < m.places
      begun_most : q.begun ≤ most_stretches c order
      stands : Stands c whole m' q (a.picks + 1)

    onward : {q : Position} → Kept p q → Stood course (result g) q → At g m' q
    onward {q} kept s = record {
      fits = fits_on;
      slot_below = omega (arith, same_places, s.slot_below);
      ahead_most = kept.ahead_most;
      until_most = omega (arith, kept.until_same, a.until_most);
      work_most = let more = ap (λ (n : State). n.work) is ∙ issued_work cells words m k in omega (arith, room);
      begun_most = s.begun_most;
      picks = a.picks + 1;
      all_picks = rise;
      stands = s.stands;
    }

    -- behind the task's places it is as before whether a task runs
    beyond : (i : ℕ) → k + w ≤ i → running (at m' i) ≡ running (at m i)
    beyond i h = ap (λ (n : State). running (at n i)) is ∙ issued-beyond allowed words m k a.fits slot_below-there runs_there i h

    -- passes go on behind these places, in the others of which nothing runs
    passed : (whole : Driven) → Passing cells words whole m p a.picks → (v : ℕ) → 0 < v → k + v ≤ m.places → Quiet m' (k + 1) (k + v)
        → Passing cells words whole m' (to (behind m.places k v) m.places p) (a.picks + 1)
    passed whole x v some inside quiet =
        pass_behind cells words x allowed a.fits a.slot_below runs_there on.picks_left a.until_most is v same_places some inside quiet

    -- a round goes on at a slot of the row
    in_round : (lanes budget : ℕ) {whole : Driven} {q : Position} → Lands cells words lanes budget whole m' q (a.picks + 1) → Stood (Rounds lanes budget) whole q
    in_round lanes budget y = record { slot_below = omega (arith, y.slot_below, same_places); begun_most = y.begun_most; stands = inr y.stands }

    -- the task has ended its side, or forked; v of its places are gone by, in the others of which nothing runs
    pub picked_stop : (v : ℕ) → 0 < v → k + v ≤ m.places → Quiet m' (k + 1) (k + v) → At g m' (stopped_at m.places v p)
    picked_stop v some inside quiet = onward (stopped-kept m.places v p few a.ahead_most) (by course (result g) a.stands a.begun_most)
      where
        by : (c : Course) (whole : Driven) → Stands c whole m p a.picks → p.begun ≤ most_stretches c order → Stood c whole (stopped_at m.places v p)
        by (Passes slot budget) whole (inl u) most = clash walks (no_picks_left m p u.no_picks)
        by (Passes slot budget) whole (inr x) most =
            rw (eq-eqb p.row 0 x.no_row)
            (record { slot_below = behind-below m.places k v some_places; begun_most = most; stands = inr (passed whole x v some inside quiet) })
        by Listed whole x most =
            rw (eq-eqb p.row 0 x.no_row)
            (record { slot_below = behind-below m.places k v some_places; begun_most = most; stands = list_picked cells words x walks ready is refl refl refl })
        by (Rounds lanes budget) whole (inl u) most = clash walks (no_picks_left m p u.no_picks)
        by (Rounds lanes budget) whole (inr x) most =
            let t = tile runs_there in
            rw (ne_eqb p.row 0 x.has_row)
            (in_round lanes budget
            (round-stopped cells words lanes budget x few allowed a.fits walks runs_there is same_places w t.some t.inside t.quiet beyond most))

    -- the task runs on, and the other slots are as they were
    pub picked-on : running (at m' k) ≡ true → ((i : ℕ) → (i ≡ k → ⊥) → running (at m' i) ≡ running (at m i)) → At g m' (picked_on m.places m'.work w p)
    picked-on still others = onward (picked-kept m.places w p few a.ahead_most m'.work) (by course (result g) a.stands a.begun_most)
      where
        quiet_on : Quiet m' (k + 1) (k + w)
        quiet_on i x y = others i (λ e. absurd (omega arith)) ∙ (tile runs_there).quiet i x y

        all_same : (i : ℕ) → running (at m' i) ≡ running (at m i)
        all_same i = by_order i k (λ h. others i (λ e. absurd (omega arith))) (λ e. rw e (still ∙ sym runs_there)) (λ h. others i (λ e. absurd (omega arith)))

        alone-on : p.ahead ≤ w → {whole : Driven} → Passing cells words whole m p a.picks → Alone m' k
        alone-on h x i below other =
            others i other
            ∙ alone x.seeks (m.places - p.ahead) w (omega (arith, x.counted)) (omega (arith, x.ahead_most)) (tile runs_there).inside (tile runs_there).quiet i
            (omega (arith, same_places)) other

        -- passes: behind the task's places, or at once again where it runs alone
        passes_on : (slot budget : ℕ) (whole : Driven) → Passing cells words whole m p a.picks → p.begun ≤ 1 → Stood (Passes slot budget) whole (passed_on m.places w p)
        passes_on slot budget whole x most = by-below w p.ahead
            (λ h. rw (lt-leb p.ahead w h) (record {
              slot_below = behind-below m.places k w some_places;
              begun_most = most;
              stands = inr (passed whole x w (tile runs_there).some (tile runs_there).inside quiet_on);
            }))
            (λ h. rw (le-leb p.ahead w h) (record {
              slot_below = a.slot_below;
              begun_most = most;
              stands = inr (pass_again cells words x allowed a.fits a.slot_below runs_there on.picks_left a.until_most is same_places on.places_left (alone-on h x));
            }))

        passed-below : (passed_on m.places w p).slot < m.places
        passed-below = by-below w p.ahead (λ h. rw (lt-leb p.ahead w h) (behind-below m.places k w some_places)) (λ h. rw (le-leb p.ahead w h) a.slot_below)

        by : (c : Course) (whole : Driven) → Stands c whole m p a.picks → p.begun ≤ most_stretches c order → Stood c whole (picked_on m.places m'.work w p)
        by (Passes slot budget) whole (inl u) most = clash walks (no_picks_left m p u.no_picks)
        by (Passes slot budget) whole (inr x) most = rw (eq-eqb p.row 0 x.no_row) (passes_on slot budget whole x most)
        by Listed whole x most =
            let same = passed-same m.places w p in
            rw (eq-eqb p.row 0 x.no_row) (record {
              slot_below = passed-below;
              begun_most = omega (arith, same.begun, most);
              stands = list_picked cells words x walks ready is same.until same.begun same.row;
            })
        by (Rounds lanes budget) whole (inl u) most = clash walks (no_picks_left m p u.no_picks)
        by (Rounds lanes budget) whole (inr x) most =
            let t = tile runs_there in
            rw (ne_eqb p.row 0 x.has_row)
            (in_round lanes budget
            (round-on cells words lanes budget x few allowed a.fits walks runs_there is same_places w t.some t.inside t.quiet beyond fits_on all_same most))

  -- ---- the walk does not go on: the next stretch, or the end

  pub comes-next : walks_on false m.work p ≡ false → {row : ℕ} → row ≡ packed (round_of (lanes_of course) m)
      → Comes (result g) m a.picks p.begun (most_stretches course order) (rounds_of course) (λ q. At g m q)
      (next_stretch course order p.begun m.places m.work (job_ended m) row)
  comes-next h {row} is_row = comes _ (by course (result g) a.stands a.begun_most is_row)
    where
      -- where the course stands at a stretch, the loop does
      comes : (s : Stretch) → Comes (result g) m a.picks p.begun (most_stretches course order) (rounds_of course) (λ q. Stands course (result g) m q a.picks) s
          → Comes (result g) m a.picks p.begun (most_stretches course order) (rounds_of course) (λ q. At g m q) s
      comes s (comes_none o b u r e) = comes_none o b u r e
      comes s (comes_one o f stands) = comes_one o f (record {
        fits = a.fits;
        slot_below = f.slot_below;
        ahead_most = f.ahead_most;
        until_most = f.until_most;
        work_most = a.work_most;
        begun_most = f.begun_most;
        picks = a.picks;
        all_picks = a.all_picks;
        stands = stands;
      })

      first : (whole : Driven) (slot budget : ℕ) → Unbegun cells words whole m p a.picks slot budget
          → Comes whole m a.picks p.begun 1 (λ _. 0) (λ q. Stands (Passes slot budget) whole m q a.picks) (next_pass slot budget p.begun m.places m.work)
      first whole slot budget u = rw (eq-eqb p.begun 0 u.none_begun) (comes_one refl
          (record {
            begun_more = omega (arith, u.none_begun);
            begun_most = omega arith;
            slot_below = u.slot_below;
            ahead_most = few;
            until_most = stop_most m.work budget;
          })
          (inr (rw (u.same, u.none_yet) (pass_begins cells words m slot budget u.slot_below))))

      last : (whole : Driven) (slot budget : ℕ) → Passing cells words whole m p a.picks → p.begun ≤ 1
          → Comes whole m a.picks p.begun 1 (λ _. 0) (λ q. Stands (Passes slot budget) whole m q a.picks) (next_pass slot budget p.begun m.places m.work)
      last whole slot budget x most =
          rw (ne_eqb p.begun 0 x.is_begun) (comes_none refl (omega arith) refl refl (pass_rests cells words x allowed a.fits h))

      by : (c : Course) (whole : Driven) → Stands c whole m p a.picks → p.begun ≤ most_stretches c order → row ≡ packed (round_of (lanes_of c) m)
          → Comes whole m a.picks p.begun (most_stretches c order) (rounds_of c) (λ q. Stands c whole m q a.picks)
          (next_stretch c order p.begun m.places m.work (job_ended m) row)
      by (Passes slot budget) whole (inl u) most r = first whole slot budget u
      by (Passes slot budget) whole (inr x) most r = last whole slot budget x most
      by Listed whole x most r = list_next cells words x h
      by (Rounds lanes budget) whole (inl u) most r = round-next cells words lanes budget u.some_lanes m p allowed a.fits few a.picks u.same r
      by (Rounds lanes budget) whole (inr x) most r =
          round-next cells words lanes budget x.some_lanes m p allowed a.fits few a.picks (round-ends cells words lanes budget x few h) r

-- the number of picks is the rise in work
pub rise_is : (g : Given) {m : State} {p : Position} (a : At g m p) → m.work - g.state.work ≡ a.picks
rise_is g a = omega (arith, a.all_picks)
