-- Rounds, as the loop goes through them: along a row of slots, those that the round takes. A pick changes at no slot behind its task's places
-- whether a task runs there, so the slots that are left stay those of the round; and while every task picked runs on, the next round takes the
-- same row.
use mathlib.Core.Path.{◌≡◌, refl, sym, ap, ◌∙◌}
use mathlib.Core.Logic.{◌⊎◌, inr}
use mathlib.Core.Bool.{true, false, cond}
use mathlib.Core.List.{List, [], ◌∷◌}
use Prim.Native.Nat.{ℕ, suc, ◌+◌, ◌-◌, ◌/◌, ◌<◌, ◌≤◌}
use native.Mathlib.Omega.{arith}
use lib.Dec.{ltb}
use lib.IntN.{ℤ}
use borrow.Author.Tests.{ltb-true, lt-ltb, le-ltb, lt-leb, le-leb}
use Rattle.facts.proofs.Tests.{both_true, clash, by-test, by-below}
use Rattle.task.specs.Frames.{running, work_limit}
use Rattle.turns.specs.declared.course.Position.{Position}
use Rattle.turns.specs.Rows.{packed, slot_in}
use Rattle.turns.specs.Stretches.{done, round_from, next_round}
use Rattle.turns.specs.Walk.{walks_on, taking, goes_again, round_on, left_of}
use Rattle.drive.specs.declared.State.{State}
use Rattle.drive.specs.Driven.{Driven}
use Rattle.drive.specs.Slots.{at}
use Rattle.drive.specs.Ending.{job_ended}
use Rattle.drive.specs.Issue.{issued}
use Rattle.drive.specs.Courses.{over, turn, Run, follows}
use Rattle.drive.specs.Passes.{stops}
use Rattle.drive.specs.Rounds.{taken, round_of, Rounding, takes, rounds}
use Rattle.drive.specs.Driving.{left_rounds}
use Rattle.drive.proofs.CourseLaws.{stays, picks_turn}
use Rattle.drive.proofs.IssueLaws.{issued_work}
use Rattle.drive.proofs.Models.{Allowed}
use Rattle.drive.proofs.ShapeLaws.{Fits}
use Rattle.drive.proofs.Quiet.{quiet_ended, running_open}
use Rattle.drive.proofs.Seeking.{Quiet}
use Rattle.drive.proofs.Taking.{taken-past, taken-same, taken_some, Found, taken-found}
use Rattle.drive.proofs.RowLaws.{slot_in_first, others-packed, packed_none, none-packed}
use Rattle.drive.proofs.Passing.{stops-not, stops-full}
use Rattle.drive.proofs.Positions.{Walks, goes, rests, Comes, comes_none, comes_one}

-- ---- the chooser

module _ (lanes : ℕ) (m : State) (c : Rounding) where
  pub rounds_stop : stops m ≡ true → rounds lanes m c ≡ over
  unfolding rounds
  rounds_stop e = rw (rounds, e)

  pub rounds-spent : c.slots ≡ [] → c.budget ≤ c.done → rounds lanes m c ≡ over
  unfolding rounds
  rounds-spent e h = by-test (stops m) rounds_stop (λ t. rw (rounds, t, e, le-ltb c.done c.budget h))

  rounds-begin : stops m ≡ false → c.slots ≡ [] → c.done < c.budget → rounds lanes m c ≡ takes (round_of lanes m) (c.done + 1) c.budget
  unfolding rounds
  rounds-begin t e h = rw (rounds, t, e, lt-ltb c.done c.budget h)

  pub rounds-go : (k : ℕ) (ks : List ℕ) → stops m ≡ false → c.slots ≡ k ∷ ks → rounds lanes m c ≡ turn k (record { slots = ks; done = c.done; budget = c.budget })
  unfolding rounds
  rounds-go k ks t e = rw (rounds, t, e)

module _ (cells : List ℕ) (words : List ℤ) (lanes budget : ℕ) where
  -- the run from here, with these slots left of the round
  abbrev pub round_run : ℕ → State → List ℕ → ℕ → ℕ → Run Rounding
  round_run n m ks done picks =
      follows cells words (rounds lanes) n (record { state = m; kept = record { slots = ks; done = done; budget = budget }; picks = picks })

  -- what it leaves
  abbrev pub leaves_from : State → List ℕ → ℕ → ℕ → Driven
  leaves_from m ks done picks = left_rounds (round_run (work_limit - m.work) m ks done picks)

  -- ---- a round begins

  -- a round that begins is the run with its slots left
  module _ (some_lanes : 0 < lanes) (m : State) {interval places : ℕ} (allowed : Allowed cells interval places) (fits : Fits cells interval places m)
      (its_goes_on : stops m ≡ false) (room : m.work < work_limit) (done picks : ℕ) (more : done < budget) where
    begins_with : (j : ℕ) (js : List ℕ) → round_of lanes m ≡ j ∷ js
        → round_run (work_limit - m.work) m [] done picks ≡ round_run (work_limit - m.work) m (j ∷ js) (done + 1) picks
    begins_with j js e =
        let n : work_limit - m.work ≡ suc (work_limit - m.work - 1) = omega (arith, room) in
        let first = rounds-begin lanes m (record { slots = []; done = done; budget = budget }) its_goes_on refl more ∙ ap (λ ks. takes ks (done + 1) budget) e in
        ap (λ i. round_run i m [] done picks) n
        ∙ picks_turn cells words (rounds lanes) (work_limit - m.work - 1) _ j _ first
        ∙ sym (picks_turn cells words (rounds lanes) (work_limit - m.work - 1) _ j _ (rounds-go lanes m _ j js its_goes_on refl))
        ∙ ap (λ i. round_run i m (j ∷ js) (done + 1) picks) (sym n)

    -- some slot is taken: in a state of the shape a task runs where the job has not ended
    none-idle : round_of lanes m ≡ [] → (i : ℕ) → i < m.places → running (at m i) ≡ false
    none-idle e i b =
        let l : lanes ≡ suc (lanes - 1) = omega (arith, some_lanes) in
        taken_some m (lanes - 1) m.places 0 (ap (λ n. taken m n m.places 0) (sym l) ∙ e) i (omega arith) (omega arith)

    by_slots : (ks : List ℕ) → round_of lanes m ≡ ks
        → round_run (work_limit - m.work) m [] done picks ≡ round_run (work_limit - m.work) m (round_of lanes m) (done + 1) picks
    by_slots [] e = clash (rw (quiet_ended allowed words m fits (none-idle e))) its_goes_on
    by_slots (j ∷ js) e = begins_with j js e ∙ ap (λ ks. round_run (work_limit - m.work) m ks (done + 1) picks) (sym e)

    pub begins-round : round_run (work_limit - m.work) m [] done picks ≡ round_run (work_limit - m.work) m (round_of lanes m) (done + 1) picks
    begins-round = by_slots (round_of lanes m) refl

  -- ---- where the loop stands

  -- the slots from `from` on that so many lanes take
  abbrev slots_left : State → ℕ → ℕ → List ℕ
  slots_left m l from = taken m l (m.places - from) from

  -- before the first round
  pub record Between (whole : Driven) (m : State) (p : Position) (picks : ℕ) : Type 0 where
    pub some_lanes : 0 < lanes
    pub no_picks : p.until ≤ m.work
    pub same : whole ≡ leaves_from m [] p.begun picks

  -- these slots are left, and the loop stands at the first
  pub record InTurn (p : Position) (ks : List ℕ) : Type 0 where
    pub rest_is : p.rest ≡ packed ks
    pub some_rest : 0 < p.rest
    pub slot_is : p.slot ≡ slot_in p.rest

  -- in a round
  pub record InRound (whole : Driven) (m : State) (p : Position) (picks : ℕ) : Type 0 where
    pub some_lanes : 0 < lanes
    pub has_row : p.row ≡ 0 → ⊥
    pub to_limit : p.until ≡ work_limit
    pub last_most : p.last ≤ budget
    pub row_again : p.begun < p.last → p.row ≡ packed (round_of lanes m)
    pub from : ℕ
    pub lanes_left : ℕ
    pub in_turn : 0 < p.ahead → InTurn p (slots_left m lanes_left from)
    pub none_left : p.ahead ≡ 0 → slots_left m lanes_left from ≡ []
    pub same : whole ≡ leaves_from m (slots_left m lanes_left from) p.begun picks

  -- the slot that the loop stands at, and those behind it
  record Heads (m : State) (p : Position) (l from : ℕ) : Type 0 where
    rest : List ℕ
    is : slots_left m l from ≡ p.slot ∷ rest
    found : Found m l (m.places - from) from p.slot rest
    below : p.slot < m.places
    others : p.rest / 128 ≡ packed rest

  heads : (m : State) (p : Position) (l from : ℕ) → m.places ≤ 64 → InTurn p (slots_left m l from) → Heads m p l from
  heads m p l from few t = go (slots_left m l from) refl
    where
      go : (ks : List ℕ) → slots_left m l from ≡ ks → Heads m p l from
      go [] e = absurd (omega (arith, t.rest_is ∙ ap packed e ∙ none-packed, t.some_rest))
      go (k ∷ ks) e =
          let f = taken-found m l (m.places - from) from k ks e in
          let row : p.rest ≡ packed (k ∷ ks) = t.rest_is ∙ ap packed e in
          let small : k < 64 = omega (arith, f.inside, f.from_least) in
          let slot : p.slot ≡ k = t.slot_is ∙ ap slot_in row ∙ slot_in_first k ks (omega arith) in
          record {
            rest = ks;
            is = e ∙ ap (λ i. i ∷ ks) (sym slot);
            found = rw slot f;
            below = omega (arith, f.inside, f.from_least, slot);
            others = ap (λ n. n / 128) row ∙ others-packed k ks (omega arith);
          }

  -- the loop goes on at a slot of the state, and no round is begun that the budget has not
  pub record Lands (whole : Driven) (m : State) (p : Position) (picks : ℕ) : Type 0 where
    pub slot_below : p.slot < m.places
    pub begun_most : p.begun ≤ budget
    pub stands : InRound whole m p picks

  round-below : {whole : Driven} {m : State} {p : Position} {picks : ℕ} → InRound whole m p picks → m.places ≤ 64 → 0 < p.ahead → p.slot < m.places
  round-below {m = m} {p = p} x few some = (heads m p x.lanes_left x.from few (x.in_turn some)).below

  module _ {whole : Driven} {m : State} {p : Position} {picks : ℕ} (x : InRound whole m p picks) (few : m.places ≤ 64) where
    -- a task runs at the slot
    pub round-runs : Walks m p → running (at m p.slot) ≡ true
    round-runs walks = (heads m p x.lanes_left x.from few (x.in_turn (goes {m = m} {p = p} walks).places_left)).found.runs

    -- the task at the slot is picked
    module _ {interval places : ℕ} (allowed : Allowed cells interval places) (fits : Fits cells interval places m) (walks : Walks m p)
        (runs_there : running (at m p.slot) ≡ true) {m' : State} (is : m' ≡ issued cells words m p.slot) (same_places : m'.places ≡ m.places)
        (w : ℕ) (wide : 0 < w) (inside : p.slot + w ≤ m.places) (quiet : Quiet m (p.slot + 1) (p.slot + w))
        (beyond : (i : ℕ) → p.slot + w ≤ i → running (at m' i) ≡ running (at m i)) where
      abbrev k : ℕ
      k = p.slot

      abbrev l : ℕ
      l = x.lanes_left

      head : Heads m p l x.from
      head = heads m p l x.from few (x.in_turn (goes {m = m} {p = p} walks).places_left)

      room : m.work < work_limit
      room = omega (arith, (goes {m = m} {p = p} walks).picks_left, x.to_limit)

      more : m'.work ≡ m.work + 1
      more = ap (λ (n : State). n.work) is ∙ issued_work cells words m k

      -- the slots behind the task's places, as they were and as they are
      left_there : slots_left m' (l - 1) (k + w) ≡ head.rest
      left_there =
          let f = head.found in
          let n : x.from + (m.places - x.from) - (k + 1) ≡ (w - 1) + (m'.places - (k + w)) = omega (arith, same_places, inside, f.from_least, f.inside) in
          let z : k + 1 + (w - 1) ≡ k + w = omega arith in
          sym (f.others
          ∙ ap (λ i. taken m (l - 1) i (k + 1)) n
          ∙ taken-past m (l - 1) (w - 1) (m'.places - (k + w)) (k + 1) (λ i a b. quiet i a (omega arith))
          ∙ ap (λ i. taken m (l - 1) (m'.places - (k + w)) i) z
          ∙ taken-same m m' (l - 1) (m'.places - (k + w)) (k + w) beyond)

      -- the run goes on with them
      same-on : whole ≡ leaves_from m' head.rest p.begun (picks + 1)
      same-on =
          let goes' = stops-not m (running_open allowed words m fits k head.below runs_there) room in
          let n : work_limit - m.work ≡ suc (work_limit - m'.work) = omega (arith, more, room) in
          x.same ∙ ap left_rounds
          (ap (λ i. round_run i m (slots_left m l x.from) p.begun picks) n
          ∙ picks_turn cells words (rounds lanes) (work_limit - m'.work) _ k _ (rounds-go lanes m _ k _ goes' head.is)
          ∙ ap (λ (s : State). round_run (work_limit - m'.work) s head.rest p.begun (picks + 1)) (sym is))

      module _ (last : ℕ) (last_most : last ≤ budget) (row_again : p.begun < last → p.row ≡ packed (round_of lanes m')) where
        -- at the next slot that is left
        to-next : 0 < p.rest / 128 → InRound whole m' (taking (p.rest / 128) p.begun last p) (picks + 1)
        to-next some = record {
          some_lanes = x.some_lanes;
          has_row = x.has_row;
          to_limit = x.to_limit;
          last_most = last_most;
          row_again = row_again;
          from = k + w;
          lanes_left = l - 1;
          in_turn = λ h. record { rest_is = head.others ∙ ap packed (sym left_there); some_rest = some; slot_is = refl };
          none_left = λ z. absurd (omega (arith, (goes {m = m} {p = p} walks).places_left));
          same = same-on ∙ ap (λ ks. leaves_from m' ks p.begun (picks + 1)) (sym left_there);
        }

        -- behind the last
        to_none : p.rest / 128 ≤ 0
            → InRound whole m' (record { slot = k; ahead = 0; until = p.until; begun = p.begun; row = p.row; rest = p.rest; last = last }) (picks + 1)
        to_none none = record {
          some_lanes = x.some_lanes;
          has_row = x.has_row;
          to_limit = x.to_limit;
          last_most = last_most;
          row_again = row_again;
          from = k + w;
          lanes_left = l - 1;
          in_turn = λ h. absurd (omega arith);
          none_left = λ z. left_there ∙ packed_none head.rest (omega (arith, head.others));
          same = same-on ∙ ap (λ ks. leaves_from m' ks p.begun (picks + 1)) (sym left_there);
        }

      few' : m'.places ≤ 64
      few' = omega (arith, same_places, few)

      next_lands : (last : ℕ) (most : last ≤ budget) (again : p.begun < last → p.row ≡ packed (round_of lanes m')) → p.begun ≤ budget → 0 < p.rest / 128
          → Lands whole m' (taking (p.rest / 128) p.begun last p) (picks + 1)
      next_lands last most again begun some =
          let y = to-next last most again some in
          record { slot_below = round-below y few' (goes {m = m} {p = p} walks).places_left; begun_most = begun; stands = y }

      none_lands : (last : ℕ) (most : last ≤ budget) (again : p.begun < last → p.row ≡ packed (round_of lanes m')) → p.begun ≤ budget → p.rest / 128 ≤ 0
          → Lands whole m' (record { slot = k; ahead = 0; until = p.until; begun = p.begun; row = p.row; rest = p.rest; last = last }) (picks + 1)
      none_lands last most again begun none =
          record { slot_below = omega (arith, head.below, same_places); begun_most = begun; stands = to_none last most again none }

      -- the task has forked or ended its side: later rounds take other tasks
      pub round-stopped : p.begun ≤ budget → Lands whole m' (cond (ltb 0 (p.rest / 128)) (taking (p.rest / 128) p.begun 0 p) (left_of k p)) (picks + 1)
      round-stopped begun = by-below 0 (p.rest / 128)
          (λ h. rw (lt-ltb 0 (p.rest / 128) h) (next_lands 0 (omega arith) (λ z. absurd (omega arith)) begun h))
          (λ h. rw (le-ltb 0 (p.rest / 128) h) (none_lands 0 (omega arith) (λ z. absurd (omega arith)) begun h))

      -- it runs on, and all others as before
      module _ (fits' : Fits cells interval places m') (All-same : (i : ℕ) → running (at m' i) ≡ running (at m i)) where
        row-still : p.begun < p.last → p.row ≡ packed (round_of lanes m')
        row-still h = x.row_again h
            ∙ ap packed (taken-same m m' lanes m.places 0 (λ i z. All-same i) ∙ ap (λ n. taken m' lanes n 0) (sym same_places))

        -- the next round begins at the row's first slot
        to-first : p.rest / 128 ≤ 0 → p.begun < p.last → m'.work < work_limit → InRound whole m' (taking p.row (p.begun + 1) p.last p) (picks + 1)
        to-first none before room' =
            let below' : k < m'.places = omega (arith, head.below, same_places) in
            let goes' = stops-not m' (running_open allowed words m' fits' k below' (All-same k ∙ runs_there)) room' in
            let z : m'.places - 0 ≡ m'.places = omega arith in
            record {
              some_lanes = x.some_lanes;
              has_row = x.has_row;
              to_limit = x.to_limit;
              last_most = x.last_most;
              row_again = λ h. row-still before;
              from = 0;
              lanes_left = lanes;
              in_turn = λ h. record {
                rest_is = row-still before ∙ ap (λ n. packed (taken m' lanes n 0)) (sym z);
                some_rest = by-below 0 p.row (λ h. h) (λ h. absurd (x.has_row (omega arith)));
                slot_is = refl;
              };
              none_left = λ h. absurd (omega (arith, (goes {m = m} {p = p} walks).places_left));
              same = same-on ∙ ap (λ ks. leaves_from m' ks p.begun (picks + 1)) (packed_none head.rest (omega (arith, head.others)))
                  ∙ ap left_rounds (begins-round x.some_lanes m' allowed fits' goes' room' p.begun (picks + 1) (omega (arith, before, x.last_most)))
                  ∙ ap (λ n. leaves_from m' (taken m' lanes n 0) (p.begun + 1) (picks + 1)) (sym z);
            }

        first_lands : p.rest / 128 ≤ 0 → goes_again m'.work p ≡ true → Lands whole m' (taking p.row (p.begun + 1) p.last p) (picks + 1)
        first_lands none again =
            let b = both_true (ltb p.begun p.last) (ltb m'.work p.until) again in
            let before = ltb-true p.begun p.last b.0 in
            let y = to-first none before (omega (arith, ltb-true m'.work p.until b.1, x.to_limit)) in
            record {
              slot_below = round-below y few' (goes {m = m} {p = p} walks).places_left;
              begun_most = omega (arith, before, x.last_most);
              stands = y;
            }

        pub round-on : p.begun ≤ budget → Lands whole m' (round_on m'.work p) (picks + 1)
        round-on begun = by-below 0 (p.rest / 128)
            (λ h. rw (lt-ltb 0 (p.rest / 128) h) (next_lands p.last x.last_most row-still begun h))
            (λ h. rw (le-ltb 0 (p.rest / 128) h) (by-test (goes_again m'.work p)
            (λ a. rw a (first_lands h a)) (λ a. rw a (none_lands p.last x.last_most row-still begun h))))

    -- where the walk does not go on, none is left of the round, or no room for a pick
    pub round-ends : walks_on false m.work p ≡ false → whole ≡ leaves_from m [] p.begun picks
    unfolding follows
    round-ends h = x.same ∙ rests m p h full (λ some none. ap (λ ks. leaves_from m ks p.begun picks) (x.none_left none))
      where
        full : p.until ≤ m.work → leaves_from m (slots_left m x.lanes_left x.from) p.begun picks ≡ leaves_from m [] p.begun picks
        full all = let z : work_limit - m.work ≡ 0 = omega (arith, x.to_limit) in rw z

  -- ---- the next round, or the end

  module _ (some_lanes : 0 < lanes) (m : State) (p : Position) {interval places : ℕ} (allowed : Allowed cells interval places) (fits : Fits cells interval places m)
      (few : m.places ≤ 64) (picks : ℕ) {whole : Driven} (same : whole ≡ leaves_from m [] p.begun picks) {row : ℕ} (is_row : row ≡ packed (round_of lanes m)) where
    abbrev kept : Rounding
    kept = record { slots = []; done = p.begun; budget = budget }

    -- where the chooser says so, nothing more is picked
    rests-here : rounds lanes m kept ≡ over → whole ≡ record { state = m; picks = picks; rounds = p.begun }
    rests-here e = same ∙ ap left_rounds (stays cells words (rounds lanes) (work_limit - m.work) (record { state = m; kept = kept; picks = picks }) e)

    module _ (its_goes_on : stops m ≡ false) (room : m.work < work_limit) (more : p.begun < budget) where
      -- in a state of the shape a task runs where the job has not ended
      some_row : row ≡ 0 → ⊥
      some_row z = clash (rw (quiet_ended allowed words m fits (none-idle some_lanes m allowed fits its_goes_on room p.begun picks more (packed_none (round_of lanes m) (sym is_row ∙ z))))) its_goes_on

      first_round : InRound whole m (round_from row (p.begun + 1) budget) picks
      first_round = let z : m.places - 0 ≡ m.places = omega arith in record {
        some_lanes = some_lanes;
        has_row = some_row;
        to_limit = refl;
        last_most = omega arith;
        row_again = λ h. is_row;
        from = 0;
        lanes_left = lanes;
        in_turn = λ h. record {
          rest_is = is_row ∙ ap (λ n. packed (taken m lanes n 0)) (sym z);
          some_rest = by-below 0 row (λ h. h) (λ h. absurd (some_row (omega arith)));
          slot_is = refl;
        };
        none_left = λ h. absurd (omega arith);
        same = same ∙ ap left_rounds (begins-round some_lanes m allowed fits its_goes_on room p.begun picks more)
            ∙ ap (λ i. leaves_from m (taken m lanes i 0) (p.begun + 1) picks) (sym z);
      }

    pub round-next : Comes whole m picks p.begun budget (λ n. n) (λ q. Between whole m q picks ⊎ InRound whole m q picks)
        (next_round budget p.begun m.work (job_ended m) row)
    round-next =
        by-test (job_ended m)
        (λ e. rw e (none (rounds_stop lanes m kept (rw e))))
        (λ e. by-below m.work work_limit
        (λ room. by-below p.begun budget
        (λ more. rw (e, lt-leb work_limit m.work room, lt-leb budget p.begun more)
        (let first = first_round (stops-not m e room) room more in
        comes_one refl
        (record { begun_more = omega arith; begun_most = omega arith; slot_below = round-below first few (omega arith); ahead_most = omega arith; until_most = omega arith })
        (inr first)))
        (λ all. rw (e, lt-leb work_limit m.work room, le-leb budget p.begun all) (none (rounds-spent lanes m kept refl all))))
        (λ full. rw (e, le-leb work_limit m.work full) (none (rounds_stop lanes m kept (stops-full m full)))))
      where
        none : rounds lanes m kept ≡ over
            → Comes whole m picks p.begun budget (λ n. n) (λ q. Between whole m q picks ⊎ InRound whole m q picks) (done p.begun)
        none e = comes_none refl (omega arith) refl refl (rests-here e)
