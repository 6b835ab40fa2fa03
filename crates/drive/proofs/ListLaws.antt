-- The slots of an order, as the loop goes through them: from where it stands, the run along the slots that are left is the whole run.
use mathlib.Core.Path.{◌≡◌, refl, sym, ap, ◌∙◌}
use mathlib.Core.Logic.{◌⊎◌, inl, inr}
use mathlib.Core.Bool.{true, false, and-false}
use mathlib.Core.List.{List, [], ◌∷◌}
use Prim.Native.Nat.{ℕ, zero, suc, ◌+◌, ◌-◌, ◌<◌, ◌≤◌}
use native.Mathlib.Omega.{arith}
use native.Mathlib.Numerals.{add-one}
use lib.Dec.{eqb, ltb}
use lib.IntN.{ℤ}
use lib.ListN.{length, drop, drop_of_length-le}
use lib.Seq.{drop-cons}
use borrow.Author.Tests.{lt-ltb, le-ltb}
use Rattle.facts.proofs.Tests.{clash, by-below}
use Rattle.task.specs.Frames.{running, work_limit}
use Rattle.drive.specs.declared.State.{State}
use Rattle.drive.specs.Driven.{Driven}
use Rattle.drive.specs.Slots.{at}
use Rattle.drive.specs.Issue.{slot_no, issued}
use Rattle.drive.specs.Courses.{Next, over, turn, follows}
use Rattle.drive.specs.Listing.{listed, list_from}
use Rattle.turns.specs.declared.course.Position.{Position}
use Rattle.turns.specs.Stretches.{stop_at, next_listed}
use Rattle.turns.specs.Walk.{walks_on, gone_by}
use Rattle.drive.specs.Driving.{left}
use Rattle.drive.proofs.CourseLaws.{stays, picks_turn}
use Rattle.drive.proofs.IssueLaws.{issued_work}
use Rattle.drive.proofs.SlotQuestions.{far_refused, idle-refused, full-refused}
use Rattle.drive.proofs.Positions.{Walks, rests, no_picks_left, Comes, comes_none, comes_one, stop_most}

-- ---- the chooser

pub listed-skips : (m : State) (k : ℕ) (ks : List ℕ) → eqb (slot_no m k) 0 ≡ false → listed m (k ∷ ks) ≡ listed m ks
unfolding listed
listed-skips m k ks e = rw (listed, e)

pub listed-over : (m : State) → listed m [] ≡ over
unfolding listed
listed-over m = refl

pub listed-turn : (m : State) (k : ℕ) (ks : List ℕ) → eqb (slot_no m k) 0 ≡ true → listed m (k ∷ ks) ≡ turn k ks
unfolding listed
listed-turn m k ks e = rw (listed, e)

-- ---- a list by its first slot

abbrev tail : List ℕ → List ℕ
tail [] = []
tail (k ∷ ks) = ks

drop-next : (order : List ℕ) (b k : ℕ) (ks : List ℕ) → k ∷ ks ≡ drop b order → ks ≡ drop (b + 1) order
drop-next order b k ks e = by-below b (length order)
    (λ h. ap tail (e ∙ drop-cons order b 0 h) ∙ ap (λ n. drop n order) (sym (add-one b)))
    (λ h. let z : suc (length ks) ≡ 0 = ap length (e ∙ drop_of_length-le order {i = b} h) in absurd (omega arith))

drop_some : (order : List ℕ) (b k : ℕ) (ks : List ℕ) → k ∷ ks ≡ drop b order → b < length order
drop_some order b k ks e = by-below b (length order) (λ h. h)
    (λ h. let z : suc (length ks) ≡ 0 = ap length (e ∙ drop_of_length-le order {i = b} h) in absurd (omega arith))

module _ (cells : List ℕ) (words : List ℤ) where
  -- what a run along these slots leaves
  abbrev pub along : ℕ → State → List ℕ → ℕ → Driven
  along n m ks picks = left (follows cells words listed n (record { state = m; kept = ks; picks = picks }))

  -- by what the chooser says
  abbrev on : ℕ → State → ℕ → Next (List ℕ) → Driven
  on n m picks over = record { state = m; picks = picks; rounds = 0 }
  on n m picks (turn k ks) = along n (issued cells words m k) ks (picks + 1)

  its_goes_on : (n : ℕ) (m : State) (ks : List ℕ) (picks : ℕ) → along (suc n) m ks picks ≡ on n m picks (listed m ks)
  its_goes_on n m ks picks = go (listed m ks) refl
    where
      go : (next : Next (List ℕ)) → listed m ks ≡ next → along (suc n) m ks picks ≡ on n m picks next
      go over e = ap left (stays cells words listed (suc n) (record { state = m; kept = ks; picks = picks }) e)
      go (turn k rest) e = ap left (picks_turn cells words listed n (record { state = m; kept = ks; picks = picks }) k rest e)

  -- a slot that cannot be picked is passed over
  skips : (n : ℕ) (m : State) (k : ℕ) (ks : List ℕ) (picks : ℕ) → eqb (slot_no m k) 0 ≡ false → along n m (k ∷ ks) picks ≡ along n m ks picks
  unfolding follows
  skips zero m k ks picks e = refl
  skips (suc n) m k ks picks e =
      its_goes_on n m (k ∷ ks) picks ∙ ap (on n m picks) (listed-skips m k ks e) ∙ sym (its_goes_on n m ks picks)

  takes : (n : ℕ) (m : State) (k : ℕ) (ks : List ℕ) (picks : ℕ) → 0 < n → eqb (slot_no m k) 0 ≡ true
      → along n m (k ∷ ks) picks ≡ along (n - 1) (issued cells words m k) ks (picks + 1)
  takes zero m k ks picks some e = absurd (omega arith)
  takes (suc n) m k ks picks some e =
      let same : suc n - 1 ≡ n = omega arith in
      its_goes_on n m (k ∷ ks) picks ∙ ap (on n m picks) (listed-turn m k ks e) ∙ ap (λ n. along n (issued cells words m k) ks (picks + 1)) (sym same)

  -- ---- where the loop stands

  -- at the stretch's only look, before it or behind it
  pub record Looks (order : List ℕ) (m : State) (p : Position) (rest : List ℕ) : Type 0 where
    pub ahead : rest ≡ p.slot ∷ drop p.begun order
    pub one_pick : p.until ≡ stop_at m.work 1
    pub one_look : p.ahead ≡ 1

  pub record Looked (order : List ℕ) (m : State) (p : Position) (rest : List ℕ) : Type 0 where
    pub behind_it : rest ≡ drop p.begun order
    pub no_more : walks_on false m.work p ≡ false

  pub record Listing (order : List ℕ) (whole : Driven) (m : State) (p : Position) (picks : ℕ) : Type 0 where
    pub rest : List ℕ
    pub fuel : ℕ
    pub enough : length rest ≤ fuel
    pub same : whole ≡ along fuel m rest picks
    pub no_row : p.row ≡ 0
    pub stands : Looks order m p rest ⊎ Looked order m p rest

  -- before the first
  pub list_begins : (order : List ℕ) (m : State) (p : Position) → p.begun ≡ 0 → p.until ≤ m.work → p.row ≡ 0 → Listing order (left (list_from cells words m order)) m p 0
  list_begins order m p none spent rowless = record {
    rest = order;
    fuel = length order;
    enough = omega arith;
    same = refl;
    no_row = rowless;
    stands = inr (record { behind_it = ap (λ n. drop n order) (sym none); no_more = no_picks_left m p spent });
  }

  module _ {order : List ℕ} {whole : Driven} {m : State} {p : Position} {picks : ℕ} (x : Listing order whole m p picks) where
    -- where the walk goes on, the look is ahead
    looks : Walks m p → Looks order m p x.rest
    looks w = go x.stands
      where
        go : Looks order m p x.rest ⊎ Looked order m p x.rest → Looks order m p x.rest
        go (inl l) = l
        go (inr l) = clash w l.no_more

    -- nothing runs at the slot
    pub list_goes-by : Walks m p → running (at m p.slot) ≡ false → (w : ℕ) → 0 < w → Listing order whole m (gone_by m.places w p) picks
    list_goes-by walks idle w some =
        let l = looks walks in
        let n : length x.rest ≡ suc (length (drop p.begun order)) = ap length l.ahead in
        record {
          rest = drop p.begun order;
          fuel = x.fuel;
          enough = omega (arith, x.enough, n);
          same = x.same ∙ ap (λ ks. along x.fuel m ks picks) l.ahead ∙ skips x.fuel m p.slot _ picks (idle-refused m p.slot idle);
          no_row = x.no_row;
          stands = inr (record {
            behind_it = refl;
            no_more = rw (le-ltb 0 (p.ahead - w) (omega (arith, l.one_look))) (and-false (ltb m.work p.until));
          });
        }

    -- its task is picked
    pub list_picked : Walks m p → eqb (slot_no m p.slot) 0 ≡ true → {m' : State} → m' ≡ issued cells words m p.slot
        → {q : Position} → q.until ≡ p.until → q.begun ≡ p.begun → q.row ≡ p.row → Listing order whole m' q (picks + 1)
    list_picked walks ready {m'} is {q} until begun row =
        let l = looks walks in
        let n : length x.rest ≡ suc (length (drop p.begun order)) = ap length l.ahead in
        let more : m'.work ≡ m.work + 1 = ap (λ (o : State). o.work) is ∙ issued_work cells words m p.slot in
        record {
          rest = drop p.begun order;
          fuel = x.fuel - 1;
          enough = omega (arith, x.enough, n);
          same = x.same ∙ ap (λ ks. along x.fuel m ks picks) l.ahead
              ∙ takes x.fuel m p.slot _ picks (omega (arith, x.enough, n)) ready
              ∙ ap (λ (o : State). along (x.fuel - 1) o (drop p.begun order) (picks + 1)) (sym is);
          no_row = row ∙ x.no_row;
          stands = inr (record {
            behind_it = ap (λ n. drop n order) (sym begun);
            no_more = no_picks_left m' q (omega (arith, until, l.one_pick, stop_next m.work));
          });
        }
      where
        stop_next : (work : ℕ) → stop_at work 1 ≤ work + 1
        stop_next work = by-below 1 (work_limit - work)
            (λ h. rw (lt-ltb 1 (work_limit - work) h) (omega arith)) (λ h. rw (le-ltb 1 (work_limit - work) h) (omega arith))

    -- where the walk does not go on, the slots behind the look are left
    list_rests : walks_on false m.work p ≡ false
        → (whole ≡ along x.fuel m (drop p.begun order) picks) × (length (drop p.begun order) ≤ x.fuel)
    list_rests h = go x.stands
      where
        full : (work : ℕ) → stop_at work 1 ≤ work → work_limit ≤ work
        full work le = by-below 1 (work_limit - work)
            (λ b. absurd (let e : stop_at work 1 ≡ work + 1 = rw (lt-ltb 1 (work_limit - work) b) in omega arith))
            (λ b. let e : stop_at work 1 ≡ work_limit = rw (le-ltb 1 (work_limit - work) b) in omega arith)

        at_limit : Looks order m p x.rest → work_limit ≤ m.work
        at_limit l = rests m p h (λ s. full m.work (omega (arith, l.one_pick))) (λ a b. absurd (omega (arith, l.one_look)))

        go : Looks order m p x.rest ⊎ Looked order m p x.rest
            → (whole ≡ along x.fuel m (drop p.begun order) picks) × (length (drop p.begun order) ≤ x.fuel)
        go (inl l) =
            let n : length x.rest ≡ suc (length (drop p.begun order)) = ap length l.ahead in (
              x.same ∙ ap (λ ks. along x.fuel m ks picks) l.ahead ∙ skips x.fuel m p.slot _ picks (full-refused m p.slot (at_limit l)),
              omega (arith, x.enough, n),
            )
        go (inr l) = (x.same ∙ ap (λ ks. along x.fuel m ks picks) l.behind_it, let n = ap length l.behind_it in omega (arith, x.enough, n))

  -- the next slot that the state has
  next_of : (order : List ℕ) (whole : Driven) (m : State) (picks fuel : ℕ) (ks : List ℕ) (b : ℕ) → ks ≡ drop b order → whole ≡ along fuel m ks picks
      → length ks ≤ fuel → Comes whole m picks b (length order) (λ _. 0) (λ p. Listing order whole m p picks) (next_listed ks b m.places m.work)
  unfolding next_listed
  next_of order whole m picks fuel [] b d e n =
      comes_none refl (omega arith) refl refl (e ∙ ap left (stays cells words listed fuel (record { state = m; kept = []; picks = picks }) (listed-over m)))
  next_of order whole m picks fuel (k ∷ ks) b d e n =
      by-below k m.places here (λ z. further z (next_of order whole m picks fuel ks (b + 1) (drop-next order b k ks d)
      (e ∙ skips fuel m k ks picks (far_refused m k z)) (omega arith)))
    where
      later : Comes whole m picks (b + 1) (length order) (λ _. 0) (λ p. Listing order whole m p picks) (next_listed ks (b + 1) m.places m.work)
          → Comes whole m picks b (length order) (λ _. 0) (λ p. Listing order whole m p picks) (next_listed ks (b + 1) m.places m.work)
      later (comes_none o le u r w) = comes_none o (omega arith) u r w
      later (comes_one o f s) = comes_one o (record {
        begun_more = omega (arith, f.begun_more);
        begun_most = f.begun_most;
        slot_below = f.slot_below;
        ahead_most = f.ahead_most;
        until_most = f.until_most;
      }) s

      here : k < m.places → Comes whole m picks b (length order) (λ _. 0) (λ p. Listing order whole m p picks) (next_listed (k ∷ ks) b m.places m.work)
      here below = rw (next_listed, lt-ltb k m.places below) (comes_one refl
          (record {
            begun_more = omega arith;
            begun_most = omega (arith, drop_some order b k ks d);
            slot_below = below;
            ahead_most = omega arith;
            until_most = stop_most m.work 1;
          })
          (record {
            rest = k ∷ ks;
            fuel = fuel;
            enough = n;
            same = e;
            no_row = refl;
            stands = inl (record { ahead = ap (λ l. k ∷ l) (drop-next order b k ks d); one_pick = refl; one_look = refl });
          }))

      further : m.places ≤ k → Comes whole m picks (b + 1) (length order) (λ _. 0) (λ p. Listing order whole m p picks) (next_listed ks (b + 1) m.places m.work)
          → Comes whole m picks b (length order) (λ _. 0) (λ p. Listing order whole m p picks) (next_listed (k ∷ ks) b m.places m.work)
      further beyond rest = rw (next_listed, le-ltb k m.places beyond) (later rest)

  pub list_next : {order : List ℕ} {whole : Driven} {m : State} {p : Position} {picks : ℕ} → Listing order whole m p picks
      → walks_on false m.work p ≡ false
      → Comes whole m picks p.begun (length order) (λ _. 0) (λ q. Listing order whole m q picks) (next_listed (drop p.begun order) p.begun m.places m.work)
  list_next {order} {whole} {m} {p} {picks} x h =
      let r = list_rests x h in next_of order whole m picks x.fuel (drop p.begun order) p.begun refl r.0 r.1
