-- The bound. A round picks a task on every lane, or it picks every running task, and then the least span of a running task rises. So there
-- are at most as many rounds of the second kind as the last task's span.
use Prim.Native.Nat.{ℕ, zero, suc, ◌+◌, ◌*◌, ◌-◌, ◌^◌, ◌≤◌, ◌<◌}
use mathlib.Core.Path.{◌≡◌, subst}
use mathlib.Core.Logic.{◌⊎◌, inl, inr}
use mathlib.Core.Bool.{true, false}
use mathlib.Core.List.{List, [], ◌∷◌}
use native.Mathlib.Omega.{arith}
use native.Mathlib.Nat.{add-zero, suc-mul, mul-add, mul-le-mul_left, mul-le-mul_right}
use lib.ListN.{length}
use Rattle.facts.proofs.Tests.{clash, by-test, by-below}
use Rattle.agreement.proofs.Trees.{Tree}
use Rattle.agreement.specs.Picks.{Model, job_ended, play}
use Rattle.agreement.proofs.Laws.{Forms, Laws}
use Rattle.agreement.proofs.Holds.{Shows}
use Rattle.agreement.proofs.HoldsLaws.{open_runs}
use Rattle.lanes.specs.Rounds.{Dispatched, round_of, round, goes_on, dispatch}
use Rattle.lanes.proofs.Budgets.{its_goes_on, dispatch-none, dispatch-goes, dispatch-stops}
use Rattle.lanes.specs.Spans.{SpanLaws}
use Rattle.lanes.specs.OnLanes.{Bounded}
use Rattle.lanes.proofs.Taking.{Among, taken-ready, taken_most, taken_all}
use Rattle.lanes.proofs.Playing.{Stuck, Waits, Mid, played}

-- f full rounds and s short ones on l lanes, with the work w and the span p
greedy_sum : (l f s w p : ℕ) → 0 < l → l * f + s ≤ w → s ≤ p → l * (f + s) ≤ w + (l - 1) * p
greedy_sum zero f s w p z h k = absurd (omega arith)
greedy_sum (suc l) f s w p z h k =
    let e : suc l - 1 ≡ l = omega arith in
    rw e (omega (arith, mul-add (suc l) f s, suc-mul l s, mul-le-mul_left l k))

module _ {F S : Type 0} (M : Model F S) (K : Forms F S) (span : F → ℕ) where
  open M use {slots, job_places, work}
  open slots use {running, at, size}

  -- after t rounds on so many lanes, of which `full` picked a task on every lane and `short` did not
  pub record Counted (lanes t : ℕ) (m : S) : Type 0 where
    pub tree : Tree F
    pub shows : Shows slots K m tree
    pub full : ℕ
    pub short : ℕ
    pub rounds : full + short ≡ t
    pub at_least : lanes * full + short ≤ work m
    pub at_most : work m ≤ lanes * t
    pub lows : (i : ℕ) → i < size → running (at m i) ≡ true → short ≤ span (at m i)
    pub highs : (i : ℕ) → span (at m i) ≤ t
    -- the last task is not running, so that `lows` does not say it
    pub last : job_ended M m ≡ true → short ≤ span (at m 0)

  -- what t rounds come to, unless the limit cuts them short
  abbrev pub Came : ℕ → ℕ → S → Type 0
  Came lanes t m = Counted lanes t m ⊎ Stuck M m

  module _ (laws : Laws M K) (spans : SpanLaws M K.Empty span) (lanes : ℕ) (some_lane : 0 < lanes) where
    module _ (t : ℕ) (m : S) (v : Counted lanes t m) (o : job_ended M m ≡ false) where
      abbrev ks : List ℕ
      ks = round_of M lanes m

      below : (k : ℕ) → k < job_places → k < size
      below k h = omega (arith, laws.places_power, laws.places_fit)

      -- before its first pick
      start : (low : ℕ) → ((j : ℕ) → j < size → running (at m j) ≡ true → Among j ks ⊎ (low ≤ span (at m j)))
          → Mid M K span v.short t low 0 ks m
      start low lows = record {
        tree = v.tree;
        shows = v.shows;
        ready = taken-ready M m (Waits M K span v.short t) job_places (λ k h r. (r, v.lows k (below k h) r, v.highs k)) job_places lanes 0
            (omega arith);
        lows = lows;
        highs = λ j. omega (arith, v.highs j);
        last = λ e. clash e o;
      }

      -- the round, of which every running task comes out with the span `low` or more
      counted : (full low : ℕ) → low ≤ suc v.short → ((j : ℕ) → j < size → running (at m j) ≡ true → Among j ks ⊎ (low ≤ span (at m j)))
          → full + low ≡ suc t → lanes * full + low ≤ work m + length ks → Came lanes (suc t) (round M lanes m)
      counted full low lowest lows sum enough = go (played M K span laws spans v.short t low lowest ks 0 m (start low lows))
        where
          not_among : (i : ℕ) → Among i [] ⊎ (low ≤ span (at (play M m ks) i)) → low ≤ span (at (play M m ks) i)
          not_among i (inl x) = absurd x
          not_among i (inr x) = x

          go : ((j : ℕ) × Mid M K span v.short t low j [] (play M m ks) × (work (play M m ks) ≡ work m + length ks)) ⊎ Stuck M (play M m ks)
              → Came lanes (suc t) (round M lanes m)
          go (inl u) = inl record {
            tree = u.1.tree;
            shows = u.1.shows;
            full = full;
            short = low;
            rounds = sum;
            at_least = omega (arith, enough, u.2);
            at_most = omega (arith, v.at_most, u.2, taken_most M m job_places lanes 0);
            lows = λ i h r. not_among i (u.1.lows i h r);
            highs = u.1.highs;
            last = λ e. omega (arith, u.1.last e);
          }
          go (inr u) = inr u

      some_taken : (j : ℕ) (l : List ℕ) → Among j l → 0 < length l
      some_taken j [] x = absurd x
      some_taken j (k ∷ l) x = omega arith

      -- a task on every lane, or every running task
      pub one-round : Came lanes (suc t) (round M lanes m)
      one-round =
          by-below (length ks) lanes
          (λ h.
          let all : (j : ℕ) → j < job_places → running (at m j) ≡ true → Among j ks = λ j x r.
          taken_all M m job_places lanes 0 h j (omega arith) (omega arith) r in
          let inside : (j : ℕ) → j < size → running (at m j) ≡ true → j < job_places = λ j x r.
          by-below j (2 ^ K.D) (λ z. omega (arith, laws.places_power)) (λ z. clash r (laws.empty_idle (at m j) (v.shows.beyond j z x))) in
          let one = open_runs M K laws v.tree m v.shows o in
          let least : 0 < length ks = some_taken one.0 ks (all one.0 (omega (arith, one.1, laws.places_power)) one.2) in
          counted v.full (suc v.short) (omega arith) (λ j x r. inl (all j (inside j x r) r)) (omega (arith, v.rounds))
          (omega (arith, v.at_least, least)))
          (λ h.
          let all : length ks ≡ lanes = omega (arith, h, taken_most M m job_places lanes 0) in
          counted (suc v.full) v.short (omega arith) (λ j x r. inr (v.lows j x r)) (omega (arith, v.rounds))
          (omega (arith, v.at_least, all)))

    -- at the limit no further round begins
    stuck_stops : (m : S) → Stuck M m → goes_on M m ≡ false
    stuck_stops m s = by-test (goes_on M m) (λ h. absurd (omega (arith, (its_goes_on M m h).1, s.at_limit))) (λ h. h)

    -- the rest of a budget after a round, whose state is m
    further : (t : ℕ) (m : S) (end : Dispatched S)
        → (Counted lanes (suc t) m → Came lanes (suc t + end.rounds) end.state) → (Stuck M m → Stuck M end.state)
        → Came lanes (suc t) m → Came lanes (t + suc end.rounds) end.state
    further t m end rest stuck (inl u) = let e : t + suc end.rounds ≡ suc t + end.rounds = omega arith in rw e (rest u)
    further t m end rest stuck (inr u) = inr (stuck u)

    -- a budget of rounds, from a state that t rounds have come to
    pub dispatched : (budget t : ℕ) (m : S) → Counted lanes t m
        → Came lanes (t + (dispatch M lanes budget m).rounds) (dispatch M lanes budget m).state
    dispatched zero t m v = rw (dispatch-none M lanes m) (inl (rw (add-zero t) v))
    dispatched (suc budget) t m v =
        by-test (goes_on M m)
        (λ h. rw (dispatch-goes M lanes budget m h)
        (further t (round M lanes m) (dispatch M lanes budget (round M lanes m)) (λ u. dispatched budget (suc t) (round M lanes m) u)
        (λ u. rw (dispatch-stops M lanes budget (round M lanes m) (stuck_stops (round M lanes m) u)) u) (one-round t m v (its_goes_on M m h).0)))
        (λ h. rw (dispatch-stops M lanes (suc budget) m h) (inl (rw (add-zero t) v)))

    -- every round picks a task
    pub rounds-few : (t : ℕ) (m : S) → Counted lanes t m → t ≤ work m
    rounds-few t m v = omega (arith, v.rounds, v.at_least, mul-le-mul_right v.full some_lane)

    -- of a job that has ended in t rounds
    pub bounded : (t : ℕ) (m : S) → Counted lanes t m → job_ended M m ≡ true → Bounded M span lanes t (at m 0) (work m)
    bounded t m v o = record {
      greedy = rw (← v.rounds) (greedy_sum lanes v.full v.short (work m) (span (at m 0)) some_lane v.at_least (v.last o));
      span_fits = v.highs 0;
      work_fits = v.at_most;
      rounds_at_most = rounds-few t m v;
      one_lane = λ e. let most : work m ≤ 1 * t = subst (λ l. work m ≤ l * t) e v.at_most in omega (arith, rounds-few t m v);
    }
