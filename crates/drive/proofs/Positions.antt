-- Where the loop stands in its course: whether its walk goes on, what a pick leaves of the place, and the stretch that comes next.
use Prim.Native.Nat.{ℕ, ◌-◌, ◌/◌, ◌<◌, ◌≤◌}
use native.Mathlib.Omega.{arith}
use mathlib.Core.Path.{◌≡◌, refl}
use mathlib.Core.Bool.{true, false}
use lib.Dec.{eqb, ltb, leb}
use borrow.Author.Tests.{ltb-true, lt-ltb, le-ltb}
use Rattle.facts.proofs.Tests.{both_true, clash, by-test, by-below}
use Rattle.task.specs.Frames.{work_limit}
use Rattle.turns.specs.declared.course.Position.{Position}
use Rattle.turns.specs.Stretches.{Stretch, stop_at}
use Rattle.turns.specs.Walk.{walks_on, passed_on, goes_again, picked_on, stopped_at}
use Rattle.drive.specs.declared.State.{State}
use Rattle.drive.specs.Driven.{Driven}

-- the walk goes on from here
abbrev pub Walks : State → Position → Type 0
Walks m p = walks_on false m.work p ≡ true

pub record Goes (m : State) (p : Position) : Type 0 where
  pub picks_left : m.work < p.until
  pub places_left : 0 < p.ahead

pub goes : {m : State} {p : Position} → Walks m p → Goes m p
goes {m} {p} h =
    let b = both_true (ltb m.work p.until) (ltb 0 p.ahead) h in
    record { picks_left = ltb-true m.work p.until b.0; places_left = ltb-true 0 p.ahead b.1 }

-- it does not: there is no pick left, or no place
pub rests : {A : Type 0} (m : State) (p : Position) → walks_on false m.work p ≡ false
    → (p.until ≤ m.work → A) → (m.work < p.until → p.ahead ≡ 0 → A) → A
rests m p h spent idle = by-below m.work p.until
    (λ a. by-below 0 p.ahead (λ b. clash (rw (lt-ltb m.work p.until a) (lt-ltb 0 p.ahead b)) h) (λ b. idle a (omega arith)))
    (λ a. spent a)

pub no_picks_left : (m : State) (p : Position) → p.until ≤ m.work → walks_on false m.work p ≡ false
no_picks_left m p h = rw (le-ltb m.work p.until h)

-- ---- what a pick leaves of the place

-- the stretch stops where it did, no stretch is taken back, and the places ahead are at most the state's
pub record Kept (p q : Position) : Type 0 where
  pub until_same : q.until ≡ p.until
  pub begun_least : p.begun ≤ q.begun
  pub ahead_most : q.ahead ≤ 64

module _ (places w : ℕ) (p : Position) (few : places ≤ 64) (most : p.ahead ≤ 64) where
  pub picked-kept : (work : ℕ) → Kept p (picked_on places work w p)
  picked-kept work =
      by-test (eqb p.row 0)
      (λ r. rw r (by-test (leb p.ahead w)
      (λ a. rw a (record { until_same = refl; begun_least = omega arith; ahead_most = most }))
      (λ a. rw a (record { until_same = refl; begun_least = omega arith; ahead_most = few }))))
      (λ r. rw r (by-test (ltb 0 (p.rest / 128))
      (λ a. rw a (record { until_same = refl; begun_least = omega arith; ahead_most = most }))
      (λ a. rw a (by-test (goes_again work p)
      (λ b. rw b (record { until_same = refl; begun_least = omega arith; ahead_most = most }))
      (λ b. rw b (record { until_same = refl; begun_least = omega arith; ahead_most = omega arith }))))))

  pub stopped-kept : Kept p (stopped_at places w p)
  stopped-kept =
      by-test (eqb p.row 0)
      (λ r. rw r (record { until_same = refl; begun_least = omega arith; ahead_most = few }))
      (λ r. rw r (by-test (ltb 0 (p.rest / 128))
      (λ a. rw a (record { until_same = refl; begun_least = omega arith; ahead_most = most }))
      (λ a. rw a (record { until_same = refl; begun_least = omega arith; ahead_most = omega arith }))))

pub stopped-begun : (places w : ℕ) (p : Position) → (stopped_at places w p).begun ≡ p.begun
stopped-begun places w p =
    by-test (eqb p.row 0) (λ r. rw r) (λ r. rw r (by-test (ltb 0 (p.rest / 128)) (λ a. rw a) (λ a. rw a)))

-- passes and lists have the same stretch after a pick
pub record SameStretch (p q : Position) : Type 0 where
  pub until : q.until ≡ p.until
  pub begun : q.begun ≡ p.begun
  pub row : q.row ≡ p.row

pub passed-same : (places w : ℕ) (p : Position) → SameStretch p (passed_on places w p)
passed-same places w p =
    by-test (leb p.ahead w) (λ a. rw a (record { until = refl; begun = refl; row = refl })) (λ a. rw a (record { until = refl; begun = refl; row = refl }))

-- ---- the stretch that comes next

-- what is asked of one that begins, where b were begun before and there are at most `most`
pub record Fresh (m : State) (b most : ℕ) (p : Position) : Type 0 where
  pub begun_more : b < p.begun
  pub begun_most : p.begun ≤ most
  pub slot_below : p.slot < m.places
  pub ahead_most : p.ahead ≤ 64
  pub until_most : p.until ≤ work_limit

-- either there is none, and the loop leaves the state as it stands, with so many rounds; or one begins, where the course stands as it should
pub data Comes (whole : Driven) (m : State) (picks b most : ℕ) (counts : ℕ → ℕ) (Standing : Position → Type 0) (s : Stretch) : Type 0 where
  comes_none : s.over ≡ true → b ≤ s.first.begun → s.first.until ≡ 0 → s.first.ahead ≡ 0
      → whole ≡ record { state = m; picks = picks; rounds = counts s.first.begun } → Comes whole m picks b most counts Standing s
  comes_one : s.over ≡ false → Fresh m b most s.first → Standing s.first → Comes whole m picks b most counts Standing s

-- the work at which a stretch stops
pub stop_most : (work picks : ℕ) → stop_at work picks ≤ work_limit
stop_most work picks = by-below picks (work_limit - work)
    (λ h. rw (lt-ltb picks (work_limit - work) h) (omega arith)) (λ h. rw (le-ltb picks (work_limit - work) h) (omega arith))
