-- A budget that is spent in two runs. With what the first kept, the second goes on with it, whoever chooses. From slot 0 on a budgeted run does
-- so where the first stopped at a pass's end or can pick no more.
use Prim.Native.Nat.{ℕ, zero, suc, ◌+◌}
use mathlib.Core.Path.{◌≡◌, refl, sym, ap, ◌∙◌, subst⁻¹}
use mathlib.Core.Logic.{◌⊎◌, inl, inr}
use mathlib.Core.Bool.{true, false}
use mathlib.Core.List.{List}
use native.Mathlib.Omega.{arith}
use lib.IntN.{ℤ}
use Rattle.facts.proofs.Tests.{by-test}
use Rattle.drive.specs.Courses.{Next, over, turn, Chooser, Run, begun, picked_at, follows}
use Rattle.drive.specs.Passes.{next_pick, stops, passes, runs}
use Rattle.drive.proofs.CourseLaws.{stays, picks_turn}
use Rattle.drive.proofs.Searching.{next_when_over}
use Rattle.drive.proofs.Passing.{picks_next, run-rests}
use Rattle.orders.specs.Runs.{CoursesAdd, RunsAdd, run, PassOver, AddsUp, BudgetsAdd}

-- ---- with what the first kept

-- with p picks more counted
abbrev counted : {C : Type 0} → ℕ → Run C → Run C
counted p r = record { state = r.state; kept = r.kept; picks = p + r.picks }

module _ (cells : List ℕ) (words : List ℤ) {C : Type 0} (next : Chooser C) where
  abbrev go : ℕ → Run C → Run C
  go n r = follows cells words next n r

  go_on : (a b : ℕ) (r : Run C) → ((s : Run C) → go (a + b) s ≡ go b (go a s)) → go (suc a + b) r ≡ go b (go (suc a) r)
  go_on a b r rest = by (next r.state r.kept) refl
    where
      by : (n : Next C) → next r.state r.kept ≡ n → go (suc a + b) r ≡ go b (go (suc a) r)
      by over e = stays cells words next (suc a + b) r e ∙ sym (stays cells words next b r e) ∙ ap (go b) (sym (stays cells words next (suc a) r e))
      by (turn k c) e =
          let more : suc a + b ≡ suc (a + b) = omega arith in
          ap (λ (n : ℕ). go n r) more ∙ picks_turn cells words next (a + b) r k c e ∙ rest (picked_at cells words k c r)
          ∙ ap (go b) (sym (picks_turn cells words next a r k c e))

  one-run : (a b : ℕ) (r : Run C) → go (a + b) r ≡ go b (go a r)
  unfolding follows
  one-run zero b r = let same : zero + b ≡ b = omega arith in ap (λ (n : ℕ). go n r) same
  one-run (suc a) b r = go_on a b r (one-run a b)

  count-on : (p b : ℕ) (r : Run C) → ((s : Run C) → go b (counted p s) ≡ counted p (go b s)) → go (suc b) (counted p r) ≡ counted p (go (suc b) r)
  count-on p b r rest = by (next r.state r.kept) refl
    where
      by : (n : Next C) → next r.state r.kept ≡ n → go (suc b) (counted p r) ≡ counted p (go (suc b) r)
      by over e = stays cells words next (suc b) (counted p r) e ∙ ap (counted p) (sym (stays cells words next (suc b) r e))
      by (turn k c) e =
          let one : p + r.picks + 1 ≡ p + (r.picks + 1) = omega arith in
          picks_turn cells words next b (counted p r) k c e
          ∙ ap (λ (n : ℕ). go b (record { state = (picked_at cells words k c r).state; kept = c; picks = n })) one
          ∙ rest (picked_at cells words k c r) ∙ ap (counted p) (sym (picks_turn cells words next b r k c e))

  -- the picks counted before do not matter
  goes-counted : (p b : ℕ) (r : Run C) → go b (counted p r) ≡ counted p (go b r)
  unfolding follows
  goes-counted p zero r = refl
  goes-counted p (suc b) r = count-on p b r (goes-counted p b)

pub courses_add : CoursesAdd
courses_add C j next = one-run j.cells j.words next

pub runs_add : RunsAdd
runs_add j = courses_add ℕ j passes

-- ---- from slot 0 on

module _ (cells : List ℕ) (words : List ℤ) where
  -- where it can pick no more
  adds-nothing : (b : ℕ) (r : Run ℕ) → stops r.state ≡ true → AddsUp r (runs cells words b (begun r.state 0)) (runs cells words b r)
  adds-nothing b r t = rw (run-rests cells words b r t, run-rests cells words b (begun r.state 0) t) (record { same_state = refl; picks_add = omega arith })

  -- where it looks for the next pick from slot 0 on
  adds : (b : ℕ) (r : Run ℕ) → next_pick r.state r.kept ≡ next_pick r.state 0
      → AddsUp r (runs cells words b (begun r.state 0)) (runs cells words b r)
  unfolding follows
  adds zero r e = record { same_state = refl; picks_add = omega arith }
  adds (suc b) r e = by-test (stops r.state) (adds-nothing (suc b) r) (λ t. adds-more b r t e)
    where
      adds-more : (b : ℕ) (r : Run ℕ) → stops r.state ≡ false → next_pick r.state r.kept ≡ next_pick r.state 0
          → AddsUp r (runs cells words (suc b) (begun r.state 0)) (runs cells words (suc b) r)
      adds-more b r t e =
          let m = r.state in
          let same : runs cells words (suc b) r ≡ counted r.picks (runs cells words (suc b) (begun m 0)) =
          picks_next cells words b r t
          ∙ ap (λ (k : ℕ). runs cells words b (picked_at cells words k (k + 1) r)) e
          ∙ goes-counted cells words passes r.picks b (picked_at cells words (next_pick m 0) (next_pick m 0 + 1) (begun m 0))
          ∙ ap (counted r.picks) (sym (picks_next cells words b (begun m 0) t)) in
          record { same_state = sym (ap (λ (s : Run ℕ). s.state) same); picks_add = sym (ap (λ (s : Run ℕ). s.picks) same) }

pub budgets_add : BudgetsAdd
budgets_add j m a b stopped =
    subst⁻¹ (AddsUp (run j m a) (run j (run j m a).state b)) (runs_add j a b (begun m 0)) (by stopped)
  where
    by : PassOver (run j m a) ⊎ (stops (run j m a).state ≡ true)
        → AddsUp (run j m a) (run j (run j m a).state b) (runs j.cells j.words b (run j m a))
    by (inl left) = adds j.cells j.words b (run j m a) (next_when_over (run j m a).state (run j m a).kept left)
    by (inr t) = adds-nothing j.cells j.words b (run j m a) t
