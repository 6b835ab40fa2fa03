-- The equations of a pick; what picks and orders keep, and what they count. Nothing here speaks of trees.
use Prim.Native.Nat.{ℕ, ◌+◌, ◌≤◌, ◌<◌}
use mathlib.Core.Path.{◌≡◌, ap, ◌∙◌}
use mathlib.Core.Bool.{true, false, ◌&&◌}
use mathlib.Core.List.{List, [], ◌∷◌}
use native.Mathlib.Omega.{arith}
use lib.Dec.{ltb}
use borrow.Author.Tests.{ltb-true, lt-ltb}
use Rattle.facts.proofs.Tests.{both_true, by-test}
use Rattle.agreement.specs.Slots.{carry}
use Rattle.agreement.proofs.SlotLaws.{carry-keeps}
use Rattle.agreement.specs.Picks.{Model, if_picked, once, can_pick, pick, play, carried_out}

module _ {F S : Type 0} (M : Model F S) where
  open M use {slots, step, job_places, limit, work, tick}
  open slots use {running, at, put}

  pub can_parts : (m : S) (k : ℕ) → can_pick M m k ≡ true → (k < job_places) × (running (at m k) ≡ true) × (work m < limit)
  can_parts m k h =
      let p = both_true (ltb k job_places) (running (at m k) && ltb (work m) limit) h in
      let q = both_true (running (at m k)) (ltb (work m) limit) p.1 in
      (ltb-true k job_places p.0, q.0, ltb-true (work m) limit q.1)

  pub parts_can : (m : S) (k : ℕ) → k < job_places → running (at m k) ≡ true → work m < limit → can_pick M m k ≡ true
  parts_can m k a b c = rw (lt-ltb k job_places a, b, lt-ltb (work m) limit c)

  pub pick-carried : (m : S) (k : ℕ) → can_pick M m k ≡ true → pick M m k ≡ tick (carry slots step m k)
  unfolding pick
  pick-carried m k h = rw (h, pick)

  pub pick-refused : (m : S) (k : ℕ) → can_pick M m k ≡ false → pick M m k ≡ m
  unfolding pick
  pick-refused m k h = rw (h, pick)

  -- what a pick keeps where it is carried out, every pick keeps, and every order
  module _ (P : S → Type 0) (carried-has : (m : S) (k : ℕ) → can_pick M m k ≡ true → P m → P (tick (carry slots step m k))) where
    pub pick-has : (m : S) (k : ℕ) → P m → P (pick M m k)
    pick-has m k h = by-test (can_pick M m k) (λ c. rw (pick-carried m k c) (carried-has m k c h)) (λ c. rw (pick-refused m k c) h)

    pub play-has : (ks : List ℕ) (m : S) → P m → P (play M m ks)
    unfolding play
    play-has [] m h = h
    play-has (k ∷ ks) m h = play-has ks (pick M m k) (pick-has m k h)

  module _ (put_work : (m : S) (k : ℕ) (f : F) → work (put m k f) ≡ work m) (tick_work : (m : S) → work (tick m) ≡ work m + 1) where
    pub carried_work : (m : S) (k : ℕ) → work (tick (carry slots step m k)) ≡ work m + 1
    carried_work m k = tick_work (carry slots step m k) ∙ ap (λ n. n + 1) (carry-keeps slots work put_work step m k)

    pub pick_work : (m : S) (k : ℕ) → work (pick M m k) ≡ work m + if_picked (can_pick M m k) 1
    pick_work m k =
        by-test (can_pick M m k) (λ c. rw (pick-carried m k c, c) (carried_work m k)) (λ c. rw (pick-refused m k c, c) (omega arith))

    -- the work rises by the number of picks carried out
    pub play_work : (ks : List ℕ) (m : S) → work (play M m ks) ≡ work m + carried_out M once m ks
    unfolding play carried_out
    play_work [] m = omega arith
    play_work (k ∷ ks) m = omega (arith, play_work ks (pick M m k), pick_work m k)

    pub play_limit : (ks : List ℕ) (m : S) → work m ≤ limit → work (play M m ks) ≤ limit
    play_limit = play-has (λ n. work n ≤ limit) (λ n k c h. omega (arith, carried_work n k, (can_parts n k c).2))
