-- The search of passes for their next pick: what was gone by, and that what is found there is the definition's next pick.
use mathlib.Core.Path.{◌≡◌, ◌∙◌}
use mathlib.Core.Logic.{◌⊎◌, inl, inr}
use mathlib.Core.Bool.{true, false}
use Prim.Native.Nat.{ℕ, ◌+◌, ◌-◌, ◌<◌, ◌≤◌}
use native.Mathlib.Omega.{arith}
use borrow.Author.Tests.{lt-ltb, le-ltb}
use Rattle.facts.proofs.Tests.{by-below}
use Rattle.task.specs.Frames.{running}
use Rattle.drive.specs.declared.State.{State}
use Rattle.drive.specs.Slots.{at}
use Rattle.drive.specs.Passes.{first_running, next_pick}
use Rattle.turns.specs.Walk.{behind}
use Rattle.drive.proofs.Searching.{first_found, none_found}

-- The next pick is looked for from slot `from` on. `passed` slots were gone by, none of which had a running task, and now slot k is reached:
-- in the same pass or in the next one.
pub record Seeks (m : State) (from passed k : ℕ) : Type 0 where
  pub from_most : from ≤ m.places
  pub reached : passed < m.places → (from + passed ≡ k) ⊎ (from + passed ≡ k + m.places)
  pub this_pass : (i : ℕ) → i < m.places → from ≤ i → i < from + passed → running (at m i) ≡ false
  pub its_next_pass : (i : ℕ) → i < m.places → i + m.places < from + passed → running (at m i) ≡ false

-- nothing runs in these slots
abbrev pub Quiet : State → ℕ → ℕ → Type 0
Quiet m first end = (i : ℕ) → first ≤ i → i < end → running (at m i) ≡ false

-- nor in any but slot k
abbrev pub Alone : State → ℕ → Type 0
Alone m k = (i : ℕ) → i < m.places → (i ≡ k → ⊥) → running (at m i) ≡ false

module _ {m : State} {from passed k : ℕ} (s : Seeks m from passed k) where
  pub finds : passed < m.places → k < m.places → running (at m k) ≡ true → next_pick m from ≡ k
  unfolding next_pick
  finds few below r = by (s.reached few)
    where
      by : (from + passed ≡ k) ⊎ (from + passed ≡ k + m.places) → next_pick m from ≡ k
      by (inl e) =
          let here = first_found m (m.places - from) from k (omega arith) (omega arith) r (λ i p q. s.this_pass i (omega arith) p (omega arith)) in
          rw (here, lt-ltb k m.places below)
      by (inr e) =
          let none : first_running m (m.places - from) from ≡ m.places =
          none_found m (m.places - from) from (λ i p q. s.this_pass i (omega (arith, s.from_most)) p (omega arith)) ∙ omega (arith, s.from_most) in
          let next = first_found m m.places 0 k (omega arith) (omega arith) r (λ i p q. s.its_next_pass i (omega arith) (omega arith)) in
          rw (none, le-ltb m.places m.places (omega arith), next)

  -- a whole pass without a running task
  pub none_runs : m.places ≤ passed → Quiet m 0 m.places
  none_runs all i first below =
      by-below i from (λ h. s.its_next_pass i below (omega arith)) (λ h. s.this_pass i below h (omega arith))

  -- the w places of slot k, in which nothing runs, are gone by
  pub goes_by : (w : ℕ) → k + w ≤ m.places → Quiet m k (k + w) → Seeks m from (passed + w) (behind m.places k w)
  goes_by w fits quiet = by-below passed m.places (λ few. on few (s.reached few)) whole
    where
      -- after a whole pass it does not matter where it stands
      whole : m.places ≤ passed → Seeks m from (passed + w) (behind m.places k w)
      whole all = record {
        from_most = s.from_most;
        reached = λ few. absurd (omega arith);
        this_pass = λ i b p q. none_runs all i (omega arith) b;
        its_next_pass = λ i b q. none_runs all i (omega arith) b;
      }

      on : passed < m.places → (from + passed ≡ k) ⊎ (from + passed ≡ k + m.places) → Seeks m from (passed + w) (behind m.places k w)
      on few (inl e) = record {
        from_most = s.from_most;
        reached = λ more. by-below (k + w) m.places (λ b. rw (lt-ltb (k + w) m.places b) (inl (omega arith)))
            (λ b. rw (le-ltb (k + w) m.places b) (inr (omega arith)));
        this_pass = λ i b p q. by-below i k (λ h. s.this_pass i b p (omega arith)) (λ h. quiet i h (omega arith));
        its_next_pass = λ i b q. absurd (omega arith);
      }
      on few (inr e) = record {
        from_most = s.from_most;
        reached = λ more. by-below (k + w) m.places (λ b. rw (lt-ltb (k + w) m.places b) (inr (omega arith)))
            (λ b. absurd (omega (arith, s.from_most)));
        this_pass = λ i b p q. s.this_pass i b p (omega arith);
        its_next_pass = λ i b q. by-below i k (λ h. s.its_next_pass i b (omega arith)) (λ h. quiet i h (omega arith));
      }

  -- where what was gone by and the w places of slot k are all places, no other slot has a running task
  pub alone : (gone w : ℕ) → gone ≤ passed → m.places ≤ gone + w → k + w ≤ m.places → Quiet m (k + 1) (k + w) → Alone m k
  alone gone w counted all fits quiet i below other =
      by-below passed m.places (λ few. by (s.reached few)) (λ whole. none_runs whole i (omega arith) below)
    where
      above : from ≤ k + w → k + m.places ≤ from + passed → k < i → running (at m i) ≡ false
      above a b h = by-below i (k + w) (λ z. quiet i (omega arith) z) (λ z. s.this_pass i below (omega arith) (omega arith))

      by : (from + passed ≡ k) ⊎ (from + passed ≡ k + m.places) → running (at m i) ≡ false
      by (inl e) = by-below i k (λ h. s.this_pass i below (omega arith) (omega arith))
          (λ h. quiet i (let d : i ≡ k → ⊥ = other in by-below k i (λ z. omega arith) (λ z. absurd (d (omega arith)))) (omega arith))
      by (inr e) = by-below i k (λ h. s.its_next_pass i below (omega arith))
          (λ h. by-below k i (λ z. above (omega arith) (omega arith) z) (λ z. absurd (other (omega arith))))

-- at a slot, where none was gone by yet
pub begins : (m : State) (k : ℕ) → k < m.places → Seeks m k 0 k
begins m k below = record {
  from_most = omega arith;
  reached = λ few. inl (omega arith);
  this_pass = λ i b p q. absurd (omega arith);
  its_next_pass = λ i b q. absurd (omega arith);
}

-- after a pick of slot k: behind w places, in the others of which nothing runs
pub begins-behind : (m : State) (k w : ℕ) → 0 < w → k + w ≤ m.places → Quiet m (k + 1) (k + w) → Seeks m (k + 1) (w - 1) (behind m.places k w)
begins-behind m k w some fits quiet = record {
  from_most = omega arith;
  reached = λ few. by-below (k + w) m.places (λ b. rw (lt-ltb (k + w) m.places b) (inl (omega arith)))
      (λ b. rw (le-ltb (k + w) m.places b) (inr (omega arith)));
  this_pass = λ i b p q. quiet i p (omega arith);
  its_next_pass = λ i b q. absurd (omega arith);
}

-- at slot k again, where no other has a running task
pub comes_back : (m : State) (k : ℕ) → k < m.places → Alone m k → Seeks m (k + 1) (m.places - 1) k
comes_back m k below others = record {
  from_most = omega arith;
  reached = λ few. inr (omega arith);
  this_pass = λ i b p q. others i b (λ e. absurd (omega arith));
  its_next_pass = λ i b q. others i b (λ e. absurd (omega arith));
}

-- the slot behind is one of the state
pub behind-below : (places k w : ℕ) → 0 < places → behind places k w < places
behind-below places k w some =
    by-below (k + w) places (λ b. rw (lt-ltb (k + w) places b) b) (λ b. rw (le-ltb (k + w) places b) some)
