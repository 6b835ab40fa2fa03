-- A fact of every frame, for which a count may be a bound, holds of every frame after a pick.
use Prim.Native.Nat.{ℕ, suc, ◌+◌}
use mathlib.Core.Path.{◌≡◌, ◌∙◌}
use mathlib.Core.Bool.{true}
use native.Mathlib.Numerals.{add-one}
use Rattle.agreement.specs.Plain.{one, two}
use Rattle.agreement.specs.Slots.{carry}
use Rattle.agreement.proofs.SlotLaws.{carry_all}
use Rattle.agreement.specs.Picks.{Model, can_pick, pick}
use Rattle.agreement.proofs.PickLaws.{can_parts, pick-has, carried_work}

module _ {F S : Type 0} (M : Model F S) where
  open M use {slots, step, work, tick}
  open slots use {running, join, vacant, at, put}

  -- What is asked of `P n f`, the fact of the frame f at the count n. One instruction may go from n to n + 1
  pub record Framewise (P : ℕ → F → Type 0) : Type 0 where
    pub more : (n : ℕ) (f : F) → P n f → P (suc n) f
    pub of_vacant : (n : ℕ) → P n vacant
    pub of_one : (n : ℕ) (f g : F) → P n f → running f ≡ true → step f ≡ one g → P (suc n) g
    pub of_two : (n : ℕ) (f p c : F) → P n f → running f ≡ true → step f ≡ two p c → P (suc n) p × P (suc n) c
    pub of_join : (n : ℕ) (a b : F) → P n a → P n b → P n (join a b)
    pub put_all : (n : ℕ) (m : S) (k : ℕ) (f : F) (i : ℕ) → P n f → P n (at m i) → P n (at (put m k f) i)
    pub tick_all : (n : ℕ) (m : S) (i : ℕ) → P n (at m i) → P n (at (tick m) i)

  module _ {P : ℕ → F → Type 0} (asked : Framewise P) where
    -- Where the frame picked is at n, all may be at n + 1 before the pick, and then are after it. So a count of rounds may stay at n while
    -- every frame of a round is picked once
    pub carried_all : (n : ℕ) (m : S) (k : ℕ) → running (at m k) ≡ true → P n (at m k) → ((i : ℕ) → P (suc n) (at m i))
        → (i : ℕ) → P (suc n) (at (tick (carry slots step m k)) i)
    carried_all n m k r here all i =
        asked.tick_all (suc n) (carry slots step m k) i
        (carry_all slots (P (suc n)) (asked.put_all (suc n)) (asked.of_vacant (suc n)) (asked.of_join (suc n)) step m k all
        (λ g e. asked.of_one n (at m k) g here r e) (λ p c e. asked.of_two n (at m k) p c here r e) i)

    -- where the count is the work, it rises at every pick that is carried out
    module _ (put_work : (m : S) (k : ℕ) (f : F) → work (put m k f) ≡ work m) (tick_work : (m : S) → work (tick m) ≡ work m + 1) where
      abbrev All : S → Type 0
      All m = (i : ℕ) → P (work m) (at m i)

      rises : (m : S) (k : ℕ) → can_pick M m k ≡ true → All m → All (tick (carry slots step m k))
      rises m k c all i =
          let w : work (tick (carry slots step m k)) ≡ suc (work m) = carried_work M put_work tick_work m k ∙ add-one (work m) in
          rw w (carried_all (work m) m k (can_parts M m k c).1 (all k) (λ j. asked.more (work m) (at m j) (all j)) i)

      pub pick_all : (m : S) (k : ℕ) → ((i : ℕ) → P (work m) (at m i)) → (i : ℕ) → P (work (pick M m k)) (at (pick M m k) i)
      pick_all = pick-has M All rises
