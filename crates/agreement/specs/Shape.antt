-- The shape test: a computed test of a state, that its slots are a tree's.
use Rattle.std.specs.Prelude.{ℕ, zero, suc, ◌+◌, ◌-◌, ◌^◌, Bool, true, false, not, ◌&&◌, eqb}
use Rattle.agreement.specs.Slots.{Slots, side_ended}

-- tests of one frame
pub record Tests (F : Type 0) : Type 0 where
  -- has it no task?
  pub is_vacant : F → Bool
  -- is it a task of 2 ^ h places?
  pub is_formed : ℕ → F → Bool

module _ {F S : Type 0} (slots : Slots F S) (tests : Tests F) where
  open slots use {depth, at, size}
  open tests use {is_vacant, is_formed}

  -- the n slots from a on have no task
  unfoldable pub hollow : ℕ → S → ℕ → Bool
  hollow zero m a = true
  hollow (suc n) m a = is_vacant (at m a) && hollow n m (suc a)

  -- the 2 ^ h slots from b on are one task's
  abbrev pub lone : S → ℕ → ℕ → Bool
  lone m b h = is_formed h (at m b) && hollow (2 ^ h - 1) m (suc b)

  -- in a job of 2 ^ D places
  module _ (D : ℕ) where
    -- the 2 ^ h slots from b on are one task's, or two halves of which not both have ended
    unfoldable pub tiles : ℕ → S → ℕ → Bool
    tiles zero m b = lone m b zero
    tiles (suc h) m b = elim (eqb (depth (at m b)) (D - suc h)) [
      | true ↦ lone m b (suc h)
      | false ↦ tiles h m b && (tiles h m (b + 2 ^ h) && not (side_ended slots m b (D - h) && side_ended slots m (b + 2 ^ h) (D - h)))
    ]

    -- the job's slots are a tree's, and no other has a task
    abbrev pub shaped : S → Bool
    shaped m = tiles D m 0 && hollow (size - 2 ^ D) m (2 ^ D)
