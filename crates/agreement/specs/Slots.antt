-- Tasks at slots: what one instruction of a slot's task does to the state. `at` and `put` are all that is known of a state.
use Rattle.std.specs.Prelude.{ℕ, zero, suc, ◌+◌, ◌*◌, ◌-◌, ◌%◌, Bool, true, false, not, ◌&&◌, eqb, ltb}
use Rattle.agreement.specs.Plain.{Stepped, one, two}

-- F: frames; S: states
pub record Slots (F S : Type 0) : Type 0 where
  -- has the task an instruction to issue?
  pub running : F → Bool
  -- of two ended sides, the parent's first, the joined task
  pub join : F → F → F
  -- its number of open forks
  pub depth : F → ℕ
  -- its places
  pub places : F → ℕ
  -- the frame of a slot without a task
  pub vacant : F
  -- the frame at a slot
  pub at : S → ℕ → F
  -- a frame put at a slot
  pub put : S → ℕ → F → S
  -- how many slots a state has
  pub size : ℕ

module _ {F S : Type 0} (slots : Slots F S) where
  open slots use {running, join, depth, places, vacant, at, put, size}

  -- the side at slot b of a fork that makes depth d has ended: one task has all of it, and isn't running
  abbrev pub side_ended : S → ℕ → ℕ → Bool
  side_ended m b d = eqb (depth (at m b)) d && not (running (at m b))

  -- both sides of the fork at slot q, of w places each, have ended. (In a state of the shape the first two tests always pass; they make
  -- settling total.)
  abbrev pub due : S → ℕ → ℕ → ℕ → Bool
  due m q w d = ltb 0 w && (ltb (q + w) size && (side_ended m q d && side_ended m (q + w) d))

  -- the joined task in the parent's slot, the child's left vacant
  abbrev pub merged : S → ℕ → ℕ → S
  merged m q w = put (put m (q + w) vacant) q (join (at m q) (at m (q + w)))

  -- the joins that are due at slot k, from its innermost fork outward; d is the depth of its task
  unfoldable pub settle : ℕ → S → ℕ → S
  settle zero m k = m
  settle (suc d) m k =
      let w = places (at m k) in
      let q = k - k % (2 * w) in
      elim (due m q w (suc d)) [ true ↦ settle d (merged m q w) q | false ↦ m ]

  -- one instruction of slot k's task. At a fork the child sits in the first slot of the upper half
  unfoldable pub carry : (F → Stepped F) → S → ℕ → S
  carry step m k = elim (step (at m k)) [
    | one g ↦ settle (depth g) (put m k g) k
    | two p c ↦ put (put m k p) (k + places p) c
  ]
