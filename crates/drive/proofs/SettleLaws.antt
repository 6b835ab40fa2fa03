-- Whether a join is due, test by test; and what one turn of settling does.
use Prim.Native.Nat.{ℕ, zero, suc, ◌+◌, ◌*◌, ◌-◌, ◌%◌, ◌<◌}
use mathlib.Core.Path.{◌≡◌, refl, sym}
use mathlib.Core.Bool.{Bool, true, false, ◌&&◌}
use mathlib.Core.List.{List}
use native.Mathlib.Omega.{arith}
use lib.Dec.{eqb, ltb}
use borrow.Author.Tests.{lt-ltb, ltb-true, eqb-true, not-true}
use Rattle.facts.proofs.Tests.{clash, both_true}
use Rattle.image.specs.Layout.{program_of}
use Rattle.agreement.specs.Slots.{side_ended, due, merged, settle}
use Rattle.agreement.proofs.SlotLaws.{settle-none, settle-go, settle_stop}
use Rattle.task.specs.Frames.{running}
use Rattle.drive.specs.declared.State.{State}
use Rattle.drive.specs.Slots.{at, slots_of}

module _ (cells : List ℕ) (m : State) (q w d : ℕ) where
  -- where there is none, no join is due
  pub without-room : (ltb 0 w && ltb (q + w) 64) ≡ false → due (slots_of (program_of cells)) m q w d ≡ false
  without-room e = go (ltb 0 w) (ltb (q + w) 64) e
    where
      go : (a b : Bool) → (a && b) ≡ false → (a && (b && (side_ended (slots_of (program_of cells)) m q d && side_ended (slots_of (program_of cells)) m (q + w) d))) ≡ false
      go true true e = clash refl e
      go true false e = refl
      go false b e = refl

  -- of a fork that has room, the two sides decide
  pub sides_decide : 0 < w → q + w < 64 → due (slots_of (program_of cells)) m q w d ≡ side_ended (slots_of (program_of cells)) m q d && side_ended (slots_of (program_of cells)) m (q + w) d
  sides_decide a b = rw (lt-ltb 0 w a, lt-ltb (q + w) 64 b)

  -- what a join that is due says of its two sides
  pub record Sides : Type 0 where
    pub has_room : q + w < 64
    pub parent_depth : (at m q).task.depth ≡ d
    pub child_depth : (at m (q + w)).task.depth ≡ d
    pub child_idle : running (at m (q + w)) ≡ false

  pub due-sides : due (slots_of (program_of cells)) m q w d ≡ true → Sides
  due-sides e =
      let a = both_true (ltb 0 w) _ e in
      let b = both_true (ltb (q + w) 64) _ a.1 in
      let c = both_true (side_ended (slots_of (program_of cells)) m q d) (side_ended (slots_of (program_of cells)) m (q + w) d) b.1 in
      let p = both_true (eqb (at m q).task.depth d) _ c.0 in
      let k = both_true (eqb (at m (q + w)).task.depth d) _ c.1 in
      record { has_room = ltb-true (q + w) 64 b.0; parent_depth = eqb-true _ d p.0; child_depth = eqb-true _ d k.0; child_idle = not-true (running (at m (q + w))) k.1 }

-- ---- one turn

pub settle-ends : (cells : List ℕ) (m : State) (k d : ℕ) → d ≡ 0 → settle (slots_of (program_of cells)) d m k ≡ m
settle-ends cells m k d e = rw e (settle-none (slots_of (program_of cells)) m k)

pub settle-stops : (cells : List ℕ) (m : State) (k d q w : ℕ) → 0 < d → (at m k).task.places ≡ w → q ≡ k - k % (2 * w)
    → due (slots_of (program_of cells)) m q w d ≡ false → settle (slots_of (program_of cells)) d m k ≡ m
settle-stops cells m k zero q w some hw hq e = absurd (omega arith)
settle-stops cells m k (suc d) q w some hw hq e = settle_stop (slots_of (program_of cells)) d m k q w hw (sym hq) e

pub settle_goes : (cells : List ℕ) (m : State) (k d q w : ℕ) → 0 < d → (at m k).task.places ≡ w → q ≡ k - k % (2 * w)
    → due (slots_of (program_of cells)) m q w d ≡ true → settle (slots_of (program_of cells)) d m k ≡ settle (slots_of (program_of cells)) (d - 1) (merged (slots_of (program_of cells)) m q w) q
settle_goes cells m k zero q w some hw hq e = absurd (omega arith)
settle_goes cells m k (suc d) q w some hw hq e =
    let r : suc d - 1 ≡ d = omega arith in
    rw r (settle-go (slots_of (program_of cells)) d m k q w hw (sym hq) e)
