-- Questions 21 to 24, which are a slot's own: where they let it pass, and where not.
use mathlib.Core.Path.{◌≡◌, refl}
use mathlib.Core.Bool.{Bool, true, false, not}
use Prim.Native.Nat.{ℕ, ◌<◌, ◌≤◌}
use lib.Dec.{eqb, ltb}
use borrow.Author.Tests.{ltb-true, lt-ltb, le-ltb}
use Rattle.image.specs.Questions.{ask}
use Rattle.image.proofs.Asked.{ask_yes}
use Rattle.task.specs.Frames.{running, work_limit}
use Rattle.drive.specs.declared.State.{State}
use Rattle.drive.specs.Slots.{at}
use Rattle.drive.specs.Ending.{job_ended}
use Rattle.drive.specs.Issue.{slot_no}

-- a slot that they let pass
pub record Ready (m : State) (k : ℕ) : Type 0 where
  pub below : k < m.places
  pub runs : running (at m k) ≡ true
  pub below_limit : m.work < work_limit

pub slot_ready : (m : State) (k : ℕ) → slot_no m k ≡ 0 → Ready m k
unfolding slot_no
slot_ready m k e =
    let d = ask_yes (ltb k m.places) 21 _ tt e in
    let f = ask_yes (not (job_ended m)) 22 _ tt d.1 in
    let g = ask_yes (running (at m k)) 23 _ tt f.1 in
    let h = ask_yes (ltb m.work work_limit) 24 0 tt g.1 in
    record { below = ltb-true k m.places d.0; runs = g.0; below_limit = ltb-true m.work work_limit h.0 }

-- and in a job that has not ended they let every such slot pass
pub ready-passes : (m : State) (k : ℕ) → job_ended m ≡ false → Ready m k → slot_no m k ≡ 0
unfolding slot_no
ready-passes m k e r = rw (lt-ltb k m.places r.below, e, r.runs, lt-ltb m.work work_limit r.below_limit)

-- ---- refused: a slot that the state has not, one where nothing runs, any at the limit

pub far_refused : (m : State) (k : ℕ) → m.places ≤ k → eqb (slot_no m k) 0 ≡ false
unfolding slot_no
far_refused m k h = rw (le-ltb k m.places h)

pub idle-refused : (m : State) (k : ℕ) → running (at m k) ≡ false → eqb (slot_no m k) 0 ≡ false
unfolding slot_no
idle-refused m k r = rw r (go (ltb k m.places) (not (job_ended m)))
  where
    go : (a b : Bool) → eqb (ask a 21 (ask b 22 23)) 0 ≡ false
    go false b = refl
    go true false = refl
    go true true = refl

pub full-refused : (m : State) (k : ℕ) → work_limit ≤ m.work → eqb (slot_no m k) 0 ≡ false
unfolding slot_no
full-refused m k h = rw (le-ltb m.work work_limit h) (go (ltb k m.places) (not (job_ended m)) (running (at m k)))
  where
    go : (a b c : Bool) → eqb (ask a 21 (ask b 22 (ask c 23 24))) 0 ≡ false
    go false b c = refl
    go true false c = refl
    go true true false = refl
    go true true true = refl
