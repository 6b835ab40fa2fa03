-- A pick changes at no slot behind its task's places whether a task runs there: what an ended side is joined with lies before it or has ended.
use mathlib.Core.Path.{◌≡◌, refl, sym, ap, ◌∙◌}
use mathlib.Core.Bool.{true, false}
use mathlib.Core.List.{List}
use Prim.Native.Nat.{ℕ, zero, suc, ◌+◌, ◌*◌, ◌-◌, ◌%◌, ◌^◌, ◌≤◌, ◌<◌}
use native.Mathlib.Omega.{arith}
use lib.IntN.{ℤ}
use lib.Pow.{pow_pos}
use Rattle.facts.proofs.Tests.{by-test, by_order}
use Rattle.agreement.specs.Plain.{Stepped, one, two}
use Rattle.agreement.specs.Slots.{due, merged, settle, carry}
use Rattle.agreement.proofs.SlotLaws.{settle-none, settle-go, settle_stop, carry-one, carry-two}
use Rattle.image.specs.Layout.{program_of}
use Rattle.task.specs.declared.Frame.{Frame}
use Rattle.task.specs.declared.Task.{Task}
use Rattle.task.specs.Frames.{running, is_running, vacant}
use Rattle.task.specs.Choices.{chosen}
use Rattle.task.specs.Step.{step, join}
use Rattle.drive.specs.declared.State.{State}
use Rattle.drive.specs.Slots.{at, put, slots_of}
use Rattle.drive.specs.Issue.{issued}
use Rattle.drive.proofs.SlotLaws.{put_other, put_tasks}
use Rattle.drive.proofs.Models.{Allowed, laws_hold}
use Rattle.drive.proofs.ShapeLaws.{Fits}
use Rattle.drive.proofs.SettleLaws.{due-sides}
use Rattle.drive.proofs.Carrying.{stand}

-- no task is put where none runs
idle-put : (m : State) (k : ℕ) → running (at m k) ≡ false → (i : ℕ) → running (at (put m k vacant) i) ≡ running (at m i)
idle-put m k idle i =
    by_order i k (λ x. ap running (put_other m k vacant i (omega arith))) here (λ x. ap running (put_other m k vacant i (omega arith)))
  where
    here : i ≡ k → running (at (put m k vacant) i) ≡ running (at m i)
    here e =
        let none = rw (sym e) at idle in
        put_tasks (λ (t : Task). is_running t.status ≡ false) m k vacant i refl none ∙ sym none

module _ (cells : List ℕ) where
  merged-beyond : (m : State) (q w d i : ℕ) → due (slots_of (program_of cells)) m q w d ≡ true → q < i
      → running (at (merged (slots_of (program_of cells)) m q w) i) ≡ running (at m i)
  merged-beyond m q w d i t h =
      ap running (put_other (put m (q + w) vacant) q (join (program_of cells) (at m q) (at m (q + w))) i (omega arith)) ∙ idle-put m (q + w) (due-sides cells m q w d t).child_idle i

  pub settle-beyond : (d : ℕ) (m : State) (k i : ℕ) → k < i → running (at (settle (slots_of (program_of cells)) d m k) i) ≡ running (at m i)
  settle-beyond zero m k i h = ap (λ (n : State). running (at n i)) (settle-none (slots_of (program_of cells)) m k)
  settle-beyond (suc d) m k i h =
      let w = (at m k).task.places in
      let q = k - k % (2 * w) in
      by-test (due (slots_of (program_of cells)) m q w (suc d))
      (λ t. ap (λ (n : State). running (at n i)) (settle-go (slots_of (program_of cells)) d m k q w refl refl t)
      ∙ settle-beyond d (merged (slots_of (program_of cells)) m q w) q i (before k (k % (2 * w)) h) ∙ merged-beyond m q w (suc d) i t (before k (k % (2 * w)) h))
      (λ t. ap (λ (n : State). running (at n i)) (settle_stop (slots_of (program_of cells)) d m k q w refl refl t))
    where
      before : (a b : ℕ) → a < i → a - b < i
      before a b x = omega arith

module _ {cells : List ℕ} {interval places : ℕ} (allowed : Allowed cells interval places) (words : List ℤ) (m : State) (k : ℕ) (fits : Fits cells interval places m)
    (below : k < places) (runs : running (at m k) ≡ true) where
  carried-beyond : (i : ℕ) → k + (at m k).task.places ≤ i
      → running (at (carry (slots_of (program_of cells)) (step (program_of cells) words (chosen interval)) m k) i) ≡ running (at m i)
  carried-beyond i h = go (step (program_of cells) words (chosen interval) (at m k)) refl
    where
      go : (s : Stepped Frame) → step (program_of cells) words (chosen interval) (at m k) ≡ s
          → running (at (carry (slots_of (program_of cells)) (step (program_of cells) words (chosen interval)) m k) i) ≡ running (at m i)
      go (one g) e =
          let s = stand allowed words m k fits below runs in
          let past : k < i = omega (arith, s.formed.has_places, pow_pos s.height) in
          ap (λ (n : State). running (at n i)) (carry-one (slots_of (program_of cells)) _ m k g e)
          ∙ settle-beyond cells g.task.depth (put m k g) k i past ∙ ap running (put_other m k g i (omega arith))
      go (two p c) e =
          let s = stand allowed words m k fits below runs in
          let t = (laws_hold allowed words).step_two s.height (at m k) p c s.formed runs e in
          let half : p.task.places ≡ 2 ^ t.0 = t.2.has_places in
          let wide : (at m k).task.places ≡ 2 ^ suc t.0 = s.formed.has_places ∙ ap (λ (n : ℕ). 2 ^ n) t.1 in
          let some = pow_pos t.0 in
          ap (λ (n : State). running (at n i)) (carry-two (slots_of (program_of cells)) _ m k p c e)
          ∙ ap running (put_other (put m k p) (k + p.task.places) c i (omega (arith, half, wide, some))) ∙ ap running (put_other m k p i (omega (arith, wide, some)))

  pub issued-beyond : (i : ℕ) → k + (at m k).task.places ≤ i → running (at (issued cells words m k) i) ≡ running (at m i)
  issued-beyond i h =
      ap (λ (n : ℕ). running (at (carry (slots_of (program_of cells)) (step (program_of cells) words (chosen n)) m k) i)) fits.its_interval ∙ carried-beyond i h
