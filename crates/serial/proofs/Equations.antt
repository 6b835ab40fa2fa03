-- The equations of going on and of a run: all that a proof about code needs of them.
use Prim.Native.Nat.{ℕ, zero, suc}
use mathlib.Core.Path.{◌≡◌}
use mathlib.Core.Bool.{true, false}
use mathlib.Core.List.{[], ◌∷◌}
use Rattle.agreement.specs.Plain.{Rules}
use Rattle.serial.specs.Serial.{to_come, finished, Pending, held, spent, done, outward, onward, taken, run}

module _ {F : Type 0} (R : Rules F) where
  open R use {running, step, join}

  pub onward-runs : (f : F) (s : Pending F) → running f ≡ true → onward R f s ≡ held f s
  unfolding onward
  onward-runs f s r = rw (r, onward)

  -- no fork is open
  pub onward-ends : (f : F) → running f ≡ false → onward R f [] ≡ held f []
  unfolding onward outward
  onward-ends f r = rw (r, onward)

  -- the parent's side has ended: the child's turn
  pub onward-turns : (f c : F) (s : Pending F) → running f ≡ false → onward R f (to_come c ∷ s) ≡ onward R c (finished f ∷ s)
  unfolding onward outward
  onward-turns f c s r = rw (r, onward)

  -- both sides have ended: their join
  pub onward-joins : (p f : F) (s : Pending F) → running f ≡ false → onward R f (finished p ∷ s) ≡ onward R (join p f) s
  unfolding onward outward
  onward-joins p f s r = rw (r, onward)

  pub run-spent : (f : F) (s : Pending F) → running f ≡ true → run R zero (held f s) ≡ spent
  unfolding run
  run-spent f s r = rw (r, run)

  pub run_step : (n : ℕ) (f : F) (s : Pending F) → running f ≡ true → run R (suc n) (held f s) ≡ run R n (taken R s (step f))
  unfolding run
  run_step n f s r = rw (r, run)

  pub run-done : (n : ℕ) (f : F) (s : Pending F) → running f ≡ false → run R n (held f s) ≡ done f n
  unfolding run
  run-done zero f s r = rw (r, run)
  run-done (suc n) f s r = rw (r, run)
