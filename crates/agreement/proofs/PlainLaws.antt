-- The equations of the plain evaluation, and what a sum of works that came to an end is made of.
use Prim.Native.Nat.{ℕ, zero, suc, ◌+◌}
use mathlib.Core.Path.{◌≡◌, refl}
use mathlib.Core.Bool.{true, false}
use native.Mathlib.Omega.{arith}
use Rattle.agreement.specs.Plain.{Rules, Ran, out, ran, tally, gather, sides, eval}

pub out_not_ran : {F A : Type 0} {e : F} {w : ℕ} → out ≡ ran e w → A
out_not_ran q = let z : ◌≡◌ {A = ℕ} 0 1 = cc in absurd (omega arith)

module _ {F : Type 0} (R : Rules F) where
  open R use {running, step}

  pub eval-ended : (n : ℕ) (f : F) → running f ≡ false → eval R n f ≡ ran f 0
  unfolding eval
  eval-ended zero f r = rw (r, eval)
  eval-ended (suc n) f r = rw (r, eval)

  pub eval_out : (f : F) → running f ≡ true → eval R 0 f ≡ out
  unfolding eval
  eval_out f r = rw (r, eval)

  pub eval_issue : (n : ℕ) (f : F) → running f ≡ true → eval R (suc n) f ≡ tally 1 (sides R (λ g. eval R n g) (step f))
  unfolding eval
  eval_issue n f r = rw (r, eval)

pub tally_ran : {F : Type 0} (n : ℕ) (o : Ran F) (e : F) (w : ℕ) → tally n o ≡ ran e w → (v : ℕ) × (o ≡ ran e v) × (w ≡ n + v)
tally_ran n out e w q = out_not_ran q
tally_ran n (ran f v) e w q = (v, (cc), cc)

pub record Gathered {F : Type 0} (x y : Ran F) (after : F → F → Ran F) (e : F) (w : ℕ) : Type 0 where
  pub a : F
  pub b : F
  pub u : ℕ
  pub v : ℕ
  pub z : ℕ
  pub first : x ≡ ran a u
  pub second : y ≡ ran b v
  pub last : after a b ≡ ran e z
  pub sum : w ≡ u + v + z

pub gather_ran : {F : Type 0} (x y : Ran F) (after : F → F → Ran F) (e : F) (w : ℕ) → gather x y after ≡ ran e w → Gathered x y after e w
gather_ran out y after e w q = out_not_ran q
gather_ran (ran a u) out after e w q = out_not_ran q
gather_ran (ran a u) (ran b v) after e w q =
    let t = tally_ran _ _ e w q in
    record { a = a; b = b; u = u; v = v; z = t.0; first = refl; second = refl; last = t.1; sum = t.2 }
