-- The interval of a state.
use mathlib.Core.Path.{◌≡◌, refl}
use mathlib.Core.Bool.{Bool, true, false}
use Prim.Native.Nat.{ℕ, ◌^◌, ◌<◌}
use native.Mathlib.Omega.{arith}
use lib.Dec.{eqb, leb}
use borrow.Author.Tests.{eqb-true, leb-true}
use Rattle.facts.proofs.Tests.{both_true}
use Rattle.drive.specs.Settings.{interval_allowed}

-- an allowed interval has 16 bits
pub interval_fits : (interval : ℕ) → interval_allowed interval ≡ true → interval < 2 ^ 16
interval_fits interval h = go (eqb interval 0) refl
  where
    go : (t : Bool) → eqb interval 0 ≡ t → interval < 2 ^ 16
    go true e = omega (arith, eqb-true interval 0 e)
    go false e =
        let p = both_true (leb 8 interval) (leb interval 65535) (rw e at h) in
        omega (arith, leb-true interval 65535 p.1)
