-- A state of the shape, with the places and the interval that it carries.
use mathlib.Core.Path.{◌≡◌, refl, sym, subst}
use mathlib.Core.Bool.{true}
use mathlib.Core.List.{List}
use Prim.Native.Nat.{ℕ, ◌^◌, ◌<◌, ◌≤◌}
use native.Mathlib.Omega.{arith}
use native.Mathlib.Nat.{pow-le-pow_right}
use lib.Pow.{pow_pos}
use Rattle.drive.specs.declared.State.{State}
use Rattle.drive.specs.Settings.{rank, places_allowed}
use Rattle.drive.proofs.RankLaws.{rank-small, rank_power}
use Rattle.drive.proofs.Models.{Allowed}
use Rattle.drive.proofs.ShapeLaws.{Fits}

module _ {cells : List ℕ} {interval places : ℕ} {m : State} (fits : Fits cells interval places m) where
  pub own_allowed : Allowed cells interval places → Allowed cells m.interval m.places
  own_allowed a =
      subst (λ (p : ℕ). Allowed cells m.interval p) (sym fits.its_places)
      (subst (λ (i : ℕ). Allowed cells i places) (sym fits.its_interval) a)

  pub own_fits : Fits cells m.interval m.places m
  own_fits = record {
    its_places = refl;
    its_interval = refl;
    sized = fits.sized;
    tiled = (subst (λ (p : ℕ). Fits cells interval p m) (sym fits.its_places) fits).tiled;
    counts = fits.counts;
  }

-- allowed places are at most 64
pub places_most : (p : ℕ) → places_allowed p ≡ true → p ≤ 64
places_most p h =
    let most : 2 ^ rank p ≤ 2 ^ 6 = pow-le-pow_right {n = 2} (omega arith) (rank-small p h) in
    omega (arith, rank_power p h)

pub places_some : (p : ℕ) → places_allowed p ≡ true → 0 < p
places_some p h = omega (arith, rank_power p h, pow_pos (rank p))
