-- An allowed number of places is the power of two that its rank says, and at most 64.
use Prim.Native.Nat.{ℕ, ◌^◌, ◌≤◌}
use mathlib.Core.Path.{◌≡◌, refl}
use mathlib.Core.Bool.{true, false}
use native.Mathlib.Omega.{arith}
use lib.Dec.{eqb}
use borrow.Author.Tests.{eqb-true, ltb-true}
use Rattle.facts.proofs.Tests.{clash, by-test}
use Rattle.drive.specs.Settings.{rank, places_allowed}

module _ (p : ℕ) (allowed : places_allowed p ≡ true) where
  pub rank-small : rank p ≤ 6
  rank-small = omega (arith, ltb-true (rank p) 7 allowed)

  -- either p is n, of which the law is computed, or it is another number
  next : (n : ℕ) → n ≡ 2 ^ rank n → (eqb p n ≡ false → p ≡ 2 ^ rank p) → p ≡ 2 ^ rank p
  next n here after = by-test (eqb p n) (λ t. let e : p ≡ n = eqb-true p n t in rw e here) after

  none : eqb p 1 ≡ false → eqb p 2 ≡ false → eqb p 4 ≡ false → eqb p 8 ≡ false → eqb p 16 ≡ false → eqb p 32 ≡ false → eqb p 64 ≡ false
      → p ≡ 2 ^ rank p
  unfolding rank
  none a b c d e f g = clash (rw (a, b, c, d, e, f, g, rank) at allowed) refl

  pub rank_power : p ≡ 2 ^ rank p
  unfolding rank
  rank_power =
      next 1 refl
      (λ a. next 2 refl
      (λ b. next 4 refl (λ c. next 8 refl (λ d. next 16 refl (λ e. next 32 refl (λ f. next 64 refl (λ g. none a b c d e f g)))))))
