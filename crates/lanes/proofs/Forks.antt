-- The fork of which a slot is one side, found from either side.
use Prim.Native.Nat.{ℕ, suc, ◌+◌, ◌*◌, ◌-◌, ◌/◌, ◌%◌, ◌^◌}
use mathlib.Core.Path.{◌≡◌, refl, sym, ap, ◌∙◌, subst}
use mathlib.Core.Logic.{◌⊎◌, inl, inr}
use native.Mathlib.Omega.{arith}
use native.Mathlib.Nat.{two-pow-succ}
use Rattle.facts.proofs.Tests.{by-below}
use Rattle.agreement.proofs.Halves.{Aligned, fork_from_lower, fork_from_upper}

-- the fork of 2 ^ suc h slots at `first`, of which slot k is one side's first
pub record ForkOf (k h : ℕ) : Type 0 where
  pub first : ℕ
  pub aligned : Aligned first (suc h)
  pub found : k - k % (2 * 2 ^ h) ≡ first
  pub side : (k ≡ first) ⊎ (k ≡ first + 2 ^ h)

module _ (k h : ℕ) (a : Aligned k h) where
  lower-side : a.times % 2 ≡ 0 → ForkOf k h
  lower-side e =
      let al : Aligned k (suc h) = record { times = a.times / 2; is = a.is ∙ doubled a.times e } in
      record { first = k; aligned = al; found = fork_from_lower k h al; side = inl refl }
    where
      doubled : (n : ℕ) → n % 2 ≡ 0 → n * 2 ^ h ≡ n / 2 * 2 ^ suc h
      doubled n z = let d : n ≡ n / 2 * 2 = omega arith in ap (λ (x : ℕ). x * 2 ^ h) d ∙ rw (two-pow-succ h) (omega arith)

  upper-side : a.times % 2 ≡ 1 → ForkOf k h
  upper-side e =
      let b = a.times / 2 * 2 ^ suc h in
      let al : Aligned b (suc h) = record { times = a.times / 2; is = refl } in
      let s : k ≡ b + 2 ^ h = a.is ∙ doubled a.times e in
      record {
        first = b;
        aligned = al;
        found = subst (λ (n : ℕ). n - n % (2 * 2 ^ h) ≡ b) (sym s) (fork_from_upper b h al);
        side = inr s;
      }
    where
      doubled : (n : ℕ) → n % 2 ≡ 1 → n * 2 ^ h ≡ n / 2 * 2 ^ suc h + 2 ^ h
      doubled n z = let d : n ≡ n / 2 * 2 + 1 = omega arith in ap (λ (x : ℕ). x * 2 ^ h) d ∙ rw (two-pow-succ h) (omega arith)

  pub fork_of_lem : ForkOf k h
  fork_of_lem = by-below (a.times % 2) 1 (λ x. lower-side (omega arith)) (λ x. upper-side (omega arith))
