-- A stretch of 2 ^ h slots and its halves: the first slot of a fork is found from either side.
use Prim.Native.Nat.{ℕ, suc, ◌+◌, ◌*◌, ◌-◌, ◌%◌, ◌^◌}
use mathlib.Core.Path.{◌≡◌, ap, ◌∙◌}
use mathlib.Core.Logic.{inl, inr}
use native.Mathlib.Omega.{arith}
use native.Mathlib.Nat.{two-pow-succ, mul-mod_left, mod-eq_of_lt, mul-add-mod_self_right}
use lib.Pow.{pow_pos}
use Rattle.agreement.proofs.Outside.{Outside}

-- 2 ^ h divides b
pub record Aligned (b h : ℕ) : Type 0 where
  pub times : ℕ
  pub is : b ≡ times * 2 ^ h

pub aligned_zero : (h : ℕ) → Aligned 0 h
aligned_zero h = record { times = 0; is = omega arith }

pub aligned_lower : {b h : ℕ} → Aligned b (suc h) → Aligned b h
aligned_lower {h = h} a = record { times = a.times * 2; is = a.is ∙ rw (two-pow-succ h) (omega arith) }

pub aligned_upper : {b h : ℕ} → Aligned b (suc h) → Aligned (b + 2 ^ h) h
aligned_upper {h = h} a = record { times = a.times * 2 + 1; is = rw (a.is, two-pow-succ h) (omega arith) }

twice : (b h : ℕ) → (a : Aligned b (suc h)) → b ≡ a.times * (2 * 2 ^ h)
twice b h a = a.is ∙ rw (two-pow-succ h) (omega arith)

pub fork_from_lower : (b h : ℕ) → Aligned b (suc h) → b - b % (2 * 2 ^ h) ≡ b
fork_from_lower b h a =
    let z : b % (2 * 2 ^ h) ≡ 0 = ap (λ x. x % (2 * 2 ^ h)) (twice b h a) ∙ mul-mod_left a.times (2 * 2 ^ h) in
    omega arith

pub fork_from_upper : (b h : ℕ) → Aligned b (suc h) → (b + 2 ^ h) - (b + 2 ^ h) % (2 * 2 ^ h) ≡ b
fork_from_upper b h a =
    let z : (b + 2 ^ h) % (2 * 2 ^ h) ≡ 2 ^ h =
    ap (λ x. (x + 2 ^ h) % (2 * 2 ^ h)) (twice b h a) ∙ mul-add-mod_self_right a.times (2 * 2 ^ h) (2 ^ h)
    ∙ mod-eq_of_lt (omega (arith, pow_pos h)) in
    omega arith

-- what is outside the whole is outside each half
pub outside-lower : (b h i : ℕ) → Outside b (b + 2 ^ suc h) i → Outside b (b + 2 ^ h) i
outside-lower b h i (inl x) = inl x
outside-lower b h i (inr x) = inr (omega (arith, pow_pos h))

pub outside-upper : (b h i : ℕ) → Outside b (b + 2 ^ suc h) i → Outside (b + 2 ^ h) (b + 2 ^ h + 2 ^ h) i
outside-upper b h i (inl x) = inl (omega (arith, pow_pos h))
outside-upper b h i (inr x) = inr (omega arith)
