-- `eq_z` is true exactly for equal integers, and compares the bits of two that fit 64 bits.
use Rattle.std.proofs.Common.{◌≡◌, ℕ, suc, ◌-◌, ◌^◌, ◌<◌, Bool, true, false, eqb, ℤ, pos, negsuc, refl, ap, subst, arith, w64, SFits, of_z, eq-eqb, ne_eqb, eqb-true}
use borrow.Author.Tests.{eqb-false}
use Rattle.int64.specs.Equal.{eq_z}

eq_z_refl : (a : ℤ) → eq_z a a ≡ true
eq_z_refl (pos a) = eq-eqb a a refl
eq_z_refl (negsuc a) = eq-eqb a a refl

pub eq_eq_z : (a b : ℤ) → a ≡ b → eq_z a b ≡ true
eq_eq_z a b e = subst (λ (z : ℤ). eq_z a z ≡ true) e (eq_z_refl a)

pub eq_z_eq : (a b : ℤ) → eq_z a b ≡ true → a ≡ b
eq_z_eq (pos a) (pos b) e = ap pos (eqb-true a b e)
eq_z_eq (pos a) (negsuc b) e = absurd (let q : ◌≡◌ {A = ℕ} 0 1 = cc in omega arith)
eq_z_eq (negsuc a) (pos b) e = absurd (let q : ◌≡◌ {A = ℕ} 0 1 = cc in omega arith)
eq_z_eq (negsuc a) (negsuc b) e = ap negsuc (eqb-true a b e)

-- counted down from above, numbers are equal when they are
eqb_down : (a b : ℕ) → a < 2 ^ 63 → b < 2 ^ 63 → eqb (2 ^ 64 - suc a) (2 ^ 64 - suc b) ≡ eqb a b
eqb_down a b h k = go (eqb a b) refl
  where
    go : (t : Bool) → eqb a b ≡ t → eqb (2 ^ 64 - suc a) (2 ^ 64 - suc b) ≡ t
    go true e = let q : a ≡ b = eqb-true a b e in eq-eqb (2 ^ 64 - suc a) (2 ^ 64 - suc b) (omega arith)
    go false e = ne_eqb (2 ^ 64 - suc a) (2 ^ 64 - suc b) (λ (q : 2 ^ 64 - suc a ≡ 2 ^ 64 - suc b). eqb-false a b e (omega arith))

pub eqb_bits : (a b : ℤ) → SFits w64 a → SFits w64 b → eqb (of_z w64 a) (of_z w64 b) ≡ eq_z a b
eqb_bits (pos a) (pos b) f g = refl
eqb_bits (pos a) (negsuc b) f g =
    let h : a < 2 ^ 63 = f.sfits in let k : b < 2 ^ 63 = g.sfits in ne_eqb a (2 ^ 64 - suc b) (λ q. omega arith)
eqb_bits (negsuc a) (pos b) f g =
    let h : a < 2 ^ 63 = f.sfits in let k : b < 2 ^ 63 = g.sfits in ne_eqb (2 ^ 64 - suc a) b (λ q. omega arith)
eqb_bits (negsuc a) (negsuc b) f g = eqb_down a b f.sfits g.sfits
