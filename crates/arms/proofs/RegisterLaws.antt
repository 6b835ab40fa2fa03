-- Registers in two rows: reading and writing one.
use mathlib.Core.Path.{◌≡◌, refl, ◌∙◌}
use mathlib.Core.List.{List, [], ◌∷◌}
use Prim.Native.Nat.{ℕ, zero, suc, ◌<◌}
use native.Mathlib.Omega.{arith}
use lib.ListN.{length, get_or, set, length-set}
use mir.Syntax.{w64}
use mir.Val.{to_z}
use Rattle.task.specs.declared.Value.TheVariants.{Int, Label}
use Rattle.arms.specs.Registers.{value_of, registers_of, Sized, in_register}

pub read_at : (nums kinds : List ℕ) (r : ℕ) → r < length nums → r < length kinds
    → in_register r (registers_of nums kinds) ≡ value_of (get_or kinds r 0) (get_or nums r 0)
unfolding registers_of
read_at [] kinds r p q = absurd (omega arith)
read_at (u ∷ nums) [] r p q = absurd (omega arith)
read_at (u ∷ nums) (k ∷ kinds) zero p q = refl
read_at (u ∷ nums) (k ∷ kinds) (suc r) p q = read_at nums kinds r (omega arith) (omega arith)

pub written : (nums kinds : List ℕ) (r u k : ℕ)
    → registers_of (set nums r u) (set kinds r k) ≡ set (registers_of nums kinds) r (record { value = value_of k u })
unfolding registers_of
written [] kinds r u k = refl
written (v ∷ nums) [] zero u k = refl
written (v ∷ nums) [] (suc r) u k = refl
written (v ∷ nums) (j ∷ kinds) zero u k = refl
written (v ∷ nums) (j ∷ kinds) (suc r) u k = rw (written nums kinds r u k)

-- a store keeps the lengths
pub still_sized : (nums kinds : List ℕ) (r u k : ℕ) {nums' kinds' : List ℕ} → Sized nums kinds → nums' ≡ set nums r u → kinds' ≡ set kinds r k
    → Sized nums' kinds'
still_sized nums kinds r u k h p q = (rw (p, length-set) h.0, rw (q, length-set) h.1)

-- a register of a kind that is known
module _ (nums kinds : List ℕ) (r : ℕ) (h : Sized nums kinds) (p : r < 16) where
  pub value-at : in_register r (registers_of nums kinds) ≡ value_of (get_or kinds r 0) (get_or nums r 0)
  value-at = read_at nums kinds r (omega (arith, h.0)) (omega (arith, h.1))

  pub integer-at : get_or kinds r 0 ≡ 0 → in_register r (registers_of nums kinds) ≡ Int (to_z w64 (get_or nums r 0))
  integer-at q = value-at ∙ rw q

  pub label_at : get_or kinds r 0 ≡ 1 → in_register r (registers_of nums kinds) ≡ Label (get_or nums r 0)
  label_at q = value-at ∙ rw q
