-- Values and their bits. A signed value that goes to a call or comes from one is the number of its bits, `to_z w64 (of_z w64 a)`.
use mathlib.Core.Path.{◌≡◌, refl, sym}
use mathlib.Core.Bool.{Bool, true, false}
use Prim.Native.Nat.{ℕ, suc, ◌+◌, ◌*◌, ◌-◌, ◌/◌, ◌%◌, ◌^◌, ◌<◌}
use native.Mathlib.Omega.{arith}
use lib.Dec.{ltb}
use lib.IntN.{pos, negsuc}
use mir.Syntax.{w64}
use mir.Val.{to_z, sel}
use borrow.Author.Tests.{ne_eqb}
use Rattle.int64.specs.Equal.{eq_z}
use Rattle.task.specs.declared.Value.{Value}
use Rattle.task.specs.declared.Value.TheVariants.{Record}

-- ---- an integer is 0 where its bits are

pub zero_bits : (u : ℕ) → u ≡ 0 → eq_z (to_z w64 u) (pos 0) ≡ true
zero_bits u h = rw h

pub other_bits : (u : ℕ) → (u ≡ 0 → ⊥) → eq_z (to_z w64 u) (pos 0) ≡ false
other_bits u h = go (ltb u (2 ^ 63))
  where
    go : (t : Bool) → eq_z (sel t (pos u) (negsuc (2 ^ 64 - suc u))) (pos 0) ≡ false
    go true = ne_eqb u 0 h
    go false = refl

-- ---- into two numbers

pub pair_record : (c d : ℕ) {v : Value} → d < 4294967296 → v ≡ Record c d
    → Record ((4294967296 * c + d) / 4294967296) ((4294967296 * c + d) % 4294967296) ≡ v
pair_record c d l e =
    let p : (4294967296 * c + d) / 4294967296 ≡ c = omega (arith, l) in
    let q : (4294967296 * c + d) % 4294967296 ≡ d = omega (arith, l) in
    rw (p, q) (sym e)
