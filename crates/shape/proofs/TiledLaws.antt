-- The test over codes, one level at a time.
use Prim.Native.Nat.{ℕ, zero, suc, ◌+◌, ◌-◌, ◌^◌, ◌≤◌}
use mathlib.Core.Path.{◌≡◌, refl, sym, ap, ◌∙◌}
use mathlib.Core.Bool.{true, false, not}
use mathlib.Core.List.{List}
use native.Mathlib.Omega.{arith}
use lib.Dec.{eqb}
use lib.Pow.{pow_mono}
use lib.ListN.{get_or}
use borrow.Author.Tests.{eq-eqb, ne_eqb}
use Rattle.shape.specs.Codes.{stands, clear, not_both_ended, tiled}

pub tiled-whole : (codes : List ℕ) (h b : ℕ) → stands (get_or codes b 0) h ≡ true → tiled codes h b ≡ clear codes (2 ^ h - 1) (b + 1)
unfolding tiled
tiled-whole codes zero b e = rw (tiled, e)
tiled-whole codes (suc h) b e = rw (tiled, e)

module _ (codes : List ℕ) (b : ℕ) where
  pub tiled-none : stands (get_or codes b 0) 0 ≡ false → tiled codes 0 b ≡ false
  unfolding tiled
  tiled-none e = rw (tiled, e)

  module _ (h : ℕ) (split : stands (get_or codes b 0) (suc h) ≡ false) where
    pub tiled-lower_fails : tiled codes h b ≡ false → tiled codes (suc h) b ≡ false
    unfolding tiled
    tiled-lower_fails l = rw (tiled, split, l)

    pub tiled-upper_fails : tiled codes h b ≡ true → tiled codes h (b + 2 ^ h) ≡ false → tiled codes (suc h) b ≡ false
    unfolding tiled
    tiled-upper_fails l u = rw (tiled, split, l, u)

    pub tiled-halves : tiled codes h b ≡ true → tiled codes h (b + 2 ^ h) ≡ true → tiled codes (suc h) b ≡ not_both_ended codes h b
    unfolding tiled
    tiled-halves l u = rw (tiled, split, l, u)

-- half of the slots
pub halved : (h : ℕ) → (h ≡ 0 → ⊥) → 2 ^ h ≡ 2 ^ (h - 1) + 2 ^ (h - 1)
halved zero n = absurd (n refl)
halved (suc h) n = let e : suc h - 1 ≡ h = omega arith in rw e (omega arith)

-- ---- the ways through the code, which reads c at slot b and has p slots in a half

module _ (codes : List ℕ) (h b c : ℕ) (read : c ≡ get_or codes b 0) where
  pub whole_way : (p : ℕ) → p ≡ 2 ^ h → stands c h ≡ true → clear codes (b + p - (b + 1)) (b + 1) ≡ tiled codes h b
  whole_way p e s =
      ap (λ n. clear codes n (b + 1)) {x = b + p - (b + 1)} {y = 2 ^ h - 1} (omega arith) ∙ sym (tiled-whole codes h b (rw read at s))

  pub no_way : h ≡ 0 → stands c h ≡ false → false ≡ tiled codes h b
  no_way e s = rw e (sym (tiled-none codes b (rw (e, read) at s)))

  module _ (g p : ℕ) (e : h ≡ suc g) (q : p ≡ 2 ^ g) (s : stands c h ≡ false) where
    split : stands (get_or codes b 0) (suc g) ≡ false
    split = rw (e, read) at s

    upper-at : tiled codes g (b + p) ≡ tiled codes g (b + 2 ^ g)
    upper-at = ap (λ n. tiled codes g (b + n)) q

    pub lower_fails_way : tiled codes g b ≡ false → false ≡ tiled codes h b
    lower_fails_way l = rw e (sym (tiled-lower_fails codes b g split l))

    module _ (l : tiled codes g b ≡ true) where
      pub upper_fails_way : tiled codes g (b + p) ≡ false → false ≡ tiled codes h b
      upper_fails_way u = rw e (sym (tiled-upper_fails codes b g split l (sym upper-at ∙ u)))

      module _ (u : tiled codes g (b + p) ≡ true) where
        halves : tiled codes h b ≡ not_both_ended codes g b
        halves = rw e (tiled-halves codes b g split l (sym upper-at ∙ u))

        pub parent-goes-on_way : (c ≡ h + 8 → ⊥) → true ≡ tiled codes h b
        parent-goes-on_way n = sym (halves ∙ rw (ne_eqb (get_or codes b 0) (g + 9) (λ k. n (omega (arith, read)))))

        pub child_decides_way : (d : ℕ) → d ≡ get_or codes (b + p) 0 → c ≡ h + 8 → not (eqb d (h + 8)) ≡ tiled codes h b
        child_decides_way d r k =
            let a : h + 8 ≡ g + 9 = omega arith in
            sym (halves ∙ rw (eq-eqb (get_or codes b 0) (g + 9) (omega arith), ← q, ← r, ← a))

-- ---- the whole test

-- at most 64 places
pub power_small : (h : ℕ) → h ≤ 6 → 2 ^ h ≤ 64
power_small h p = pow_mono {i = h} {j = 6} p
