-- A slot's code tells whether it is vacant, whether it is a task of so many places, and whether that has ended its side.
use Prim.Native.Nat.{ℕ, ◌+◌, ◌-◌, ◌≤◌}
use mathlib.Core.Path.{◌≡◌, refl, sym, ap, ◌∙◌}
use mathlib.Core.Bool.{Bool, true, false, not, ◌&&◌, and-false}
use native.Mathlib.Omega.{arith}
use lib.Dec.{eqb}
use lib.Pow.{pow_pos}
use borrow.Author.Tests.{eqb-true, eqb-false, eq-eqb, ne_eqb}
use Rattle.facts.proofs.Tests.{clash, both_true, by-test, same, never}
use Rattle.image.specs.Program.{Program}
use Rattle.task.specs.declared.Frame.{Frame}
use Rattle.task.specs.Frames.{running}
use Rattle.task.specs.Formed.{is_vacant, formed}
use Rattle.task.proofs.Formation.{formed_is}
use Rattle.task.proofs.Vacancy.{vacant_is}
use Rattle.shape.specs.Codes.{code, code_of, stands}

zero_code : (v l r : Bool) (h : ℕ) → eqb (code v l r h) 0 ≡ v
zero_code true l r h = refl
zero_code false false r h = refl
zero_code false true true h = ne_eqb (h + 1) 0 (λ e. omega arith)
zero_code false true false h = ne_eqb (h + 9) 0 (λ e. omega arith)

code-stands : (l r : Bool) (g h : ℕ) → g ≤ 6 → h ≤ 6 → stands (code false l r g) h ≡ l && eqb g h
code-stands false r g h p q = rw (ne_eqb 255 (h + 1) (λ e. omega arith), ne_eqb 255 (h + 9) (λ e. omega arith))
code-stands true true g h p q =
    by-test (eqb g h)
    (λ t. let e = eqb-true g h t in rw (t, eq-eqb (g + 1) (h + 1) (omega arith)))
    (λ t. let n = eqb-false g h t in rw (t, ne_eqb (g + 1) (h + 1) (λ e. n (omega arith)), ne_eqb (g + 1) (h + 9) (λ e. omega arith)))
code-stands true false g h p q =
    by-test (eqb g h)
    (λ t. let e = eqb-true g h t in rw (t, ne_eqb (g + 9) (h + 1) (λ e. omega arith), eq-eqb (g + 9) (h + 9) (omega arith)))
    (λ t. let n = eqb-false g h t in rw (t, ne_eqb (g + 9) (h + 1) (λ e. omega arith), ne_eqb (g + 9) (h + 9) (λ e. n (omega arith))))

module _ (program : Program) (D : ℕ) (small : D ≤ 6) where
  abbrev height : Frame → ℕ
  height f = D - f.task.depth

  -- a task's height is what its depth says
  pub formed-height : (h : ℕ) (f : Frame) → formed program D h f ≡ true → f.task.depth + h ≡ D
  formed-height h f t = (formed_is program D h f t).has_depth

  formed_own : (h : ℕ) (f : Frame) → formed program D h f ≡ true → formed program D (height f) f ≡ true
  formed_own h f t =
      let e : height f ≡ h = omega (arith, formed-height h f t) in
      ap (λ k. formed program D k f) e ∙ t

  formed_live : (h : ℕ) (f : Frame) → formed program D h f ≡ true → is_vacant f ≡ false
  formed_live h f t =
      never (is_vacant f)
      (λ v. let p = (formed_is program D h f t).has_places in
      let e = ap (λ (g : Frame). g.task.places) (vacant_is f v) in
      omega (arith, pow_pos h))

  pub code-vacant : (f : Frame) → eqb (code_of program D f) 0 ≡ is_vacant f
  code-vacant f = zero_code (is_vacant f) (formed program D (height f) f) (running f) (height f)

  pub code-formed : (h : ℕ) (f : Frame) → h ≤ 6 → stands (code_of program D f) h ≡ formed program D h f
  code-formed h f q =
      by-test (is_vacant f)
      (λ v. rw (v, ne_eqb 0 (h + 1) (λ e. omega arith), ne_eqb 0 (h + 9) (λ e. omega arith))
      (sym (never (formed program D h f) (λ t. clash v (formed_live h f t)))))
      (λ v. rw v
      (code-stands (formed program D (height f) f) (running f) (height f) h (omega arith) q
      ∙ same (formed program D (height f) f && eqb (height f) h) (formed program D h f)
      (λ t. let b = both_true (formed program D (height f) f) (eqb (height f) h) t in
      ap (λ k. formed program D k f) (sym (eqb-true (height f) h b.1)) ∙ b.0)
      (λ t. rw (formed_own h f t, eq-eqb (height f) h (omega (arith, formed-height h f t))))))

  -- of a task of 2 ^ g places, whether it has ended a side of 2 ^ h
  pub code-ended : (g h : ℕ) (f : Frame) → g ≤ h → h ≤ D → formed program D g f ≡ true
      → eqb (code_of program D f) (h + 9) ≡ eqb f.task.depth (D - h) && not (running f)
  code-ended g h f p q t =
      let d = formed-height g f t in
      rw (formed_live g f t, formed_own g f t)
      (by-test (running f)
      (λ r. rw (r, ne_eqb (height f + 1) (h + 9) (λ e. omega arith), and-false))
      (λ r. by-test (eqb f.task.depth (D - h))
      (λ s. let e = eqb-true f.task.depth (D - h) s in rw (r, s, eq-eqb (height f + 9) (h + 9) (omega arith)))
      (λ s. let n = eqb-false f.task.depth (D - h) s in rw (r, s, ne_eqb (height f + 9) (h + 9) (λ e. n (omega arith))))))
