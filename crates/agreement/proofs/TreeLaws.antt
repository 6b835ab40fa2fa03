-- A tree evaluates in one way only; what one instruction, one join, or a move of one side does to its evaluation.
use Prim.Native.Nat.{ℕ, ◌+◌}
use mathlib.Core.Path.{◌≡◌, refl}
use mathlib.Core.Bool.{true, false}
use native.Mathlib.Omega.{arith}
use Rattle.facts.proofs.Tests.{clash}
use Rattle.agreement.specs.Plain.{Rules}
use Rattle.agreement.proofs.Trees.{Tree, leaf, node, grow, Place, lower, upper, weight, Evals, ended, issue, both, Ahead}

module _ {F : Type 0} (R : Rules F) (count : ℕ → ℕ) where
  open R use {running, step, join}

  abbrev At : Place → Tree F → F → ℕ → Type 0
  At = Evals R count

  abbrev Step : Place → ℕ → Tree F → Tree F → Type 0
  Step = Ahead R count

  pub evals_one_way : {p : Place} {T : Tree F} {e e' : F} {w w' : ℕ} → Evals R count p T e w → Evals R count p T e' w'
      → (e ≡ e') × (w ≡ w')
  evals_one_way (ended r) (ended r') = (refl, refl)
  evals_one_way (ended r) (issue r' d n) = clash r' r
  evals_one_way (issue r d n) (ended r') = clash r r'
  evals_one_way (issue r d n) (issue r' d' n') = let h = evals_one_way d d' in (h.0, omega (arith, h.1))
  evals_one_way (both a b j n) (both a' b' j' n') =
      let ha = evals_one_way a a' in
      let hb = evals_one_way b b' in
      let h = evals_one_way j (rw (← ha.0, ← hb.0) at j') in
      (h.0, omega (arith, h.1, ha.1, hb.1))

  reweigh : {p : Place} {T : Tree F} {e : F} {m n : ℕ} → n ≡ m → At p T e m → At p T e n
  reweigh h d = rw h d

  pub ahead_refl : (p : Place) (T : Tree F) → Ahead R count p 0 T T
  ahead_refl p T = record { back = λ e w d. reweigh (omega arith) d; fore = λ e w d. (w, omega arith, d) }

  pub ahead_trans : {p : Place} {j k : ℕ} {T U X : Tree F} → Ahead R count p j T U → Ahead R count p k U X
      → Ahead R count p (j + k) T X
  ahead_trans {j = j} {k = k} s t = record {
    back = λ e w d. reweigh (omega arith) (s.back e (k + w) (t.back e w d));
    fore = λ e w d. let x = s.fore e w d in let y = t.fore e x.0 x.2 in (y.0, omega (arith, x.1, y.1), y.2);
  }

  -- the parent's side moves
  lower_back : {p : Place} {k : ℕ} {a a' b : Tree F} {e : F} {w : ℕ} → Step (lower p) k a a' → At p (node a' b) e w
      → At p (node a b) e (k + w)
  lower_back {k = k} h (both {n = n} da db dj q) = both {n = k + n} (h.back _ _ da) db dj (omega arith)

  lower_fore : {p : Place} {k : ℕ} {a a' b : Tree F} {e : F} {w : ℕ} → Step (lower p) k a a' → At p (node a b) e w
      → (r : ℕ) × (w ≡ k + r) × At p (node a' b) e r
  lower_fore h (both {v = v} {w = z} da db dj q) =
      let r = h.fore _ _ da in (r.0 + v + z, omega (arith, r.1), both r.2 db dj refl)

  pub ahead_lower : {p : Place} {k : ℕ} {a a' : Tree F} (b : Tree F) → Ahead R count (lower p) k a a'
      → Ahead R count p k (node a b) (node a' b)
  ahead_lower b h = record { back = λ e w d. lower_back h d; fore = λ e w d. lower_fore h d }

  -- the child's side moves
  upper_back : {p : Place} {k : ℕ} {a b b' : Tree F} {e : F} {w : ℕ} → Step (upper p) k b b' → At p (node a b') e w
      → At p (node a b) e (k + w)
  upper_back {k = k} h (both {n = n} da db dj q) = both {n = k + n} da (h.back _ _ db) dj (omega arith)

  upper_fore : {p : Place} {k : ℕ} {a b b' : Tree F} {e : F} {w : ℕ} → Step (upper p) k b b' → At p (node a b) e w
      → (r : ℕ) × (w ≡ k + r) × At p (node a b') e r
  upper_fore h (both {u = u} {w = z} da db dj q) =
      let r = h.fore _ _ db in (u + r.0 + z, omega (arith, r.1), both da r.2 dj refl)

  pub ahead_upper : {p : Place} {k : ℕ} {b b' : Tree F} (a : Tree F) → Ahead R count (upper p) k b b'
      → Ahead R count p k (node a b) (node a b')
  ahead_upper a h = record { back = λ e w d. upper_back h d; fore = λ e w d. upper_fore h d }

  -- one instruction of one task
  step_fore : {p : Place} {f e : F} {w : ℕ} → running f ≡ true → At p (leaf f) e w
      → (r : ℕ) × (w ≡ weight count p + r) × At p (grow (step f)) e r
  step_fore r (ended r') = clash r r'
  step_fore r (issue {w = w} r' d q) = (w, q, d)

  pub ahead_step : {p : Place} {f : F} → running f ≡ true → Ahead R count p (weight count p) (leaf f) (grow (step f))
  ahead_step r = record { back = λ e w d. issue r d refl; fore = λ e w d. step_fore r d }

  -- two ended sides, and their join
  join_fore : {p : Place} {f g e : F} {w : ℕ} → running f ≡ false → running g ≡ false → At p (node (leaf f) (leaf g)) e w
      → At p (leaf (join f g)) e w
  join_fore rf rg (both da db dj q) =
      let ha = evals_one_way da (ended rf) in
      let hb = evals_one_way db (ended rg) in
      reweigh (omega (arith, ha.1, hb.1)) (rw (ha.0, hb.0) at dj)

  pub ahead-join : {p : Place} {f g : F} → running f ≡ false → running g ≡ false
      → Ahead R count p 0 (node (leaf f) (leaf g)) (leaf (join f g))
  ahead-join rf rg = record {
    back = λ e w d. both {n = 0 + w} (ended rf) (ended rg) d (omega arith);
    fore = λ e w d. (w, omega arith, join_fore rf rg d);
  }
