-- The records of open forks as a row of numbers.
use mathlib.Core.Path.{◌≡◌, refl, sym, ap, subst, ◌∙◌}
use mathlib.Core.Bool.{true}
use mathlib.Core.List.{List, [], ◌∷◌}
use Prim.Native.Nat.{ℕ, zero, suc, ◌-◌, ◌%◌, ◌<◌, ◌≤◌}
use native.Mathlib.Omega.{arith}
use lib.Dec.{eqb}
use lib.ListN.{length, get_or, set, replicate}
use borrow.Author.Tests.{eqb-true, eq-eqb}
use Rattle.facts.proofs.Tests.{same, by_order}
use Rattle.task.specs.declared.Fork.{Fork}
use Rattle.task.specs.Frames.{zero_fork}
use Rattle.task.specs.Effect.{fits}
use Rattle.task.proofs.Fitting.{fits_is, is_fits, innermost-under}
use Rattle.evaluator.specs.Banks.{fork_of, forks_of, Nested}

pub fork_at : (recs : List ℕ) (n i : ℕ) → i < n → get_or (forks_of recs n) i zero_fork ≡ fork_of (get_or recs i 0)
unfolding forks_of
fork_at [] n i h = refl
fork_at (u ∷ recs) zero i h = absurd (omega arith)
fork_at (u ∷ recs) (suc n) zero h = refl
fork_at (u ∷ recs) (suc n) (suc i) h = fork_at recs n i (omega arith)

pub no-forks : (recs : List ℕ) → forks_of recs 0 ≡ replicate (length recs) zero_fork
unfolding forks_of
no-forks [] = refl
no-forks (u ∷ recs) = ap (λ l. zero_fork ∷ l) (no-forks recs)

-- one opened, one closed, and one beyond those in use
pub forks_opened : (recs : List ℕ) (n u : ℕ) → forks_of (set recs n u) (suc n) ≡ set (forks_of recs n) n (fork_of u)
unfolding forks_of
forks_opened [] n u = refl
forks_opened (v ∷ recs) zero u = refl
forks_opened (v ∷ recs) (suc n) u = ap (λ l. fork_of v ∷ l) (forks_opened recs n u)

pub forks-closed : (recs : List ℕ) (n : ℕ) → set (forks_of recs (suc n)) n zero_fork ≡ forks_of recs n
unfolding forks_of
forks-closed [] n = refl
forks-closed (v ∷ recs) zero = refl
forks-closed (v ∷ recs) (suc n) = ap (λ l. fork_of v ∷ l) (forks-closed recs n)

pub forks-below : (recs : List ℕ) (d n u : ℕ) → n ≤ d → forks_of (set recs d u) n ≡ forks_of recs n
unfolding forks_of
forks-below [] d n u h = refl
forks-below (v ∷ recs) zero zero u h = refl
forks-below (v ∷ recs) zero (suc n) u h = absurd (omega arith)
forks-below (v ∷ recs) (suc d) zero u h = ap (λ l. zero_fork ∷ l) (forks-below recs d zero u (omega arith))
forks-below (v ∷ recs) (suc d) (suc n) u h = ap (λ l. fork_of v ∷ l) (forks-below recs d n u (omega arith))

-- ---- whether a record fits: one of the task's own depth does, one of a smaller depth where it is the innermost open fork's

pub own_depth : (recs : List ℕ) (u d : ℕ) → d ≡ u % 4294967296 → fits (fork_of u) d (forks_of recs d) ≡ true
own_depth recs u d e = is_fits (fork_of u) d (forks_of recs d) (record { shallow = omega (arith, e); belongs = λ i a b. absurd (omega (arith, a, b, e)) })

module _ (recs : List ℕ) (u d : ℕ) (low : u % 4294967296 < d) where
  -- one that fits is that fork's
  innermost_is : fits (fork_of u) d (forks_of recs d) ≡ true → get_or recs (d - 1) 0 ≡ u
  innermost_is e =
      let k : fork_of (get_or recs (d - 1) 0) ≡ fork_of u = sym (fork_at recs d (d - 1) (omega (arith, low))) ∙ innermost-under (fork_of u) d (forks_of recs d) e low in
      omega (arith, ap (λ (x : Fork). x.continuation) k, ap (λ (x : Fork). x.depth) k)

  -- that fork's fits, as it fitted the forks outside it
  innermost-fits : Nested recs d → get_or recs (d - 1) 0 ≡ u → fits (fork_of u) d (forks_of recs d) ≡ true
  innermost-fits n e = is_fits (fork_of u) d (forks_of recs d) (record {
    shallow = omega (arith, low);
    belongs = λ i a b. fork_at recs d i b ∙ by_order i (d - 1) (λ c. outside i a c) (λ c. ap (λ j. fork_of (get_or recs j 0)) c ∙ ap fork_of e) (λ c. absurd (omega (arith, b, c)));
  })
    where
      outside : (i : ℕ) → u % 4294967296 ≤ i → i < d - 1 → fork_of (get_or recs i 0) ≡ fork_of u
      outside i a b =
          let f = subst (λ v. fits (fork_of v) (d - 1) (forks_of recs (d - 1)) ≡ true) e (n.fitted (d - 1) (omega (arith, low))) in
          sym (fork_at recs (d - 1) i b) ∙ (fits_is (fork_of u) (d - 1) (forks_of recs (d - 1)) f).belongs i a b

  pub by-innermost : Nested recs d → eqb (get_or recs (d - 1) 0) u ≡ fits (fork_of u) d (forks_of recs d)
  by-innermost n = same (eqb (get_or recs (d - 1) 0) u) (fits (fork_of u) d (forks_of recs d))
      (λ e. innermost-fits n (eqb-true (get_or recs (d - 1) 0) u e)) (λ e. eq-eqb (get_or recs (d - 1) 0) u (innermost_is e))

-- ---- records that fitted: of a row with the same open forks, and with one opened under a record that fits

module _ (recs recs' : List ℕ) (d : ℕ) (same_forks : (i : ℕ) → i ≤ d → forks_of recs' i ≡ forks_of recs i) (n : Nested recs d) where
  pub nested_same : Nested recs' d
  nested_same = record {
    fitted = λ i l.
        let e = sym (fork_at recs' d i l) ∙ ap (λ o. get_or o i zero_fork) (same_forks d (omega arith)) ∙ fork_at recs d i l in
        ap (λ k. fits k i (forks_of recs' i)) e ∙ ap (fits (fork_of (get_or recs i 0)) i) (same_forks i (omega (arith, l))) ∙ n.fitted i l;
  }

  pub nested_opened : {k : Fork} → fork_of (get_or recs' d 0) ≡ k → fits k d (forks_of recs d) ≡ true → Nested recs' (suc d)
  nested_opened e f = record {
    fitted = λ i l. by_order i d (λ b. nested_same.fitted i b)
        (λ b. subst (λ m. fits (fork_of (get_or recs' m 0)) m (forks_of recs' m) ≡ true) (sym b) (ap (λ k. fits k d (forks_of recs' d)) e ∙ ap (fits _ d) (same_forks d (omega arith)) ∙ f))
        (λ b. absurd (omega (arith, b, l)));
  }
