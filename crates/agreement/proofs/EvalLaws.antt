-- The plain evaluation and the evaluation of trees are one: `eval` gives e and w just where the tree of that one task does.
use Prim.Native.Nat.{ℕ, zero, suc, ◌+◌, ◌≤◌}
use mathlib.Core.Path.{◌≡◌, refl, sym, ◌∙◌}
use mathlib.Core.Bool.{true, false}
use native.Mathlib.Omega.{arith}
use Rattle.facts.proofs.Tests.{by-test}
use Rattle.agreement.specs.Plain.{Stepped, one, two, Rules, Ran, ran, tally, gather, sides, eval}
use Rattle.agreement.proofs.PlainLaws.{out_not_ran, eval-ended, eval_out, eval_issue, tally_ran, gather_ran}
use Rattle.agreement.proofs.Trees.{Tree, leaf, node, grow, Place, place, lower, upper, weight, Evals, ended, issue, both}

module _ {F : Type 0} (R : Rules F) where
  open R use {running, step, join}

  -- a tree evaluated by `go` at its tasks
  abbrev over : (F → Ran F) → Tree F → Ran F
  over go (leaf f) = go f
  over go (node a b) = gather (over go a) (over go b) λ x y. go (join x y)

  over-grow : (go : F → Ran F) (s : Stepped F) → sides R go s ≡ over go (grow s)
  over-grow go (one g) = refl
  over-grow go (two p c) = refl

  eval-grow : (n : ℕ) (f : F) → running f ≡ true → eval R (suc n) f ≡ tally 1 (over (λ g. eval R n g) (grow (step f)))
  eval-grow n f r = rw (eval_issue R n f r, over-grow)

  -- where every instruction weighs 1
  module _ (count : ℕ → ℕ) (single : (k : ℕ) → count k ≡ 1) where
    abbrev At : Place → Tree F → F → ℕ → Type 0
    At = Evals R count

    weighs_one : (p : Place) → weight count p ≡ 1
    weighs_one (place b h) = single b

    over-sound : (go : F → Ran F) → ((f e : F) (w : ℕ) → go f ≡ ran e w → (p : Place) → At p (leaf f) e w)
        → (T : Tree F) (e : F) (w : ℕ) → over go T ≡ ran e w → (p : Place) → At p T e w
    over-sound go h (leaf f) e w q p = h f e w q p
    over-sound go h (node a b) e w q p =
        let x = gather_ran _ _ _ e w q in
        both (over-sound go h a x.a x.u x.first (lower p)) (over-sound go h b x.b x.v x.second (upper p))
        (h _ e x.z x.last p) x.sum

    ended-sound : (n : ℕ) (f e : F) (w : ℕ) → eval R n f ≡ ran e w → running f ≡ false → (p : Place) → At p (leaf f) e w
    ended-sound n f e w q r p =
        let c : ran f 0 ≡ ran e w = sym (eval-ended R n f r) ∙ q in
        let he : f ≡ e = cc in
        let hw : 0 ≡ w = cc in
        rw (← he, ← hw) (ended r)

    -- what the plain evaluation gives is the tree's evaluation, wherever it stands
    pub eval-sound : (n : ℕ) (f e : F) (w : ℕ) → eval R n f ≡ ran e w → (p : Place) → Evals R count p (leaf f) e w
    eval-sound zero f e w q p = by-test (running f) (λ r. out_not_ran (sym (eval_out R f r) ∙ q)) (λ r. ended-sound zero f e w q r p)
    eval-sound (suc n) f e w q p =
        by-test (running f)
        (λ r.
        let t = tally_ran 1 _ e w (sym (eval-grow n f r) ∙ q) in
        issue {w = t.0} {n = w} r (over-sound (λ g. eval R n g) (λ g. eval-sound n g) _ e t.0 t.1 p)
        (omega (arith, weighs_one p, t.2)))
        (λ r. ended-sound (suc n) f e w q r p)

    -- and a tree's evaluation is found with any fuel that is at least its work: no recursion goes deeper than the work
    over_complete : {p : Place} {T : Tree F} {e : F} {w : ℕ} → At p T e w → (n : ℕ) → w ≤ n → over (λ g. eval R n g) T ≡ ran e w
    over_complete (ended {f = f} r) n h = eval-ended R n f r
    over_complete (issue {p = p} r d q) zero h = absurd (omega (arith, weighs_one p))
    over_complete (issue {p = p} {f = f} {w = w} {n = t} r d q) (suc n) h =
        let ih = over_complete d n (omega (arith, weighs_one p)) in
        let k : t ≡ 1 + w = omega (arith, weighs_one p) in
        eval-grow n f r ∙ rw (ih, k)
    over_complete (both {u = u} {v = v} {w = w} {n = t} da db dj q) n h =
        let ha = over_complete da n (omega arith) in
        let hb = over_complete db n (omega arith) in
        let hj = over_complete dj n (omega arith) in
        let k : t ≡ u + v + w = q in
        rw (ha, hb, hj, k)

    pub eval_complete : {p : Place} {f e : F} {w : ℕ} → Evals R count p (leaf f) e w → (n : ℕ) → w ≤ n → eval R n f ≡ ran e w
    eval_complete d n h = over_complete d n h

  -- so any fuel from the work on gives the same
  pub eval_any_fuel : (n n' : ℕ) (f e : F) (w : ℕ) → eval R n f ≡ ran e w → w ≤ n' → eval R n' f ≡ ran e w
  eval_any_fuel n n' f e w q h = eval_complete (λ k. 1) (λ k. refl) (eval-sound (λ k. 1) (λ k. refl) n f e w q (place 0 0)) n' h
