-- One task at a time finds what the plain evaluation finds: by induction on the budget, in both directions.
use Prim.Native.Nat.{ℕ, zero, suc, ◌+◌, ◌-◌, ◌≤◌, ◌<◌}
use mathlib.Core.Path.{◌≡◌, refl, sym, ◌∙◌}
use mathlib.Core.Bool.{false}
use mathlib.Core.List.{[]}
use native.Mathlib.Omega.{arith}
use lib.Dec.{leb}
use borrow.Author.Tests.{leb-true, leb-false}
use Rattle.facts.proofs.Tests.{by-test}
use Rattle.agreement.specs.Plain.{Rules, Ran, out, ran, eval}
use Rattle.agreement.specs.Picks.{once}
use Rattle.agreement.proofs.PlainLaws.{out_not_ran}
use Rattle.agreement.proofs.Trees.{Tree, leaf, place, Evals, ended}
use Rattle.agreement.proofs.TreeLaws.{evals_one_way}
use Rattle.agreement.proofs.EvalLaws.{eval-sound, eval_complete}
use Rattle.serial.specs.Serial.{Held, held, Outcome, spent, done, onward, taken, run, within_budget, SerialIsPlain}
use Rattle.serial.proofs.Equations.{run-spent, run_step, run-done}
use Rattle.serial.proofs.Plugging.{plugged, none, Ready, works, over, onward-went, taken-went, step-ahead}

spent-not-done : {F A : Type 0} {e : F} {l : ℕ} → spent ≡ done e l → A
spent-not-done q = let z : ◌≡◌ {A = ℕ} 0 1 = cc in absurd (omega arith)

module _ {F : Type 0} (R : Rules F) where
  open R use {running, step, join}

  abbrev At : Tree F → F → ℕ → Type 0
  At = Evals R once (place 0 0)

  -- ---- Where the tree evaluates within the budget, the run says so

  abbrev Finds : ℕ → Type 0
  Finds n = (h : Held F) → Ready R h → (e : F) (w : ℕ) → At (plugged h) e w → w ≤ n → run R n h ≡ done e (n - w)

  over-finds : (n : ℕ) (f e : F) (w : ℕ) → running f ≡ false → At (leaf f) e w → run R n (held f []) ≡ done e (n - w)
  over-finds n f e w r d =
      let t = evals_one_way R once (ended r) d in
      let q : n - w ≡ n = omega (arith, t.1) in
      run-done R n f [] r ∙ rw (t.0, q)

  none-finds : Finds zero
  none-finds (held f []) (over r) e w d l = over-finds zero f e w r d
  none-finds (held f s) (works r o) e w d l = let x = (step-ahead R s f r).fore e w d in absurd (omega (arith, x.1))

  more-finds : (n : ℕ) → Finds n → Finds (suc n)
  more-finds n go (held f []) (over r) e w d l = over-finds (suc n) f e w r d
  more-finds n go (held f s) (works r o) e w d l =
      let x = (step-ahead R s f r).fore e w d in
      let t = taken-went R s o (step f) in
      let y = t.ahead.fore e x.0 x.2 in
      let q : n - y.0 ≡ suc n - w = omega (arith, x.1, y.1) in
      run_step R n f s r ∙ go (taken R s (step f)) t.ready e y.0 y.2 (omega (arith, x.1, y.1)) ∙ rw q

  run-finds : (n : ℕ) → Finds n
  run-finds zero = none-finds
  run-finds (suc n) = more-finds n (run-finds n)

  -- ---- What a run says to be done, the tree evaluates to

  record Found (n : ℕ) (T : Tree F) (e : F) (l : ℕ) : Type 0 where
    no_more : l ≤ n
    evals : At T e (n - l)

  abbrev Tells : ℕ → Type 0
  Tells n = (h : Held F) → Ready R h → (e : F) (l : ℕ) → run R n h ≡ done e l → Found n (plugged h) e l

  over_tells : (n : ℕ) (f e : F) (l : ℕ) → running f ≡ false → run R n (held f []) ≡ done e l → Found n (leaf f) e l
  over_tells n f e l r q =
      let t : done f n ≡ done e l = sym (run-done R n f [] r) ∙ q in
      let te : f ≡ e = cc in
      let tl : n ≡ l = cc in
      let z : n - l ≡ 0 = omega (arith, tl) in
      record { no_more = omega (arith, tl); evals = rw (z, ← te) (ended r) }

  none_tells : Tells zero
  none_tells (held f []) (over r) e l q = over_tells zero f e l r q
  none_tells (held f s) (works r o) e l q = spent-not-done (sym (run-spent R f s r) ∙ q)

  more_tells : (n : ℕ) → Tells n → Tells (suc n)
  more_tells n go (held f []) (over r) e l q = over_tells (suc n) f e l r q
  more_tells n go (held f s) (works r o) e l q =
      let t = taken-went R s o (step f) in
      let y = go (taken R s (step f)) t.ready e l (sym (run_step R n f s r) ∙ q) in
      let k : suc n - l ≡ 1 + (0 + (n - l)) = omega (arith, y.no_more) in
      record {
        no_more = omega (arith, y.no_more);
        evals = rw k ((step-ahead R s f r).back e (0 + (n - l)) (t.ahead.back e (n - l) y.evals));
      }

  run_tells : (n : ℕ) → Tells n
  run_tells zero = none_tells
  run_tells (suc n) = more_tells n (run_tells n)

  -- ---- So the run within a budget of n is the plain evaluation, read off at n

  outcome_cases : (n : ℕ) (x : Ran F) (o : Outcome F)
      → ((e : F) (w : ℕ) → x ≡ ran e w → w ≤ n → o ≡ done e (n - w))
      → ((e : F) (l : ℕ) → o ≡ done e l → (l ≤ n) × (x ≡ ran e (n - l)))
      → o ≡ within_budget n x
  outcome_cases n out spent fore back = refl
  outcome_cases n out (done e l) fore back = out_not_ran (back e l refl).1
  outcome_cases n (ran e w) o fore back =
      by-test (leb w n) (λ t. fore e w refl (leb-true w n t) ∙ rw (t, within_budget))
      (λ t. rw (t, within_budget) (rest o back (leb-false w n t)))
    where
      rest : (o : Outcome F) → ((f : F) (l : ℕ) → o ≡ done f l → (l ≤ n) × (ran e w ≡ ran f (n - l))) → n < w → o ≡ spent
      rest spent back h = refl
      rest (done f l) back h = let t = back f l refl in let q : w ≡ n - l = cc in absurd (omega (arith, t.0, q))

  pub serial_is_plain : SerialIsPlain R
  serial_is_plain n m enough f =
      let t = onward-went R [] none f in
      outcome_cases n (eval R m f) (run R n (onward R f []))
      (λ e w q l.
      let y = t.ahead.fore e w (eval-sound R once (λ k. refl) m f e w q (place 0 0)) in
      let z : n - y.0 ≡ n - w = omega (arith, y.1) in
      run-finds n (onward R f []) t.ready e y.0 y.2 (omega (arith, y.1)) ∙ rw z)
      (λ e l q.
      let y = run_tells n (onward R f []) t.ready e l q in
      let z : n - l ≡ 0 + (n - l) = omega arith in
      (y.no_more, rw z (eval_complete R once (λ k. refl) (t.ahead.back e (n - l) y.evals) m (omega arith))))
