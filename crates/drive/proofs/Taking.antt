-- The slots that a round takes: the first, in slot order, at which a task runs.
use mathlib.Core.Path.{◌≡◌, refl, sym, ap, ◌∙◌}
use mathlib.Core.Bool.{true}
use mathlib.Core.List.{List, [], ◌∷◌}
use Prim.Native.Nat.{ℕ, zero, suc, ◌+◌, ◌-◌, ◌<◌, ◌≤◌}
use native.Mathlib.Omega.{arith}
use Rattle.facts.proofs.Tests.{by-test, by_order}
use Rattle.task.specs.Frames.{running}
use Rattle.drive.specs.declared.State.{State}
use Rattle.drive.specs.Slots.{at}
use Rattle.drive.specs.Rounds.{taken}
use Rattle.drive.proofs.Seeking.{Quiet}

pub taken_none : (m : State) (n k : ℕ) → taken m 0 n k ≡ []
unfolding taken
taken_none m n k = refl

pub taken_out : (m : State) (lanes k : ℕ) → taken m lanes 0 k ≡ []
unfolding taken
taken_out m zero k = refl
taken_out m (suc lanes) k = refl

-- slots where nothing runs are passed over
pub taken-past : (m : State) (lanes w n k : ℕ) → Quiet m k (k + w) → taken m lanes (w + n) k ≡ taken m lanes n (k + w)
unfolding taken
taken-past m zero w n k quiet = refl
taken-past m (suc lanes) zero n k quiet =
    let y : 0 + n ≡ n = omega arith in
    let z : k + 0 ≡ k = omega arith in
    ap (λ i. taken m (suc lanes) i k) y ∙ ap (λ i. taken m (suc lanes) n i) (sym z)
taken-past m (suc lanes) (suc w) n k quiet =
    let y : suc w + n ≡ suc (w + n) = omega arith in
    let z : k + 1 + w ≡ k + suc w = omega arith in
    ap (λ i. taken m (suc lanes) i k) y ∙ rw (quiet k (omega arith) (omega arith), taken)
    (taken-past m (suc lanes) w n (k + 1) (λ i a b. quiet i (omega arith) (omega arith)) ∙ ap (λ i. taken m (suc lanes) n i) z)

-- one where a task runs is taken
pub taken-first : (m : State) (lanes n k : ℕ) → running (at m k) ≡ true → taken m (suc lanes) (suc n) k ≡ k ∷ taken m lanes n (k + 1)
unfolding taken
taken-first m lanes n k r = rw (r, taken)

-- it matters alone where tasks run
pub taken-same : (m m' : State) (lanes n k : ℕ) → ((i : ℕ) → k ≤ i → running (at m' i) ≡ running (at m i)) → taken m lanes n k ≡ taken m' lanes n k
unfolding taken
taken-same m m' zero n k same = refl
taken-same m m' (suc lanes) zero k same = refl
taken-same m m' (suc lanes) (suc n) k same =
    by-test (running (at m k))
    (λ r. let r' = same k (omega arith) ∙ r in
    rw (r, r', taken) (ap (λ ks. k ∷ ks) (taken-same m m' lanes n (k + 1) (λ i h. same i (omega arith)))))
    (λ r. let r' = same k (omega arith) ∙ r in
    rw (r, r', taken) (taken-same m m' (suc lanes) n (k + 1) (λ i h. same i (omega arith))))

-- with a lane and a running task some slot is
pub taken_some : (m : State) (lanes n k : ℕ) → taken m (suc lanes) n k ≡ [] → Quiet m k (k + n)
unfolding taken
taken_some m lanes zero k e i a b = absurd (omega arith)
taken_some m lanes (suc n) k e i a b =
    by-test (running (at m k)) (λ r. no_slot (rw (r, taken) at e))
    (λ r. by_order i k (λ x. absurd (omega arith)) (λ x. rw x r) (λ x. taken_some m lanes n (k + 1) (rw (r, taken) at e) i (omega arith) (omega arith)))
  where
    no_slot : {A : Type 0} {j : ℕ} {js : List ℕ} → j ∷ js ≡ [] → A
    no_slot z = let c : ◌≡◌ {A = ℕ} 1 0 = cc in absurd (omega arith)

-- ---- the first of them

pub record Found (m : State) (lanes n from k : ℕ) (ks : List ℕ) : Type 0 where
  pub some_lanes : 0 < lanes
  pub from_least : from ≤ k
  pub inside : k < from + n
  pub runs : running (at m k) ≡ true
  pub others : ks ≡ taken m (lanes - 1) (from + n - (k + 1)) (k + 1)

abbrev head_of : List ℕ → ℕ
head_of [] = 0
head_of (k ∷ ks) = k

abbrev tail_of : List ℕ → List ℕ
tail_of [] = []
tail_of (k ∷ ks) = ks

none_first : {A : Type 0} {k : ℕ} {ks : List ℕ} → [] ≡ k ∷ ks → A
none_first z = let c : ◌≡◌ {A = ℕ} 0 1 = cc in absurd (omega arith)

pub taken-found : (m : State) (lanes n from k : ℕ) (ks : List ℕ) → taken m lanes n from ≡ k ∷ ks → Found m lanes n from k ks
unfolding taken
taken-found m zero n from k ks e = none_first e
taken-found m (suc lanes) zero from k ks e = none_first e
taken-found m (suc lanes) (suc n) from k ks e = by-test (running (at m from)) (λ r. here r (rw (r, taken) at e))
    (λ r. later (taken-found m (suc lanes) n (from + 1) k ks (rw (r, taken) at e)))
  where
    here : running (at m from) ≡ true → from ∷ taken m lanes n (from + 1) ≡ k ∷ ks → Found m (suc lanes) (suc n) from k ks
    here r h =
        let first : from ≡ k = ap head_of h in
        let i : suc lanes - 1 ≡ lanes = omega arith in
        let j : from + suc n - (k + 1) ≡ n = omega arith in
        record {
          some_lanes = omega arith;
          from_least = omega arith;
          inside = omega arith;
          runs = ap (λ i. running (at m i)) (sym first) ∙ r;
          others = sym (ap tail_of h) ∙ ap (λ i. taken m lanes n (i + 1)) first ∙ ap (λ l. taken m l n (k + 1)) (sym i)
              ∙ ap (λ z. taken m (suc lanes - 1) z (k + 1)) (sym j);
        }

    later : Found m (suc lanes) n (from + 1) k ks → Found m (suc lanes) (suc n) from k ks
    later f =
        let j : from + 1 + n - (k + 1) ≡ from + suc n - (k + 1) = omega arith in
        record {
          some_lanes = omega arith;
          from_least = omega (arith, f.from_least);
          inside = omega (arith, f.inside);
          runs = f.runs;
          others = f.others ∙ ap (λ z. taken m (suc lanes - 1) z (k + 1)) j;
        }
