-- Where a stack begins on the pile: above those of the sides that do not run.
use mathlib.Core.Path.{◌≡◌, refl, ap, ◌∙◌}
use mathlib.Core.Bool.{false, cond}
use mathlib.Core.List.{List}
use Prim.Native.Nat.{ℕ, zero, suc, ◌+◌, ◌*◌, ◌<◌, ◌≤◌}
use native.Mathlib.Omega.{arith}
use Rattle.facts.proofs.Tests.{by_order}
use Rattle.task.specs.declared.Status.{Status}
use Rattle.task.specs.declared.Status.TheVariants.{Vacant, Running, Waiting, Halted, Faulted}
use Rattle.task.specs.Frames.{is_running}
use Rattle.evaluator.specs.declared.Kept.{Kept}
use Rattle.evaluator.specs.Hands.{kept_of, above, low_of}

-- a task that runs, and one that does not
pub by-running : {A : Type 0} (s : Status) → (s ≡ Running → A) → ((s ≡ Running → ⊥) → A) → A
by-running Vacant f g = g (λ e. let z : ◌≡◌ {A = ℕ} 0 1 = cc in absurd (omega arith))
by-running Running f g = f refl
by-running Waiting f g = g (λ e. let z : ◌≡◌ {A = ℕ} 0 1 = cc in absurd (omega arith))
by-running Halted f g = g (λ e. let z : ◌≡◌ {A = ℕ} 0 1 = cc in absurd (omega arith))
by-running (Faulted n) f g = g (λ e. let z : ◌≡◌ {A = ℕ} 0 1 = cc in absurd (omega arith))

pub not-running : (s : Status) → (s ≡ Running → ⊥) → is_running s ≡ false
not-running Vacant h = refl
not-running Running h = absurd (h refl)
not-running Waiting h = refl
not-running Halted h = refl
not-running (Faulted n) h = refl

pub above-ended : (s : Status) (low : ℕ) → (s ≡ Running → ⊥) → above s low ≡ low + 32
above-ended s low n = ap (λ b. cond b low (low + 32)) (not-running s n)

above-least : (s : Status) (low : ℕ) → low ≤ above s low
above-least s low = by-running s (λ e. rw e (omega arith)) (λ n. omega (arith, above-ended s low n))

above_most : (s : Status) (low : ℕ) → above s low ≤ low + 32
above_most s low = by-running s (λ e. rw e (omega arith)) (λ n. omega (arith, above-ended s low n))

-- one fork more
pub low_top : (sides : List Kept) (d : ℕ) {w : Status} → (kept_of sides d).status ≡ w → low_of sides (suc d) ≡ above w (low_of sides d)
unfolding low_of
low_top sides d e = ap (λ w. above w (low_of sides d)) e

pub low-none : (sides : List Kept) → low_of sides 0 ≡ 0
unfolding low_of
low-none sides = refl

-- it depends on those sides alone
pub low_same : (sides sides' : List Kept) (d : ℕ) → ((i : ℕ) → i < d → kept_of sides' i ≡ kept_of sides i) → low_of sides' d ≡ low_of sides d
unfolding low_of
low_same sides sides' zero h = refl
low_same sides sides' (suc d) h =
    let e = ap (λ (k : Kept). k.status) (h d (omega arith)) in
    let r = low_same sides sides' d (λ i l. h i (omega (arith, l))) in
    λ j. above (e j) (r j)

pub low_most : (sides : List Kept) (d : ℕ) → low_of sides d ≤ 32 * d
unfolding low_of
low_most sides zero = omega arith
low_most sides (suc d) = omega (arith, above_most (kept_of sides d).status (low_of sides d), low_most sides d)

-- a side that has ended has its 32 below it
pub low-above : (sides : List Kept) (d i : ℕ) → i < d → ((kept_of sides i).status ≡ Running → ⊥) → low_of sides i + 32 ≤ low_of sides d
unfolding low_of
low-above sides zero i l n = absurd (omega (arith, l))
low-above sides (suc d) i l n = by_order i d
    (λ b. omega (arith, low-above sides d i b n, above-least (kept_of sides d).status (low_of sides d)))
    (λ b.
    let e : low_of sides i ≡ low_of sides d = ap (low_of sides) b in
    let m : (kept_of sides d).status ≡ Running → ⊥ = λ x. n (ap (λ m. (kept_of sides m).status) b ∙ x) in
    omega (arith, e, above-ended (kept_of sides d).status (low_of sides d) m))
    (λ b. absurd (omega (arith, b, l)))
