-- One slot's tests by what the code knows of it: its task record, the grade of its registers, and the reach of its stack.
use Prim.Native.Nat.{ℕ, ◌+◌, ◌^◌, ◌<◌}
use mathlib.Core.Path.{◌≡◌, sym, ap, ◌∙◌}
use mathlib.Core.Bool.{Bool, true, false, ◌&&◌}
use mathlib.Core.List.{List}
use native.Mathlib.Omega.{arith}
use lib.Dec.{eqb, ltb, leb}
use lib.ListN.{length, get_or, set}
use lib.Seq.{get_or-set_same, get_or-set_other}
use borrow.Author.Tests.{eq-eqb, lt-ltb, le-ltb}
use Rattle.facts.proofs.Tests.{by_order, never}
use Rattle.image.specs.Program.{Program}
use Rattle.task.specs.declared.Register.{Register}
use Rattle.task.specs.declared.Task.{Task}
use Rattle.task.specs.declared.Frame.{Frame}
use Rattle.task.specs.Frames.{zero_fork, vacant}
use Rattle.task.specs.Formed.{every, is_zero_fork, fork_fits, at_rest, is_vacant_status, status_fits, formed, is_vacant}
use Rattle.task.proofs.Formation.{Formed, forks_fit, formed_is}
use Rattle.task.proofs.Vacancy.{vacant_is}
use Rattle.shape.specs.Codes.{Graded, Reached, framed}
use Rattle.task.proofs.EveryLaws.{every-alike}
use Rattle.shape.proofs.ReachLaws.{reach-fits}

-- what holds of each element before k, and of the one stored at k, holds before k + 1
pub below_set : (P : ℕ → ℕ → Type 0) (l : List ℕ) (k v : ℕ) → k < length l → ((j : ℕ) → j < k → P j (get_or l j 0)) → P k v
    → (j : ℕ) → j < k + 1 → P j (get_or (set l k v) j 0)
below_set P l k v inside before here j h =
    by_order j k
    (λ (b : j < k). rw (get_or-set_other l k j v 0 (λ e. omega arith)) (before j b))
    (λ (e : j ≡ k). rw (e, get_or-set_same l k v 0 inside) here)
    (λ (a : k < j). absurd (omega arith))

-- at depth 0 no entry is in use
closed : (program : Program) (t : Task) → t.depth ≡ 0 → forks_fit program t ≡ every (λ i. is_zero_fork (get_or t.forks i zero_fork)) 6 0
closed program t e =
    every-alike (λ i. fork_fits program (ltb i t.depth) (get_or t.forks i zero_fork)) (λ i. is_zero_fork (get_or t.forks i zero_fork)) 6 0
    (λ k p q. rw (le-ltb k t.depth (omega arith)))

module _ (program : Program) (t : Task) (registers stack : List Register) (n m : ℕ) (g : Graded program registers n) (r : Reached program stack m)
    (full : length t.forks ≡ 6) where
  -- the test of a live task once all before its forks has passed
  pub formed-by-forks : (D h : ℕ) → t.places ≡ 2 ^ h → t.depth + h ≡ D → t.pc < program.instructions
      → status_fits program.version (framed t registers stack) t.status ≡ true
      → (b : Bool) → forks_fit program t ≡ b → formed program D h (framed t registers stack) ≡ b && (leb n 1 && (leb t.height 32 && leb m t.height))
  unfolding formed
  formed-by-forks D h p d c s b e =
      rw (
        eq-eqb (length registers) 16 g.sixteen,
        eq-eqb (length t.forks) 6 full,
        eq-eqb (length stack) 32 r.thirty_two,
        eq-eqb t.places (2 ^ h) p,
        eq-eqb (t.depth + h) D d,
        lt-ltb t.pc program.instructions c,
        s,
        e,
        g.all_fit,
        reach-fits program t registers stack m r,
      )

  -- and of a vacant slot's
  pub vacant-by-forks : is_vacant_status t.status ≡ true → t.places ≡ 0 → t.span ≡ 0 → t.depth ≡ 0 → at_rest t ≡ true
      → (b : Bool) → forks_fit program t ≡ b → is_vacant (framed t registers stack) ≡ b && (eqb n 0 && (eqb t.height 0 && eqb m 0))
  unfolding is_vacant
  vacant-by-forks v p s d rest b e =
      rw (
        eq-eqb (length registers) 16 g.sixteen,
        eq-eqb (length t.forks) 6 full,
        eq-eqb (length stack) 32 r.thirty_two,
        v,
        eq-eqb t.places 0 p,
        eq-eqb t.span 0 s,
        eq-eqb t.depth 0 d,
        rest,
        ← (closed program t d),
        e,
        g.all_zero,
        r.all_zero,
      )

-- the code's test of a status, by a version that is the program's
pub status_told : (program : Program) (version : ℕ) (f : Frame) (r b : Bool) → version ≡ program.version
    → r ≡ status_fits version f f.task.status → r ≡ b → status_fits program.version f f.task.status ≡ b
status_told program version f r b v e k = ap (λ x. status_fits x f f.task.status) (sym v) ∙ sym e ∙ k

-- a frame that lacks something of a live one
pub unformed : (program : Program) (D h : ℕ) (f : Frame) → (Formed program D h f → ⊥) → formed program D h f ≡ false
unformed program D h f n = never (formed program D h f) (λ t. n (formed_is program D h f t))

-- a frame that differs from the vacant one in something
pub not-vacant : {A : Type 0} (of : Frame → A) (f : Frame) → (of f ≡ of vacant → ⊥) → is_vacant f ≡ false
not-vacant of f n = never (is_vacant f) (λ v. n (ap of (vacant_is f v)))
