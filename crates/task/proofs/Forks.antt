-- A task's list of forks after one of them is opened, or closed.
use mathlib.Core.Path.{◌≡◌, refl, sym, ◌∙◌}
use mathlib.Core.Logic.{◌⊎◌, inl, inr}
use mathlib.Core.Bool.{Bool, true, false}
use mathlib.Core.List.{List}
use Prim.Native.Nat.{ℕ, ◌+◌, ◌<◌, ◌≤◌}
use native.Mathlib.Omega.{arith}
use lib.Dec.{eqb, ltb}
use lib.ListN.{length, get_or, set}
use lib.Seq.{get_or-set_same, get_or-set_other}
use borrow.Author.Tests.{eqb-true, eqb-false, lt-ltb, le-ltb}
use Rattle.facts.proofs.Tests.{below_or_not}
use Rattle.image.specs.Program.{Program}
use Rattle.task.specs.declared.Fork.{Fork}
use Rattle.task.specs.Frames.{zero_fork}
use Rattle.task.specs.Formed.{is_target, fork_fits}

-- the six entries fit a task of depth d
abbrev pub ForksFit : Program → ℕ → List Fork → Type 0
ForksFit program d forks = (i : ℕ) → i < 6 → fork_fits program (ltb i d) (get_or forks i zero_fork) ≡ true

-- only the entry d tells depth d from depth d + 1
pub ltb_skip : (i d : ℕ) → (i ≡ d → ⊥) → ltb i d ≡ ltb i (d + 1)
ltb_skip i d apart = go (below_or_not i d)
  where
    go : (i < d) ⊎ (d ≤ i) → ltb i d ≡ ltb i (d + 1)
    go (inl p) = lt-ltb i d p ∙ sym (lt-ltb i (d + 1) (omega arith))
    go (inr p) = le-ltb i d p ∙ sym (le-ltb i (d + 1) (omega arith))

module _ (program : Program) (forks : List Fork) (d : ℕ) (inside : d < 6) (full : length forks ≡ 6) where
  set_fits : (k : Fork) (was is : ℕ) → fork_fits program (ltb d is) k ≡ true → ((i : ℕ) → (i ≡ d → ⊥) → ltb i is ≡ ltb i was)
      → ForksFit program was forks → ForksFit program is (set forks d k)
  set_fits k was is fit skip before i p = go (eqb i d) refl
    where
      go : (t : Bool) → eqb i d ≡ t → fork_fits program (ltb i is) (get_or (set forks d k) i zero_fork) ≡ true
      go true t = rw (eqb-true i d t, get_or-set_same forks d k zero_fork (omega arith)) fit
      go false t =
          let apart : i ≡ d → ⊥ = eqb-false i d t in
          rw (get_or-set_other forks d i k zero_fork apart, skip i apart) (before i p)

  -- one more is open, under k
  pub opened_fits : (k : Fork) → is_target program k.continuation ≡ true → ForksFit program d forks → ForksFit program (d + 1) (set forks d k)
  opened_fits k target = set_fits k d (d + 1) (rw (lt-ltb d (d + 1) (omega arith)) target) (λ i apart. sym (ltb_skip i d apart))

  -- the innermost is closed
  pub closed-fits : ForksFit program (d + 1) forks → ForksFit program d (set forks d zero_fork)
  closed-fits = set_fits zero_fork (d + 1) d (rw (le-ltb d d (omega arith))) (λ i apart. ltb_skip i d apart)
