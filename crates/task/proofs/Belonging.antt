-- Which records fit, by the code's list of open forks; and what fork and join do of a value that is none.
use mathlib.Core.Path.{◌≡◌, refl, sym, ap}
use mathlib.Core.Bool.{Bool, true, false, cond, ◌&&◌}
use mathlib.Core.List.{List}
use Prim.Native.Nat.{ℕ, zero, suc, ◌+◌, ◌-◌, ◌<◌, ◌≤◌}
use native.Mathlib.Omega.{arith}
use lib.IntN.{ℤ}
use lib.Dec.{eqb, leb}
use lib.ListN.{get_or, length, take, drop}
use lib.Seq.{drop-cons}
use native.Mathlib.Numerals.{add-one}
use Rattle.std.specs.List.{list_all}
use borrow.Author.Tests.{eq-eqb, ne_eqb, le-leb, lt-leb}
use Rattle.image.specs.Layout.{block_of, program_of}
use Rattle.task.specs.declared.Value.{Value}
use Rattle.task.specs.declared.Value.TheVariants.{Label, Record}
use Rattle.task.specs.declared.Kind.TheVariants.{Waits, Faults}
use Rattle.task.specs.declared.Fork.{Fork}
use Rattle.task.specs.declared.Active.{Active}
use Rattle.task.specs.Frames.{zero_fork}
use Rattle.task.specs.Choices.{Choices, chosen}
use Rattle.task.specs.Effect.{Effect, same_fork, enters, forks, waits, faults, label, asked, join_record, belong, fits, fork, meet}
use Rattle.task.specs.Execute.{ending, forking, entering, handed, answered}

-- ---- the open forks that belong to a record

pub belong_all : (l : List Fork) (k : Fork) (n i : ℕ) → i + n ≤ length l → list_all (same_fork k) (take n (drop i l)) ≡ belong l k n i
unfolding belong
belong_all l k zero i h = refl
belong_all l k (suc n) i h =
    rw (drop-cons l i zero_fork (omega arith), belong)
    (go (same_fork k (get_or l i zero_fork)) (rw (add-one i) (belong_all l k n (suc i) (omega arith))))
  where
    go : (z : Bool) → list_all (same_fork k) (take n (drop (suc i) l)) ≡ belong l k n (i + 1)
        → (z && list_all (same_fork k) (take n (drop (suc i) l))) ≡ elim z [ true ↦ belong l k n (i + 1) | false ↦ false ]
    go true e = e
    go false e = refl

pub does_fit : (k : Fork) (depth : ℕ) (l : List Fork) → length l ≡ 6 → depth ≤ 6 → k.depth ≤ depth
    → list_all (same_fork k) (take (depth - k.depth) (drop k.depth l)) ≡ fits k depth l
unfolding fits
does_fit k depth l full h b = rw (le-leb k.depth depth b) (belong_all l k (depth - k.depth) k.depth (omega arith))

-- no record, or one that does not fit
abbrev Unfit : Value → ℕ → List Fork → Type 0
Unfit v depth l = (after : Fork → Effect) → join_record v 36 (λ k. asked (fits k depth l) 36 (after k)) ≡ faults 36

pub no_fork : (words : List ℤ) (choices : Choices) (cells : List ℕ) (s v : Value) (t : Active) (l : List Fork) → Unfit s t.depth l
    → ending Faults 36 ≡ answered (program_of cells) words choices s v t l fork
no_fork words choices cells s v t l h =
    ap (handed (program_of cells) choices t) (sym (h (λ k. label v 34 λ b. asked (leb 2 t.places) 37 (forks k b))))

pub no_meet : (words : List ℤ) (s : Value) (cells : List ℕ) (interval : ℕ) (v : Value) (t : Active) (l : List Fork) → Unfit v t.depth l
    → ending Faults 36 ≡ answered (program_of cells) words (chosen interval) s v t l meet
no_meet words s cells interval v t l h =
    ap (handed (program_of cells) (chosen interval) t) (sym (h (λ k. cond (eqb k.depth t.depth) (enters k.continuation) waits)))

-- ---- fork and join under a record, as `evaluator` carries them out

module _ (words : List ℤ) (choices : Choices) (cells : List ℕ) (s v : Value) (t : Active) (l : List Fork) {c d : ℕ} {z : Bool}
    (p : s ≡ Record c d) (e : z ≡ fits (record { continuation = c; depth = d }) t.depth l) where
  pub fork_unfit : z ≡ false → ending Faults 36 ≡ answered (program_of cells) words choices s v t l fork
  unfolding asked
  fork_unfit k = rw (p, ← e, k)

  module _ (k : z ≡ true) {b : ℕ} (q : v ≡ Label b) where
    pub fork-no_places : t.places < 2 → ending Faults 37 ≡ answered (program_of cells) words choices s v t l fork
    unfolding asked
    fork-no_places h = rw (p, ← e, k, q, lt-leb 2 t.places h)

    pub opens : {pc : ℕ} → 2 ≤ t.places → pc ≡ (block_of cells b).first
        → forking (Record c d) pc t ≡ answered (program_of cells) words choices s v t l fork
    unfolding asked
    opens h f = rw (f, p, ← e, k, q, le-leb 2 t.places h)

module _ (words : List ℤ) (s : Value) (cells : List ℕ) (interval : ℕ) (v : Value) (t : Active) (l : List Fork) {c d : ℕ} {z : Bool}
    (p : v ≡ Record c d) (e : z ≡ fits (record { continuation = c; depth = d }) t.depth l) where
  pub meet_unfit : z ≡ false → ending Faults 36 ≡ answered (program_of cells) words (chosen interval) s v t l meet
  unfolding asked
  meet_unfit k = rw (p, ← e, k)

  pub meets-there : z ≡ true → d ≡ t.depth
      → entering (program_of cells) (chosen interval) c t ≡ answered (program_of cells) words (chosen interval) s v t l meet
  unfolding asked
  meets-there k h = rw (p, ← e, k, eq-eqb d t.depth h)

  pub waits_on : z ≡ true → (d ≡ t.depth → ⊥) → ending Waits 0 ≡ answered (program_of cells) words (chosen interval) s v t l meet
  unfolding asked
  waits_on k h = rw (p, ← e, k, ne_eqb d t.depth h)
