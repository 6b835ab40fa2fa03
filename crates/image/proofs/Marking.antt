-- The marks of the instructions that start a block.
use mathlib.Core.Path.{◌≡◌, refl, sym, ap, ◌∙◌}
use mathlib.Core.Bool.{Bool, true, false, ◌||◌}
use mathlib.Core.List.{List}
use Prim.Native.Nat.{ℕ, suc, ◌+◌, ◌<◌, ◌≤◌}
use native.Mathlib.Omega.{arith}
use native.Mathlib.Numerals.{add-one}
use lib.ListN.{get_or, set, length-set, replicate, length-replicate, get_or-replicate}
use lib.Seq.{get_or-set_same, get_or-set_other}
use lib.Dec.{eqb}
use borrow.Author.Tests.{eq-eqb, ne_eqb, eqb-true, eqb-false}
use Rattle.image.specs.Layout.{block_count, instruction_count, block_of, program_of}
use Rattle.image.specs.Questions.{starts_at, last_in_block}
use Rattle.image.specs.Marks.{Marked, Ended}

-- ---- the marks

pub marked_none : (cells : List ℕ) → Marked cells 0 (replicate 1025 false)
unfolding starts_at
marked_none cells = record { sized = length-replicate {A = Bool} 1025 false; marked = λ i h. get_or-replicate {A = Bool} 1025 i false false h }

starts-here : (cells : List ℕ) (n i : ℕ) → (block_of cells n).first ≡ i → starts_at (program_of cells) (suc n) i ≡ true
unfolding starts_at
starts-here cells n i e = rw (eq-eqb (block_of cells n).first i e)

starts_elsewhere : (cells : List ℕ) (n i : ℕ) → ((block_of cells n).first ≡ i → ⊥) → starts_at (program_of cells) (suc n) i ≡ starts_at (program_of cells) n i
unfolding starts_at
starts_elsewhere cells n i e = rw (ne_eqb (block_of cells n).first i e)

module _ (cells : List ℕ) (n : ℕ) (marks : List Bool) (m : Marked cells n marks) (below : (block_of cells n).first < 1025) where
  mark-at : (i : ℕ) → i < 1025 → (t : Bool) → eqb (block_of cells n).first i ≡ t
      → get_or (set marks (block_of cells n).first true) i false ≡ starts_at (program_of cells) (suc n) i
  mark-at i h true e =
      let k : (block_of cells n).first ≡ i = eqb-true _ i e in
      ap (λ (j : ℕ). get_or (set marks (block_of cells n).first true) j false) (sym k)
      ∙ get_or-set_same marks (block_of cells n).first true false (omega (arith, m.sized)) ∙ sym (starts-here cells n i k)
  mark-at i h false e =
      let k : (block_of cells n).first ≡ i → ⊥ = eqb-false _ i e in
      get_or-set_other marks (block_of cells n).first i true false (λ z. k (sym z)) ∙ m.marked i h ∙ sym (starts_elsewhere cells n i k)

  pub marked_more : Marked cells (n + 1) (set marks (block_of cells n).first true)
  marked_more = rw (add-one n) (record { sized = length-set marks (block_of cells n).first true ∙ m.sized; marked = λ i h. mark-at i h (eqb (block_of cells n).first i) refl })

-- ---- the last instruction of a block

module _ (cells : List ℕ) (marks : List Bool) (m : Marked cells (block_count cells) marks) (few : instruction_count cells ≤ 1024) where
  abbrev I : ℕ
  I = instruction_count cells

  -- the program's end, marked behind the starts of its blocks
  mark_of : (i : ℕ) → i < I → (t : Bool) → eqb (i + 1) I ≡ t → get_or (set marks I true) (i + 1) false ≡ last_in_block (program_of cells) i
  unfolding last_in_block
  mark_of i h true e =
      let k : i + 1 ≡ I = eqb-true (i + 1) I e in
      ap (λ (j : ℕ). get_or (set marks I true) j false) k ∙ get_or-set_same marks I true false (omega (arith, m.sized))
      ∙ ap (λ (t : Bool). t || starts_at (program_of cells) (block_count cells) (i + 1)) (sym e)
  mark_of i h false e =
      let k : i + 1 ≡ I → ⊥ = eqb-false (i + 1) I e in
      get_or-set_other marks I (i + 1) true false k ∙ m.marked (i + 1) (omega arith)
      ∙ ap (λ (t : Bool). t || starts_at (program_of cells) (block_count cells) (i + 1)) (sym e)

  pub ended : Ended cells (set marks I true)
  ended = record { sized = length-set marks I true ∙ m.sized; ended = λ i h. mark_of i h (eqb (i + 1) I) refl }
