-- Question 8 by limits: a field is as laid out when it does not pass its limit.
use mathlib.Core.Path.{◌≡◌, refl, sym, ap, ap₂, ◌∙◌}
use mathlib.Core.Bool.{Bool, true, false}
use mathlib.Core.List.{List}
use Prim.Native.Nat.{ℕ, zero, suc, ◌+◌, ◌-◌, ◌*◌, ◌<◌, ◌≤◌}
use native.Mathlib.Omega.{arith}
use lib.ListN.{length, get_or}
use lib.Dec.{eqb, ltb, leb}
use borrow.Author.Tests.{le-leb, lt-leb, eq-eqb, ne_eqb, ltb-true, ltb-false}
use Rattle.facts.proofs.Tests.{by-below}
use Rattle.image.specs.declared.Instruction.{Instruction}
use Rattle.image.specs.Layout.{instruction_cell, version_of, block_count, instruction_count, instruction_of, program_of}
use Rattle.image.specs.Questions.{last_opcode, fields, has_r, has_s, has_v, has, register, operand_fits, laid_out, last_in_block, instruction_no}
use Rattle.image.specs.Records.{instruction_record_no}
use Rattle.image.specs.Marks.{Ended}
use Rattle.image.specs.declared.questions.Fields.{Fields}
use Rattle.image.specs.declared.questions.Limits.{Limits}
use Rattle.image.specs.Limits.{flags_of, limit_row, no_opcode, limits_of, largest_of, Limited, blocks_by}
use Rattle.std.specs.Prelude.{map}
use Rattle.std.proofs.lemmas.List.{get_or-map}

-- ---- one field

zero_test : (x : ℕ) → eqb x 0 ≡ leb x 0
zero_test zero = refl
zero_test (suc x) = ne_eqb (suc x) 0 (λ e. (omega arith)) ∙ sym (lt-leb (suc x) 0 (omega arith))

below-test : (x n : ℕ) → 1 ≤ n → ltb x n ≡ leb x (n - 1)
below-test x n h = go (ltb x n) refl
  where
    go : (t : Bool) → ltb x n ≡ t → ltb x n ≡ leb x (n - 1)
    go true e =
        let q : x < n = ltb-true x n e in
        e ∙ sym (le-leb x (n - 1) (omega arith))
    go false e =
        let q : n ≤ x = ltb-false x n e in
        e ∙ sym (lt-leb x (n - 1) (omega arith))

register_limit : (h x : ℕ) → h < 2 → register h x ≡ leb x (15 * h)
unfolding register
register_limit zero x q = zero_test x
register_limit (suc zero) x q = refl
register_limit (suc (suc h)) x q = absurd (omega arith)

kind-below : (blocks h k o : ℕ) → h < 2 → k < h → operand_fits blocks h k o ≡ false
unfolding operand_fits
kind-below blocks zero k o q e = absurd (omega arith)
kind-below blocks (suc zero) zero o q e = refl
kind-below blocks (suc zero) (suc k) o q e = absurd (omega arith)
kind-below blocks (suc (suc h)) k o q e = absurd (omega arith)

kind-beyond : (blocks h k o : ℕ) → h < 2 → 3 * h < k → operand_fits blocks h k o ≡ false
unfolding operand_fits
kind-beyond blocks zero k o q e = rw (ne_eqb k 0 (λ z. (omega arith)))
kind-beyond blocks (suc zero) k o q e = rw (ne_eqb k 1 (λ z. (omega arith)), ne_eqb k 2 (λ z. (omega arith)), ne_eqb k 3 (λ z. (omega arith)))
kind-beyond blocks (suc (suc h)) k o q e = absurd (omega arith)

operand_limit : (blocks h k o : ℕ) → 1 ≤ blocks → o ≤ 18446744073709551615 → h < 2 → h ≤ k → k ≤ 3 * h
    → operand_fits blocks h k o ≡ leb o (get_or (largest_of blocks) k 0)
unfolding operand_fits
operand_limit blocks zero zero o b w q e f = zero_test o
operand_limit blocks zero (suc k) o b w q e f = absurd (omega arith)
operand_limit blocks (suc zero) zero o b w q e f = absurd (omega arith)
operand_limit blocks (suc zero) (suc zero) o b w q e f = refl
operand_limit blocks (suc zero) (suc (suc zero)) o b w q e f = below-test o blocks b
operand_limit blocks (suc zero) (suc (suc (suc zero))) o b w q e f = sym (le-leb o 18446744073709551615 w)
operand_limit blocks (suc zero) (suc (suc (suc (suc k)))) o b w q e f = absurd (omega arith)
operand_limit blocks (suc (suc h)) k o b w q e f = absurd (omega arith)

-- ---- the rows

-- the code's table
pub row_of : (table : List Fields) (i : ℕ) (d : Fields) → map flags_of table ≡ fields → length table ≡ 17 → i < 17
    → limit_row (flags_of (get_or table i d)) ≡ limit_row (get_or fields i 0)
row_of table i d e l h = ap limit_row (sym (get_or-map flags_of table i d 0 (omega (arith, l))) ∙ ap (λ (r : List ℕ). get_or r i 0) e)

-- the largest label tells the number of blocks
pub blocks_told : (opcodes blocks : ℕ) (largest : List ℕ) → Limited opcodes blocks largest → blocks_by largest ≡ blocks
blocks_told opcodes blocks largest L = ap (λ (l : List ℕ). blocks_by l) L.largest_are ∙ omega (arith, L.some_block)

-- ---- an instruction

-- one that a short buffer lacks
pub not-held : (cells : List ℕ) (i : ℕ) → length cells < instruction_cell i + 5 → instruction_no cells i ≡ 8
unfolding instruction_no
not-held cells i h = rw (lt-leb (instruction_cell i + 5) (length cells) h)

pub no-opcode : (opcodes blocks : ℕ) (x : Instruction) → x.opcode < 1 → laid_out opcodes blocks x ≡ false
unfolding laid_out
no-opcode opcodes blocks x h = rw (lt-leb 1 x.opcode h)

pub past-opcodes : (opcodes blocks : ℕ) (x : Instruction) → opcodes < x.opcode → laid_out opcodes blocks x ≡ false
unfolding laid_out
past-opcodes opcodes blocks x h = rw (le-leb 1 x.opcode (omega arith), lt-leb x.opcode opcodes h)

module _ (N B : ℕ) (largest : List ℕ) (L : Limited N B largest) (x : Instruction) (most : x.opcode ≤ N) (row : Limits) (its : row ≡ limits_of x.opcode) where
  no_kind : x.opcode < 1 → (row.least ≡ 1) × (row.most ≡ 0)
  unfolding limits_of
  no_kind none =
      let e : row ≡ no_opcode = its ∙ rw (eq-eqb x.opcode 0 (omega arith)) in
      (ap (λ (l : Limits). l.least) e, ap (λ (l : Limits). l.most) e)

  -- 1 to 17 have the table's
  module _ (least : 1 ≤ x.opcode) where
    some_row : row ≡ limit_row (get_or fields (x.opcode - 1) 0)
    unfolding limits_of
    some_row = its ∙ rw (ne_eqb x.opcode 0 (λ z. omega arith))

    most_r : row.r ≡ 15 * has x.opcode has_r
    most_r = ap (λ (l : Limits). l.r) some_row

    most_s : row.s ≡ 15 * has x.opcode has_s
    most_s = ap (λ (l : Limits). l.s) some_row

    least-kind : row.least ≡ has x.opcode has_v
    least-kind = ap (λ (l : Limits). l.least) some_row

    most_kind : row.most ≡ 3 * has x.opcode has_v
    most_kind = ap (λ (l : Limits). l.most) some_row

    some_beyond-r : row.r < x.r → laid_out N B x ≡ false
    unfolding laid_out
    some_beyond-r h = rw (
      le-leb 1 x.opcode least,
      le-leb x.opcode N most,
      register_limit (has x.opcode has_r) x.r (omega arith),
      lt-leb x.r (15 * has x.opcode has_r) (omega (arith, most_r)),
    )

    r_tested : x.r ≤ row.r → register (has x.opcode has_r) x.r ≡ true
    r_tested fits = register_limit (has x.opcode has_r) x.r (omega arith) ∙ le-leb x.r (15 * has x.opcode has_r) (omega (arith, most_r))

    some_beyond-s : x.r ≤ row.r → row.s < x.s → laid_out N B x ≡ false
    unfolding laid_out
    some_beyond-s fits h = rw (
      le-leb 1 x.opcode least,
      le-leb x.opcode N most,
      r_tested fits,
      register_limit (has x.opcode has_s) x.s (omega arith),
      lt-leb x.s (15 * has x.opcode has_s) (omega (arith, most_s)),
    )

    s_tested : x.s ≤ row.s → register (has x.opcode has_s) x.s ≡ true
    s_tested fits = register_limit (has x.opcode has_s) x.s (omega arith) ∙ le-leb x.s (15 * has x.opcode has_s) (omega (arith, most_s))

    operand-left : x.r ≤ row.r → x.s ≤ row.s → laid_out N B x ≡ operand_fits B (has x.opcode has_v) x.kind x.operand
    unfolding laid_out
    operand-left r s = rw (le-leb 1 x.opcode least, le-leb x.opcode N most, r_tested r, s_tested s)

  -- ---- either way

  by-opcode : {A : Type 0} → (x.opcode < 1 → A) → (1 ≤ x.opcode → A) → A
  by-opcode none some = by-below x.opcode 1 none some

  pub beyond-r : row.r < x.r → laid_out N B x ≡ false
  beyond-r h = by-opcode (no-opcode N B x) (λ least. some_beyond-r least h)

  module _ (r-fits : x.r ≤ row.r) where
    pub beyond-s : row.s < x.s → laid_out N B x ≡ false
    beyond-s h = by-opcode (no-opcode N B x) (λ least. some_beyond-s least r-fits h)

    module _ (s_fits : x.s ≤ row.s) where
      pub below-kind : x.kind < row.least → laid_out N B x ≡ false
      below-kind h = by-opcode (no-opcode N B x) (λ least. operand-left least r-fits s_fits
          ∙ kind-below B (has x.opcode has_v) x.kind x.operand (omega arith) (omega (arith, least-kind least)))

      pub beyond-kind : row.most < x.kind → laid_out N B x ≡ false
      beyond-kind h = by-opcode (no-opcode N B x) (λ least. operand-left least r-fits s_fits
          ∙ kind-beyond B (has x.opcode has_v) x.kind x.operand (omega arith) (omega (arith, most_kind least)))

      pub operand-decides : row.least ≤ x.kind → x.kind ≤ row.most → x.operand ≤ 18446744073709551615
          → laid_out N B x ≡ leb x.operand (get_or largest x.kind 0)
      operand-decides h k w = by-opcode (λ none. absurd (omega (arith, no_kind none))) (λ least. operand-left least r-fits s_fits
          ∙ operand_limit B (has x.opcode has_v) x.kind x.operand L.some_block w (omega arith) (omega (arith, least-kind least)) (omega (arith, most_kind least))
          ∙ ap (λ (l : List ℕ). leb x.operand (get_or l x.kind 0)) (sym L.largest_are))

  pub kind_known : x.kind ≤ row.most → x.kind < 4
  kind_known h = by-opcode (λ none. omega (arith, no_kind none)) (λ least. omega (arith, most_kind least))

-- ---- an instruction asked with lent limits and marks

pub asked_by : (cells : List ℕ) (marks : List Bool) (opcodes blocks : ℕ) (largest : List ℕ) → Limited opcodes blocks largest → Ended cells marks
    → (i : ℕ) → i < instruction_count cells → (x : Instruction)
    → instruction_record_no opcodes (blocks_by largest) (get_or marks (i + 1) false) x ≡ instruction_record_no opcodes blocks (last_in_block (program_of cells) i) x
asked_by cells marks opcodes blocks largest L E i h x =
    ap₂ (λ (n : ℕ) (t : Bool). instruction_record_no opcodes n t x) (blocks_told opcodes blocks largest L) (E.ended i h)

-- one that the buffer has
pub asked-held : (cells : List ℕ) (opcodes i : ℕ) → opcodes ≡ last_opcode (version_of cells) → instruction_cell i + 5 ≤ length cells
    → instruction_record_no opcodes (block_count cells) (last_in_block (program_of cells) i) (instruction_of cells i) ≡ instruction_no cells i
unfolding instruction_no
asked-held cells opcodes i e h = rw (e, le-leb (instruction_cell i + 5) (length cells) h)
