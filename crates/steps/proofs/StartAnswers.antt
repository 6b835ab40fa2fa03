-- Start's answers, as the code comes by them.
use mathlib.Core.Path.{◌≡◌, refl, sym, ap, ap₂, ◌∙◌}
use mathlib.Core.Bool.{Bool, true, false, ◌&&◌}
use mathlib.Core.List.{List}
use Prim.Native.Nat.{ℕ, ◌*◌, ◌%◌, ◌≤◌}
use native.Mathlib.Omega.{arith}
use lib.Dec.{eqb, leb}
use lib.IntN.{ℤ}
use lib.ListN.{length}
use borrow.Author.Tests.{eq-eqb, le-leb, leb-true, eqb-true}
use Rattle.facts.proofs.Tests.{both_true, true_both, clash}
use Rattle.image.specs.Layout.{program_cells}
use Rattle.image.specs.Questions.{ask, or_else, program_no}
use Rattle.image.specs.declared.refusal.Refusal.{Refusal}
use Rattle.image.specs.Refusals.{number}
use Rattle.image.proofs.Refusals.{no_decides}
use Rattle.image.proofs.Asked.{ask_yes, or_else_yes, or_else_both, or_else_none}
use Rattle.drive.specs.declared.State.{State}
use Rattle.drive.specs.Settings.{places_allowed, interval_allowed}
use Rattle.machine.specs.Starting.{start_no_by, start_no, started, empty}
use Rattle.state.specs.State.{state_length}
use Rattle.state.proofs.Integers.{length-integers}
use Rattle.steps.specs.Buffers.{wholes, is_whole, cells_of, integers_of, program_bytes}
use Rattle.steps.specs.Calls.{started_no, start_state}
use Rattle.steps.proofs.Answers.{count-cells}

-- the lengths that the code asks for at once
abbrev pub fits : ℕ → ℕ → ℕ → ℕ → Bool
fits program registers words lent =
    eqb program program_bytes && (eqb (words % 8) 0 && (eqb registers 128 && (leb words 32768 && eqb lent state_length)))

-- what they say of buffers
pub record Fit (program registers words : List ℕ) (lent : ℕ) : Type 0 where
  pub program_length : length program ≡ program_bytes
  pub registers_length : length registers ≡ 128
  pub words_whole : length words ≡ 8 * wholes words
  pub words_few : wholes words ≤ 4096
  pub lent_length : lent ≡ state_length

pub fit : (program registers words : List ℕ) (lent : ℕ) → fits (length program) (length registers) (length words) lent ≡ true → Fit program registers words lent
fit program registers words lent h =
    let a = both_true (eqb (length program) program_bytes) _ h in
    let b = both_true (eqb (length words % 8) 0) _ a.1 in
    let c = both_true (eqb (length registers) 128) _ b.1 in
    let d = both_true (leb (length words) 32768) _ c.1 in
    record {
      program_length = eqb-true _ program_bytes a.0;
      registers_length = eqb-true _ 128 c.0;
      words_whole = omega (arith, eqb-true (length words % 8) 0 b.0);
      words_few = omega (arith, leb-true (length words) 32768 d.0);
      lent_length = eqb-true lent state_length d.1;
    }

module _ (program : List ℕ) (places interval : ℕ) (registers words : List ℕ) (lent : ℕ) where
  abbrev first : ℕ
  first = start_no (cells_of program) places interval (integers_of registers) (integers_of words)

  abbrev rest : Bool
  rest = is_whole program && (is_whole registers && (is_whole words && eqb lent state_length))

  -- of registers and words only their number counts
  pub counts-asked : start_no_by (cells_of program) places interval (wholes registers) (wholes words) ≡ start_no (cells_of program) places interval (integers_of registers) (integers_of words)
  counts-asked =
      ap₂ (start_no_by (cells_of program) places interval) (sym (length-integers registers 0 (wholes registers))) (sym (length-integers words 0 (wholes words)))

  pub start-refused : (r : Refusal) → number r ≡ start_no (cells_of program) places interval (integers_of registers) (integers_of words)
      → number r ≡ started_no program places interval registers words lent
  unfolding started_no
  start-refused r e = sym (no_decides r first _ e)

  module _ (e : start_no (cells_of program) places interval (integers_of registers) (integers_of words) ≡ 0) where
    -- the counts that an accepted start has found right
    pub record Counts : Type 0 where
      pub program_accepted : program_no (cells_of program) ≡ 0
      pub all_cells : wholes program ≡ program_cells
      pub sixteen : wholes registers ≡ 16
      pub few : wholes words ≤ 4096

    pub counts : Counts
    unfolding start_no_by
    counts =
        let parts = or_else_both (program_no (cells_of program)) _ e in
        let a = ask_yes (places_allowed places) 11 _ tt parts.1 in
        let b = ask_yes (interval_allowed interval) 12 _ tt a.1 in
        let c = ask_yes (eqb (length (integers_of registers)) 16) 13 _ tt b.1 in
        let d = ask_yes (leb (length (integers_of words)) 4096) 14 _ tt c.1 in
        let f = ask_yes (eqb (length (cells_of program)) program_cells) 15 0 tt d.1 in
        record {
          program_accepted = parts.0;
          all_cells = sym (count-cells program) ∙ eqb-true _ program_cells f.0;
          sixteen = sym (length-integers registers 0 (wholes registers)) ∙ eqb-true _ 16 c.0;
          few = omega (arith, leb-true (length (integers_of words)) 4096 d.0, length-integers words 0 (wholes words));
        }

    fits_then : rest ≡ true → fits (length program) (length registers) (length words) lent ≡ true
    fits_then h =
        let a = both_true (is_whole program) _ h in
        let b = both_true (is_whole registers) _ a.1 in
        let c = both_true (is_whole words) (eqb lent state_length) b.1 in
        true_both (eq-eqb (length program) program_bytes (omega (arith, counts.all_cells, eqb-true (length program % 8) 0 a.0)))
        (true_both c.0
        (true_both (eq-eqb (length registers) 128 (omega (arith, counts.sixteen, eqb-true (length registers % 8) 0 b.0)))
        (true_both (le-leb (length words) 32768 (omega (arith, counts.few, eqb-true (length words % 8) 0 c.0))) c.1)))

    pub start_too_long : fits (length program) (length registers) (length words) lent ≡ false → 15 ≡ started_no program places interval registers words lent
    unfolding started_no
    start_too_long h = sym (or_else_yes first _ e ∙ go rest refl)
      where
        go : (t : Bool) → rest ≡ t → ask t 15 0 ≡ 15
        go true q = clash (fits_then q) h
        go false q = refl

  -- an accepted start: its own questions were answered with yes, and every length is right
  pub start_accepted : started_no program places interval registers words lent ≡ 0
      → (start_no (cells_of program) places interval (integers_of registers) (integers_of words) ≡ 0) × Fit program registers words lent
  unfolding started_no
  start_accepted h =
      let a = or_else_both first _ h in
      (a.0, fit program registers words lent (fits_then a.0 (ask_yes rest 15 0 tt a.1).0))

  -- where all lengths are right, start's own questions decide
  pub start-whole : Fit program registers words lent → started_no program places interval registers words lent ≡ start_no (cells_of program) places interval (integers_of registers) (integers_of words)
  unfolding started_no
  start-whole f =
      let a : length program % 8 ≡ 0 = omega (arith, f.program_length) in
      let b : length registers % 8 ≡ 0 = omega (arith, f.registers_length) in
      let c : length words % 8 ≡ 0 = omega (arith, f.words_whole) in
      ap (λ (t : Bool). or_else first (ask t 15 0))
      (true_both (eq-eqb _ 0 a) (true_both (eq-eqb _ 0 b) (true_both (eq-eqb _ 0 c) (eq-eqb _ state_length f.lent_length))))
      ∙ or_else_none first

-- start's answer, to what was read
pub start-answered : (program : List ℕ) (places interval : ℕ) (registers words : List ℕ) (answer : ℕ) (m blank : State) (cells : List ℕ) (given held : List ℤ)
    → blank ≡ empty 0 0 → cells ≡ cells_of program → given ≡ integers_of registers → held ≡ integers_of words
    → answer ≡ start_no cells places interval given held → m ≡ started blank cells places interval given held
    → (answer ≡ start_no (cells_of program) places interval (integers_of registers) (integers_of words)) × (m ≡ start_state program places interval registers words)
start-answered program places interval registers words answer m blank cells given held a b c d p q =
    (p ∙ (λ i. start_no (b i) places interval (c i) (d i)), q ∙ (λ i. started (a i) (b i) places interval (c i) (d i)))
