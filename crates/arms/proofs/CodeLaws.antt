-- The decoded code: one instruction written, and all of them.
use mathlib.Core.Path.{◌≡◌, refl, ap, ◌∙◌}
use mathlib.Core.Bool.{Bool, true, ◌||◌}
use mathlib.Core.List.{List}
use Prim.Native.Nat.{ℕ, zero, suc, ◌+◌, ◌*◌, ◌<◌, ◌≤◌}
use native.Mathlib.Omega.{arith}
use lib.ListN.{length, get_or, set, length-set}
use lib.Dec.{eqb, leb}
use borrow.Author.Tests.{eqb-true, ne_eqb}
use lib.Seq.{get_or-set_same, get_or-set_other}
use Rattle.image.specs.declared.Instruction.{Instruction}
use Rattle.image.specs.Layout.{instruction_cell, version_of, block_count, instruction_count, instruction_of, block_of}
use Rattle.image.specs.Questions.{first_no, block_no, last_opcode, has_r, has_s, has_v, has, register, operand_fits, laid_out, instruction_no, records_no, program_no}
use Rattle.image.proofs.Asked.{ask_yes, or_else_both, first-no_all}
use Rattle.image.proofs.Versions.{opcodes_most}
use Rattle.image.proofs.Counts.{program-parts}
use Rattle.image.proofs.Accepted.{accepted, InstructionAccepted}
use Rattle.facts.proofs.Tests.{clash, both_true, by_order}
use Rattle.task.specs.Formed.{every}
use Rattle.task.proofs.EveryLaws.{every-at}
use Rattle.arms.specs.Code.{Armed, Decoded, DecodedAt, DecodesOne}

-- ---- the arm

-- an opcode of either version
pub opcode-known : {cells : List ℕ} {i : ℕ} → InstructionAccepted cells i → (instruction_of cells i).opcode ≤ 17
opcode-known {cells} h = omega (arith, h.opcode_most, opcodes_most (version_of cells))

-- an instruction that is neither halt nor pop has an operand of one of the kinds 1 to 3
abbrev operand_or_not : ℕ → Bool
operand_or_not n = eqb n 0 || (eqb n 14 || (eqb n 17 || eqb (has n has_v) 1))

all_but-two : every operand_or_not 18 0 ≡ true
unfolding every
all_but-two = refl

pub has-operand : (cells : List ℕ) (i : ℕ) → program_no cells ≡ 0 → i < instruction_count cells → ((instruction_of cells i).opcode ≡ 14 → ⊥)
    → ((instruction_of cells i).opcode ≡ 17 → ⊥) → 1 ≤ (instruction_of cells i).kind
unfolding records_no instruction_no laid_out operand_fits
has-operand cells i e below no-halt no-pop = go x.kind refl
  where
    x : Instruction
    x = instruction_of cells i

    I : InstructionAccepted cells i
    I = (accepted cells e).instruction i below

    has_one : has x.opcode has_v ≡ 1
    has_one =
        let t = every-at operand_or_not 18 0 all_but-two x.opcode (omega arith) (omega (arith, opcode-known I)) in
        let least = ne_eqb x.opcode 0 (λ z. omega (arith, z, I.opcode_least)) in
        eqb-true (has x.opcode has_v) 1 (rw (least, ne_eqb x.opcode 14 no-halt, ne_eqb x.opcode 17 no-pop) at t)

    fits_so : operand_fits (block_count cells) (has x.opcode has_v) x.kind x.operand ≡ true
    fits_so =
        let p = program-parts cells e in
        let q = or_else_both (first_no (block_no cells) (block_count cells) 0) (first_no (instruction_no cells) (instruction_count cells) 0) p.2 in
        let a = ask_yes (leb (instruction_cell i + 5) (length cells)) 8 _ tt (first-no_all (instruction_no cells) (instruction_count cells) 0 q.1 i (omega arith) (omega arith)) in
        let l = (ask_yes (laid_out (last_opcode (version_of cells)) (block_count cells) x) 8 _ tt a.1).0 in
        let o = both_true (leb 1 x.opcode) _ l in
        let m = both_true (leb x.opcode (last_opcode (version_of cells))) _ o.1 in
        let r = both_true (register (has x.opcode has_r) x.r) _ m.1 in
        (both_true (register (has x.opcode has_s) x.s) _ r.1).1

    go : (k : ℕ) → x.kind ≡ k → 1 ≤ x.kind
    go zero z = clash (rw (has_one, z) at fits_so) refl
    go (suc k) z = omega (arith, z)

module _ (cells : List ℕ) (x : Instruction) (few : x.opcode ≤ 17) (known : x.kind ≤ 3) where
  pub armed_common : Armed cells x (x.opcode + 32 * x.kind) x.operand
  armed_common = record { common = λ l. (refl, refl); plain = λ l. absurd (omega (arith, few, known, l)) }

  pub armed_plain : x.kind ≡ 2 → ((x.opcode ≡ 10 → ⊥) → x.opcode ≡ 13) → ((block_of cells x.operand).annotation ≡ 1 → ⊥) → {first : ℕ} → first ≡ (block_of cells x.operand).first
      → Armed cells x (128 + (x.opcode + 32 * x.kind)) (4 * first)
  armed_plain k j u f = record {
    common = λ l. absurd (omega (arith, l));
    plain = λ l. record { plain_arm = refl; to_label = k; is_jump = j; unready = u; its_first = ap (λ n. 4 * n) f };
  }

-- ---- one instruction

module _ (cells code : List ℕ) (i arm v : ℕ) (x : Instruction) (e : x ≡ instruction_of cells i) (armed : Armed cells x arm v)
    (room : 4 * i + 4 ≤ length code) where
  abbrev first : List ℕ
  first = set code (4 * i) arm

  abbrev second : List ℕ
  second = set first (4 * i + 1) x.r

  abbrev third : List ℕ
  third = set second (4 * i + 2) x.s

  abbrev stored : List ℕ
  stored = set third (4 * i + 3) v

  pub long1 : length first ≡ length code
  long1 = length-set code (4 * i) arm

  pub long2 : length second ≡ length code
  long2 = length-set first (4 * i + 1) x.r ∙ long1

  pub long3 : length third ≡ length code
  long3 = length-set second (4 * i + 2) x.s ∙ long2

  at_arm : get_or stored (4 * i) 0 ≡ arm
  at_arm =
      get_or-set_other third (4 * i + 3) (4 * i) v 0 (omega arith)
      ∙ get_or-set_other second (4 * i + 2) (4 * i) x.s 0 (omega arith)
      ∙ get_or-set_other first (4 * i + 1) (4 * i) x.r 0 (omega arith)
      ∙ get_or-set_same code (4 * i) arm 0 (omega (arith, room))

  at-r : get_or stored (4 * i + 1) 0 ≡ x.r
  at-r =
      get_or-set_other third (4 * i + 3) (4 * i + 1) v 0 (omega arith)
      ∙ get_or-set_other second (4 * i + 2) (4 * i + 1) x.s 0 (omega arith)
      ∙ get_or-set_same first (4 * i + 1) x.r 0 (omega (arith, room, long1))

  at-s : get_or stored (4 * i + 2) 0 ≡ x.s
  at-s =
      get_or-set_other third (4 * i + 3) (4 * i + 2) v 0 (omega arith)
      ∙ get_or-set_same second (4 * i + 2) x.s 0 (omega (arith, room, long2))

  at_v : get_or stored (4 * i + 3) 0 ≡ v
  at_v = get_or-set_same third (4 * i + 3) v 0 (omega (arith, room, long3))

  stays : (k : ℕ) → k < 4 * i → get_or stored k 0 ≡ get_or code k 0
  stays k l =
      get_or-set_other third (4 * i + 3) k v 0 (omega (arith, l))
      ∙ get_or-set_other second (4 * i + 2) k x.s 0 (omega (arith, l))
      ∙ get_or-set_other first (4 * i + 1) k x.r 0 (omega (arith, l))
      ∙ get_or-set_other code (4 * i) k arm 0 (omega (arith, l))

  is_decoded : Decoded cells x arm x.r x.s v
  is_decoded = record { armed = armed; same_r = refl; same_s = refl }

  pub decodes_one : DecodesOne cells i code stored
  decodes_one = record {
    same_length = length-set third (4 * i + 3) v ∙ long3;
    here = rw (at_arm, at-r, at-s, at_v, ← e) is_decoded;
    below = λ j l d.
        rw (
          stays (4 * j) (omega (arith, l)),
          stays (4 * j + 1) (omega (arith, l)),
          stays (4 * j + 2) (omega (arith, l)),
          stays (4 * j + 3)
              (omega (arith, l)),
        ) d;
  }

-- ---- all

pub decodes_more : {cells code code' : List ℕ} (i : ℕ) → ((j : ℕ) → j < i → DecodedAt cells code j) → DecodesOne cells i code code'
    → (j : ℕ) → j < i + 1 → DecodedAt cells code' j
decodes_more i all h j l = by_order j i (λ b. h.below j b (all j b)) (λ b. rw b h.here) (λ b. absurd (omega (arith, b, l)))
