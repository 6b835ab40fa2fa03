-- `is_clear` meets its contract.
use Rattle.std.proofs.Common.{◌≡◌, ◌<◌, ◌≤◌, ◌+◌, ◌-◌, ℕ, List, length, get_or, take, drop, arith, sym, ◌∙◌, length-drop}
use Rattle.std.proofs.lemmas.List.{length-take-le, get_or-take, get_or-drop}
use borrow.Author.Tests.{eq-eqb, ne_eqb}
use Rattle.state.proofs.Zeros.{tested_yes, tested_no, tested_all}
use Rattle.state.proofs.clear.is_clear.Goals as goal
use Rattle.state.proofs.clear.is_clear.Goals.{then-b-ne0, else-b-ne0}

-- the bytes that the loop goes over
module _ (bytes : List ℕ) (at n : ℕ) (h : at + n ≤ length bytes) where
  abbrev part : List ℕ
  part = take (at + n - at) (drop at bytes)

  part_length : length part ≡ n
  part_length =
      let k : n ≤ length (drop at bytes) = omega (arith, length-drop at bytes) in
      let e : at + n - at ≡ n = omega arith in
      rw e (length-take-le n (drop at bytes) k)

  part_byte : (i : ℕ) → i < n → get_or part i 0 ≡ get_or bytes (at + i) 0
  part_byte i l =
      let e : at + n - at ≡ n = omega arith in
      rw e (get_or-take n (drop at bytes) i 0 l ∙ get_or-drop at bytes i 0)

pub loop-b-preserved : goal.loop-b-preserved
loop-b-preserved c =
    let a = c.args in
    let l = c.loop-b in
    let below : l.b-index < a.n = omega (arith, part_length a.bytes.now a.at a.n c.requires) in
    let byte = part_byte a.bytes.now a.at a.n c.requires l.b-index below in
    elim c.if-b-ne0.branch [
      | then-b-ne0 w ↦ rw w.clear-is (tested_no _ a.n l.b-index l.clear l.invariant below (ne_eqb _ 0 (λ e. w.if-b-ne0.true (byte ∙ e))))
      | else-b-ne0 w ↦ rw w.clear-is (tested_yes _ a.n l.b-index l.clear l.invariant below (eq-eqb _ 0 (sym byte ∙ w.if-b-ne0.false)))
    ]

pub returns : goal.returns
returns c =
    let a = c.args in
    let l = c.loop-b in
    tested_all _ _ l.b-index l.clear l.invariant (omega (arith, part_length a.bytes.now a.at a.n c.requires))
