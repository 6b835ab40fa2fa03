-- `walk_instructions` meets its contract.
use Rattle.image.proofs.walk.walk_instructions.Goals as goal
use mathlib.Core.Path.{sym, ◌∙◌}
use native.Mathlib.Omega.{arith}
use Rattle.image.proofs.Refusals.{refused}
use Rattle.image.proofs.Counts.{counted}
use Rattle.image.proofs.Header.{header}
use Rattle.image.proofs.Walks.{instructions-begin, next_instruction, instruction-refused, instructions_end, instruction-length}

pub read_u16-instructions-requires : goal.read_u16-instructions-requires
read_u16-instructions-requires c =
    omega (arith, (header c.args.image.now c.requires.0).long)

pub loop-i-init : goal.loop-i-init
loop-i-init c =
    instructions-begin c.args.image.now c.requires.0 c.args.lays c.args.cells.now c.args.start c.requires.4

pub returns-in-Err : goal.returns-in-Err
returns-in-Err c =
    let image = c.args.image.now in
    let ok = c.requires.0 in
    let l = c.loop-i in
    let asked = c.in-Err.ensures in
    let s = instruction-refused image ok c.args.lays c.args.cells.now l.cells l.at l.to l.i l.invariant
    (omega (arith, c.read_u16-instructions.ensures.equal)) (λ e. refused c.in-Err.refusal (asked ∙ e)) in
    record {
      no_value = asked ∙ sym s.0;
      at_value = s.1.0;
      cells_after = s.1.1;
    }

pub lay_instruction-requires : goal.lay_instruction-requires
lay_instruction-requires c =
    let image = c.args.image.now in
    let ok = c.requires.0 in
    let l = c.loop-i in
    let below = c.read_u16-instructions.ensures.equal in
    let few = (counted _ _ (header image ok).counts).instructions_fit in (
      omega (arith, (header image ok).size, below, l.invariant.offset),
      λ t.
          (omega (
            arith,
            c.requires.5 t,
            instruction-length image ok c.args.lays c.args.cells.now l.cells l.at l.to l.i
                l.invariant,
            l.invariant.target,
            below,
            few,
          )),
    )

pub loop-i-preserved : goal.loop-i-preserved
loop-i-preserved c =
    let image = c.args.image.now in
    let ok = c.requires.0 in
    let l = c.loop-i in
    next_instruction image ok c.args.lays c.args.cells.now l.cells l.at l.to l.i l.invariant _
    (omega (arith, c.read_u16-instructions.ensures.equal))
    (sym c.in_default.ensures)
    c.lay_instruction.ensures

pub returns : goal.returns
returns c =
    let image = c.args.image.now in
    let ok = c.requires.0 in
    let l = c.loop-i in
    let s = instructions_end image ok c.args.lays c.args.cells.now l.cells l.at l.to l.i l.invariant
    (omega (arith, c.read_u16-instructions.ensures.equal)) in
    record {
      no_value = sym s.0;
      at_value = s.1.0;
      cells_after = s.1.1;
    }
