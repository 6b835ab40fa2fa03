-- `encode_instructions` meets its contract.
use Rattle.std.proofs.Common.{ℕ}
use Rattle.std.proofs.lemmas.List.Edits.{sets}
use Rattle.image.specs.Layout.{rows, block_place, version_of, block_count, instruction_of, instruction_bytes, instruction_from}
use Rattle.image.proofs.writer.encode_instructions.Goals as goal
use mathlib.Core.Path.{refl, ap, ap₂, ◌∙◌}
use Prim.Native.Nat.{ℕ}
use lib.Seq.{sets}
use native.Mathlib.Omega.{arith}
use Rattle.int64.specs.Little.{bytes_of}
use Rattle.image.specs.declared.Instruction.{Instruction}
use Rattle.image.proofs.Rows.{row-placed}

pub loop-i-init : goal.loop-i-init
unfolding rows
loop-i-init c = (omega (arith, c.requires.2), refl, refl, refl)

pub loop-i-preserved : goal.loop-i-preserved
unfolding bytes_of
loop-i-preserved c =
    let cells = c.args.cells.now in
    let l = c.loop-i in
    let rest = c.instruction_from-x.ensures ∙ ap (instruction_from cells) l.invariant.1 in (
      omega (arith, l.invariant.0),
      omega (arith, l.invariant.1),
      c.put_instruction_bytes.auto.image ∙ l.invariant.2,
      row-placed
          (λ (i : ℕ). instruction_bytes (instruction_of cells i)) 12 (λ i. refl) _ l.image _ (block_place (version_of cells) (block_count cells)) l._i l.invariant.3
          (c.put_instruction_bytes.ensures ∙ ap₂ (λ (n : ℕ) (k : Instruction). sets l.image n (instruction_bytes k)) l.invariant.0
          rest),
    )
