-- `put_instruction_bytes` meets its contract.
use Rattle.std.proofs.Common.{◌++◌, ◌+◌, ℕ, List}
use Rattle.std.proofs.lemmas.List.Edits.{sets}
use Rattle.int64.specs.Little.{bytes_of}
use Rattle.image.proofs.layout.put_instruction_bytes.Goals as goal
use mathlib.Core.Path.{refl, ap, ◌∙◌}
use mathlib.Core.List.{List, ◌++◌}
use Prim.Native.Nat.{ℕ, ◌+◌}
use lib.Seq.{sets}
use Rattle.image.proofs.Rows.{placed}

pub returns : goal.returns
unfolding bytes_of
returns c =
    let l = c.args.image.now in
    let at = c.args.at in
    let x = c.args.x in
    let head = c.four_bytes-head.result in
    placed l _ _ at (at + 4) (bytes_of 4 head) (bytes_of 8 x.operand) c.write_u32.ensures c.write_u64.ensures refl
    ∙ ap (λ (m : List ℕ). sets l at (m ++ bytes_of 8 x.operand)) c.four_bytes-head.ensures
