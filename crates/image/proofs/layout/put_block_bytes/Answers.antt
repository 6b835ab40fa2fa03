-- `put_block_bytes` meets its contract.
use Rattle.std.proofs.Common.{◌++◌, ◌+◌, ℕ, List}
use Rattle.std.proofs.lemmas.List.Edits.{sets}
use Rattle.int64.specs.Little.{bytes_of}
use Rattle.image.specs.Layout.{most_pairs}
use Rattle.image.proofs.layout.put_block_bytes.Goals as goal
use mathlib.Core.Path.{refl, ap, ◌∙◌}
use mathlib.Core.List.{List, ◌++◌}
use Prim.Native.Nat.{ℕ, ◌+◌}
use lib.Seq.{sets}
use Rattle.image.proofs.Rows.{placed}

pub returns : goal.returns
unfolding bytes_of
returns c =
    let l = c.args.image.now in
    let at = c.args.at in
    let k = c.args.k in
    let pairs = most_pairs c.args.version in
    let middle = c.four_bytes-middle.result in
    let two = placed l _ _ at (at + 2) (bytes_of 2 k.first) (bytes_of 4 middle)
    c.write_u16.ensures
    c.write_u32.ensures refl in
    placed l _ _ at (at + 6) (bytes_of 2 k.first ++ bytes_of 4 middle) (bytes_of pairs k.packed) two c.put_pairs.ensures refl
    ∙ ap (λ (m : List ℕ). sets l at ((bytes_of 2 k.first ++ m) ++ bytes_of pairs k.packed))
    c.four_bytes-middle.ensures
