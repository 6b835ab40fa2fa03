-- `encode_header` meets its contract.
use Rattle.std.proofs.Common.{◌++◌}
use Rattle.image.specs.Layout.{version_of, block_count, instruction_count, mark}
use Rattle.image.proofs.writer.encode_header.Goals as goal
use Rattle.std.proofs.Common.{ℕ, List, ◌≡◌, ◌≤◌, length, drop, arith}
use Rattle.std.proofs.lemmas.List.Edits.{sets, sets-eq}
use mathlib.Core.Path.{refl, sym, ap, ◌∙◌}
use mathlib.Core.List.{◌++◌}
use Rattle.image.proofs.Rows.{placed}
use Rattle.int64.specs.Little.{bytes_of}

marked : (l : List ℕ) → 3 ≤ length l → sets l 0 mark ≡ mark ++ drop 3 l
marked l h = sets-eq mark l 0 (omega arith)

pub returns : goal.returns
unfolding bytes_of
returns c =
    let l = c.args.image.now in
    let cells = c.args.cells.now in
    let version = bytes_of 2 (version_of cells) in
    let blocks = bytes_of 1 (block_count cells) in
    let m = marked l (omega arith) ∙ ap (λ (m : List ℕ). m ++ drop 3 l) (sym c.copy_from_slice.ensures.after) in
    let p = placed l _ _ 0 3 mark version (sym m) c.write_u16.ensures refl in
    let q = placed l _ _ 0 5 (mark ++ version) blocks p refl refl in
    placed l _ _ 0 6 (mark ++ version ++ blocks) (bytes_of 2 (instruction_count cells)) q c.write_u16-2.ensures refl
