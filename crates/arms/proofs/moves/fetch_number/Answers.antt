-- `fetch_number` meets its contract.
use Rattle.arms.specs.Registers.{Sized}
use Rattle.std.proofs.Common.{rules}
use Rattle.arms.specs.Registers.{registers_of}
use mathlib.Core.Path.{refl}
use native.Mathlib.Omega.{arith}
use Rattle.arms.proofs.RegisterLaws.{still_sized}
use Rattle.arms.proofs.SetLaws.{unset, sets, gives-word, no_word}
use Rattle.arms.proofs.moves.fetch_number.Goals as goal

pub returns-then-words-v : goal.returns-then-words-v
returns-then-words-v c =
    let sized : Sized c.args.registers.now.nums c.args.registers.now.kinds = search rules in
    λ p k d s. (sized, λ t o q. unset 33 (omega arith) (no_word c.args.words.now c.args.v p k (s (registers_of c.args.registers.now.nums c.args.registers.now.kinds)) t o c.if-words-v.true))

pub returns : goal.returns
returns c =
    let nums = c.args.registers.now.nums in
    let kinds = c.args.registers.now.kinds in
    let sized : Sized nums kinds = search rules in
    let put = c.put.ensures in
    let b = c.bits-u in
    λ p k d s. (
      still_sized nums kinds c.args.r _ _ sized put.nums_after put.kinds_after,
      λ t o q.
          sets nums kinds c.args.r b.result 0 _ refl
          (gives-word c.args.words.now c.args.v p k (s (registers_of nums kinds)) t o b.result c.if-words-v.false
          (search rules) (search rules) b.ensures) put.nums_after put.kinds_after,
    )
