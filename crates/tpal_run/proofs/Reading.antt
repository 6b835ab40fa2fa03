-- What has been read, once more is read.
use Rattle.std.proofs.Common.{◌≡◌, ℕ, ◌+◌, List, ◌++◌, take, drop, sym, ap, ◌∙◌, subst}
use Rattle.std.proofs.Math.Seq.{take-add}
use Rattle.std.proofs.KnownBytes.{Consumes-trans}
use Rattle.std.specs.Io.KnownBytes.{Consumes}
use Rattle.std.specs.declared.option.Option.{Option}

-- one more read
pub one_more : (a b c : Option (List ℕ)) (old new : List ℕ) (done more : ℕ) → take done new ≡ take done old
    → Consumes a b (take done old) → Consumes b c (take more (drop done new)) → Consumes a c (take (done + more) new)
one_more a b c old new done more kept first second =
    let joined : take done old ++ take more (drop done new) ≡ take (done + more) new =
    ap (λ l. l ++ take more (drop done new)) (sym kept) ∙ sym (take-add done more new) in
    subst (Consumes a c) joined (Consumes-trans a b c _ _ first second)
