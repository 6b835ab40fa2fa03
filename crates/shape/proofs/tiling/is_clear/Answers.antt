-- `is_clear` meets its contract.
use Rattle.std.proofs.Common.{◌-◌, ◌∙◌, eqb, arith}
use Rattle.shape.proofs.AllLaws.{every_of}
use Rattle.shape.proofs.tiling.is_clear.Goals as goal

pub returns : goal.returns
returns c =
    let a = c.args in
    c.all_vacant.ensures ∙ every_of (λ x. eqb x 0) 0 a.codes.now (a.to - a.from) a.from (omega (arith, c.told-codes))
