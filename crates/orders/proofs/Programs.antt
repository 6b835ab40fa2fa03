-- Two buffers that hold the same program have the same evaluation.
use mathlib.Core.Path.{ap}
use Rattle.orders.specs.Demand.{evaluation_of, SameProgram}

pub same-program : SameProgram
same-program x y same choices places registers words fuel = ap (λ p. evaluation_of p choices places registers words fuel) same
