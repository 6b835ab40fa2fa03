-- `divide` meets its contract.
use Rattle.std.proofs.Common.{rules}
use Rattle.task.specs.Choices.{chosen}
use Rattle.task.proofs.Computing.{of_integers, by_divisor}
use Rattle.task.proofs.arithmetic.divide.Goals as goal

pub returns : goal.returns
returns c = λ p w n o.
    of_integers p (chosen n) c.args.t _ _ c.args.s c.args.v
    (λ a b i j k. by_divisor p (chosen n) c.args.t (chosen n).quotient a b (λ z. search rules) (λ z. search rules))
    c.integers.ensures
