-- What the loop keeps: with the pairs that are left copied too, the registers are those that all pairs make.
use Rattle.std.proofs.Common.{◌≡◌, ◌-◌, List, length}
use Rattle.task.specs.declared.Register.{Register}
use Rattle.task.specs.Step.{copied}
use Rattle.drive.specs.Slots.{at}
use Rattle.drive.specs.Moves.{placed}
use Rattle.drive.proofs.registers.copy_pairs.Given as goal

abbrev pub invariant-loop : goal.invariant-loop
invariant-loop l =
    let from = (at l.initial.state l.plan.from).registers in
    (rs : List Register) × (length rs ≡ 16) × (l.state ≡ placed l.initial.state l.plan.to rs)
    × (copied from l.plan.pairs l.initial.packed (at l.initial.state l.plan.to).registers ≡ copied from (l.plan.pairs - l.counter) l.packed rs)
