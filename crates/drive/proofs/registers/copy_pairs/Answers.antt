-- `copy_pairs` meets its contract.
use mathlib.Core.Path.{◌≡◌, sym, ap, ◌∙◌, refl}
use Prim.Native.Nat.{◌+◌, ◌-◌, ◌/◌, ◌%◌, ◌<◌, ◌≤◌}
use native.Mathlib.Omega.{arith}
use lib.ListN.{get_or, set, length-set}
use Rattle.task.specs.Frames.{zero_register}
use Rattle.task.specs.Step.{copied}
use Rattle.task.proofs.Copying.{copies_first, copies_none}
use Rattle.task.proofs.StretchLaws.{length-reads}
use Rattle.drive.specs.Slots.{at}
use Rattle.drive.specs.Moves.{placed}
use Rattle.drive.proofs.Moving.{placed-none, placed-next}
use Rattle.drive.proofs.registers.copy_pairs.Goals as goal

pub loop-init : goal.loop-init
loop-init c =
    let m = c.args.state.now in
    let plan = c.args.plan.now in
    let all : plan.pairs ≡ plan.pairs - 0 = omega arith in (
      (at m plan.to).registers,
      length-reads zero_register m.bank _ 16,
      placed-none _ _,
      ap (λ n. copied (at m plan.from).registers n plan.packed (at m plan.to).registers) all,
    )

pub loop-preserved : goal.loop-preserved
loop-preserved c =
    let m = c.args.state.now in
    let plan = c.args.plan.now in
    let l = c.loop in
    let from = (at m plan.from).registers in
    let v = get_or from (l.packed / 16 % 16) zero_register in
    let some : 0 < plan.pairs - l.counter = omega (arith, c.loop-test.true) in
    let less : (plan.pairs - l.counter) - 1 ≡ plan.pairs - (l.counter + 1) = omega arith in
    let rs = l.invariant.0 in (
      set rs (l.packed % 16) v,
      length-set rs (l.packed % 16) v ∙ l.invariant.1,
      placed-next m plan.to plan.from (c.requires.pairs_apart (omega (arith, some))) rs l.packed l.invariant.1 l.invariant.2 refl,
      l.invariant.3 ∙ copies_first from (plan.pairs - l.counter) l.packed rs some
          ∙ ap (λ n. copied from n (l.packed / 256) (set rs (l.packed % 16) v)) less,
    )

pub returns : goal.returns
returns c =
    let m = c.args.state.now in
    let plan = c.args.plan.now in
    let l = c.loop in
    let none : plan.pairs - l.counter ≤ 0 = omega (arith, c.loop-test.false) in
    l.invariant.2
    ∙ ap (placed m plan.to) (sym (l.invariant.3 ∙ copies_none (at m plan.from).registers (plan.pairs - l.counter) l.packed l.invariant.0 none))
