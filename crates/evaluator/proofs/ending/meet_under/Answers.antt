-- `meet_under` meets its contract.
use Rattle.std.proofs.Common.{◌/◌}
use Rattle.image.specs.Layout.{program_of}
use Rattle.task.specs.Choices.{chosen}
use Rattle.arms.specs.Registers.{value_of}
use Rattle.evaluator.specs.Banks.{forks_of}
use mathlib.Core.Path.{ap, ◌∙◌}
use Prim.Native.Nat.{◌/◌}
use native.Mathlib.Omega.{arith}
use Rattle.image.proofs.Accepted.{accepted}
use Rattle.task.specs.Execute.{going}
use Rattle.task.proofs.Belonging.{meet_unfit, waits_on, meets-there}
use Rattle.task.proofs.Formation.{target_below}
use Rattle.evaluator.proofs.EndingLaws.{record_is, target_is, target_enters}
use Rattle.evaluator.proofs.ending.meet_under.Goals as goal

pub returns-then-not-does_fit : goal.returns-then-not-does_fit
returns-then-not-does_fit c =
    let cells = c.args.program.now.cells.now in
    let v = value_of c.args.v.kind c.args.v.num in
    let l = forks_of c.args.records.now c.args.t.depth in
    let p = record_is c.args.v.kind c.args.v.num c.if-v-lt2.false in
    let f = c.does_fit in
    λ w i s. c.fault-then-not-does_fit.ensures ∙ meet_unfit w s cells i v c.args.t l p f.ensures c.if-not-does_fit.true

pub returns-then-under-t : goal.returns-then-under-t
returns-then-under-t c =
    let cells = c.args.program.now.cells.now in
    let v = value_of c.args.v.kind c.args.v.num in
    let l = forks_of c.args.records.now c.args.t.depth in
    let p = record_is c.args.v.kind c.args.v.num c.if-v-lt2.false in
    let f = c.does_fit in
    λ w i s. c.end.ensures ∙ waits_on w s cells i v c.args.t l p f.ensures c.if-not-does_fit.false c.if-under-t.true

pub first-requires : goal.first-requires
first-requires c =
    let cells = c.args.program.now.cells.now in
    target_below (program_of cells) _ (target_is cells c.args.v.kind c.args.v.num c.if-v-lt2.false c.requires.0)

pub overflow_cast-first : goal.overflow_cast-first
overflow_cast-first c =
    let cells = c.args.program.now.cells.now in
    let b = target_below (program_of cells) _ (target_is cells c.args.v.kind c.args.v.num c.if-v-lt2.false c.requires.0) in
    let ok = accepted cells c.args.program.now.accepted in
    omega (arith, c.first.ensures, (ok.block (c.args.v.num / 4294967296) b).first_below, ok.few_instructions)

pub returns : goal.returns
returns c =
    let cells = c.args.program.now.cells.now in
    let v = value_of c.args.v.kind c.args.v.num in
    let l = forks_of c.args.records.now c.args.t.depth in
    let p = record_is c.args.v.kind c.args.v.num c.if-v-lt2.false in
    let f = c.does_fit in
    let b = target_is cells c.args.v.kind c.args.v.num c.if-v-lt2.false c.requires.0 in
    λ w i s. c.go.ensures ∙ ap (λ n. going n c.args.t.counter) c.first.ensures ∙ target_enters (program_of cells) (chosen i) (c.args.v.num / 4294967296) c.args.t b
    ∙ meets-there w s cells i v c.args.t l p f.ensures c.if-not-does_fit.false c.if-under-t.false
