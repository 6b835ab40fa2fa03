-- `fork_under` meets its contract.
use Rattle.image.specs.Layout.{program_of}
use Rattle.arms.specs.Registers.{value_of}
use Rattle.evaluator.specs.Banks.{forks_of}
use mathlib.Core.Path.{◌∙◌}
use native.Mathlib.Omega.{arith}
use Rattle.image.proofs.Accepted.{accepted}
use Rattle.task.proofs.Belonging.{fork_unfit, fork-no_places, opens}
use Rattle.arms.proofs.LeadLaws.{label_inside}
use Rattle.evaluator.proofs.EndingLaws.{record_is, label_is, fork-no-label}
use Rattle.evaluator.proofs.ending.fork_under.Goals as goal

pub returns-then-not-does_fit : goal.returns-then-not-does_fit
returns-then-not-does_fit c =
    let cells = c.args.program.now.cells.now in
    let s = value_of c.args.s.kind c.args.s.num in
    let v = value_of c.args.v.kind c.args.v.num in
    let l = forks_of c.args.records.now c.args.t.depth in
    let p = record_is c.args.s.kind c.args.s.num c.if-s-lt2.false in
    let f = c.does_fit in
    λ w k. c.fault-then-not-does_fit.ensures ∙ fork_unfit w k cells s v c.args.t l p f.ensures c.if-not-does_fit.true

pub returns-then-v-ne1 : goal.returns-then-v-ne1
returns-then-v-ne1 c =
    let cells = c.args.program.now.cells.now in
    let s = value_of c.args.s.kind c.args.s.num in
    let v = value_of c.args.v.kind c.args.v.num in
    let l = forks_of c.args.records.now c.args.t.depth in
    let p = record_is c.args.s.kind c.args.s.num c.if-s-lt2.false in
    let f = c.does_fit in
    λ w k. c.fault-then-v-ne1.ensures ∙ fork-no-label w k (program_of cells) c.args.v.num c.args.t l c.args.v.kind s p f.ensures c.if-not-does_fit.false c.if-v-ne1.true

pub returns-then-t-lt2 : goal.returns-then-t-lt2
returns-then-t-lt2 c =
    let cells = c.args.program.now.cells.now in
    let s = value_of c.args.s.kind c.args.s.num in
    let v = value_of c.args.v.kind c.args.v.num in
    let l = forks_of c.args.records.now c.args.t.depth in
    let p = record_is c.args.s.kind c.args.s.num c.if-s-lt2.false in
    let f = c.does_fit in
    λ w k. c.fault-then-t-lt2.ensures ∙ fork-no_places w k cells s v c.args.t l p f.ensures c.if-not-does_fit.false (label_is c.args.v.kind c.args.v.num c.if-v-ne1.false)
    c.if-t-lt2.true

pub first-child-requires : goal.first-child-requires
first-child-requires c =
    let cells = c.args.program.now.cells.now in
    label_inside cells c.args.v.kind c.args.v.num c.if-v-ne1.false c.requires.0

pub overflow_cast-child : goal.overflow_cast-child
overflow_cast-child c =
    let cells = c.args.program.now.cells.now in
    let b = label_inside cells c.args.v.kind c.args.v.num c.if-v-ne1.false c.requires.0 in
    let ok = accepted cells c.args.program.now.accepted in
    omega (arith, c.first-child.ensures, (ok.block c.args.v.num b).first_below, ok.few_instructions)

pub returns : goal.returns
returns c =
    let cells = c.args.program.now.cells.now in
    let s = value_of c.args.s.kind c.args.s.num in
    let v = value_of c.args.v.kind c.args.v.num in
    let l = forks_of c.args.records.now c.args.t.depth in
    let p = record_is c.args.s.kind c.args.s.num c.if-s-lt2.false in
    let f = c.does_fit in
    λ w k. opens w k cells s v c.args.t l p f.ensures c.if-not-does_fit.false
    (label_is c.args.v.kind c.args.v.num c.if-v-ne1.false) c.if-t-lt2.false
    c.first-child.ensures
