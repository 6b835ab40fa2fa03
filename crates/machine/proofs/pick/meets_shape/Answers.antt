-- `meets_shape` meets its contract.
use Rattle.std.proofs.Common.{◌*◌, arith}
use Rattle.std.proofs.lemmas.Option.{MatchOption-at_none}
use Rattle.machine.proofs.pick.meets_shape.Goals as goal
use mathlib.Core.Path.{sym, ap, ◌∙◌}
use Rattle.drive.specs.Settings.{interval_allowed}
use Rattle.task.specs.Frames.{zero_register}
use Rattle.task.specs.Stretches.{reads}
use Rattle.image.proofs.Accepted.{accepted}
use Rattle.machine.proofs.MeetsShape.{places_refused, interval_refused, no-tree, counts_decide}

pub returns-in_default : goal.returns-in_default
returns-in_default c = places_refused c.args.cells.now c.args.m.now 7 (sym (MatchOption-at_none _ _ c.in_default.is c.rank_of.ensures)) (omega arith)

pub returns-then-not-allows_interval : goal.returns-then-not-allows_interval
returns-then-not-allows_interval c =
    let a = c.args in
    let ranked = c.in-Some in
    interval_refused a.cells.now a.m.now ranked.rank ranked.ensures.0 ranked.ensures.1 (ap interval_allowed (sym c.from.ensures) ∙ sym c.allows_interval.ensures ∙ c.if-not-allows_interval.true)

pub grade_slots-grades-requires : goal.grade_slots-grades-requires
grade_slots-grades-requires c =
    ((accepted c.args.cells.now c.requires.0).few_blocks, c.requires.1)

pub reach_slots-reaches-requires : goal.reach_slots-reaches-requires
reach_slots-reaches-requires c =
    ((accepted c.args.cells.now c.requires.0).few_blocks, c.requires.1)

pub code_slots-codes-requires : goal.code_slots-codes-requires
code_slots-codes-requires c =
    (((accepted c.args.cells.now c.requires.0).few_blocks, c.requires.1), c.version_of-version.ensures, c.in-Some.ensures.1)

pub returns-then-not-is_tree : goal.returns-then-not-is_tree
returns-then-not-is_tree c =
    let coded = c.code_slots-codes in
    let reached = c.reach_slots-reaches in
    let graded = c.grade_slots-grades in
    let a = c.args in
    let ranked = c.in-Some in
    let allowed = ap interval_allowed (sym c.from.ensures) ∙ sym c.allows_interval.ensures ∙ c.if-not-allows_interval.false in
    no-tree a.cells.now a.m.now ranked.rank ranked.ensures.0 ranked.ensures.1 allowed
    graded.result reached.result coded.result graded.ensures reached.ensures coded.ensures
    (sym c.is_tree.ensures ∙ c.if-not-is_tree.true)

pub returns : goal.returns
returns c =
    let coded = c.code_slots-codes in
    let reached = c.reach_slots-reaches in
    let graded = c.grade_slots-grades in
    let a = c.args in
    let ranked = c.in-Some in
    let allowed = ap interval_allowed (sym c.from.ensures) ∙ sym c.allows_interval.ensures ∙ c.if-not-allows_interval.false in
    c.counts_fit.ensures (λ i. reads zero_register a.m.now.bank (16 * i) 16) (λ i. reads zero_register a.m.now.stacks (32 * i) 32)
    ∙ counts_decide a.cells.now a.m.now ranked.rank ranked.ensures.0 ranked.ensures.1 allowed
    graded.result reached.result coded.result graded.ensures reached.ensures coded.ensures
    (sym c.is_tree.ensures ∙ c.if-not-is_tree.false)
