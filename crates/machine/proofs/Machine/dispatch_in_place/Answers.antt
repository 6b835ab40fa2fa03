-- `dispatch_in_place` meets its contract.
use Rattle.std.proofs.Common.{[], ◌∷◌}
use Rattle.std.proofs.lemmas.Result.{err_from_is_err_and}
use Rattle.machine.proofs.Machine.dispatch_in_place.Goals as goal
use mathlib.Core.Path.{sym, ap, ◌∙◌}
use Rattle.image.proofs.Refusals.{refused}
use Rattle.drive.specs.Ending.{job_ended}
use Rattle.machine.proofs.PickLaws.{whole_length}
use Rattle.machine.proofs.DispatchLaws.{dispatch-passed, dispatch-refused, dispatch-idle, dispatch-answered, starts-on}

pub returns-in_err-ask_dispatch : goal.returns-in_err-ask_dispatch
returns-in_err-ask_dispatch c =
    let a = c.args in
    let r = c.in_err-ask_dispatch.field-0.0 in
    let p = err_from_is_err_and c.from_residual.result c.from_residual.ensures.1 in
    rw (p.1, p.2) (dispatch-refused a.cells.now a.words.now a.lanes a.self.now.state a.budget _ c.in_err-ask_dispatch.ensures (refused r))

pub returns-then-lanes_used-eq0 : goal.returns-then-lanes_used-eq0
returns-then-lanes_used-eq0 c =
    let a = c.args in
    let none = sym c.lanes_used.ensures ∙ c.if-lanes_used-eq0.true in
    let idle = dispatch-idle a.cells.now a.words.now a.lanes a.self.now.state a.budget (sym c.in_ok-ask_dispatch.ensures) c.has_ended.ensures.sized none in
    (λ i. record { no = 0; ended = c.has_ended.ensures.value i; rounds = 0; picks = 0; machine = a.self.now }) ∙ idle.0

pub drive-counts-requires : goal.drive-counts-requires
drive-counts-requires c =
    let a = c.args in
    let x = dispatch-passed a.cells.now a.words.now a.lanes a.self.now.state (sym c.in_ok-ask_dispatch.ensures) in
    let s = x.state in
    let starts = starts-on a.cells.now a.words.now a.lanes a.self.now.state a.budget x.some_lanes x.few_lanes in
    (s.passed.program, whole_length s.passed, s.shaped, starts)

pub returns : goal.returns
returns c =
    let a = c.args in
    let ran = dispatch-answered a.cells.now a.words.now a.lanes a.self.now.state a.budget (sym c.in_ok-ask_dispatch.ensures) (0 ∷ []) in
    let d = c.drive-counts.ensures in
    let ended = c.has_ended-2.ensures.value ∙ ap job_ended d.state_after in
    (λ i. record { no = 0; ended = ended i; rounds = d.rounds i; picks = d.picks i; machine = record { state = d.state_after i } }) ∙ ran
