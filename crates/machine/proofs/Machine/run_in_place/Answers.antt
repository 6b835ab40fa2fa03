-- `run_in_place` meets its contract.
use Rattle.std.proofs.Common.{[], ◌∷◌}
use Rattle.std.proofs.lemmas.Result.{err_from_is_err_and}
use Rattle.machine.proofs.Machine.run_in_place.Goals as goal
use mathlib.Core.Path.{sym, ap, ◌∙◌}
use Rattle.image.proofs.Refusals.{refused}
use Rattle.drive.specs.Ending.{job_ended}
use Rattle.drive.proofs.ShapeLaws.{shape_allowed}
use Rattle.drive.proofs.Owning.{places_some}
use Rattle.machine.proofs.PickLaws.{state_passed, whole_length}
use Rattle.machine.proofs.Picked.{run-refused, run-answered, starts_in_lem}

pub returns-in_err-ask_state : goal.returns-in_err-ask_state
returns-in_err-ask_state c =
    let a = c.args in
    let r = c.in_err-ask_state.field-0.0 in
    let p = err_from_is_err_and c.from_residual.result c.from_residual.ensures.1 in
    rw (p.1, p.2) (run-refused a.cells.now a.words.now a.self.now.state a.budget _ c.in_err-ask_state.ensures (refused r))

pub drive-counts-requires : goal.drive-counts-requires
drive-counts-requires c =
    let a = c.args in
    let m = a.self.now.state in
    let x = state_passed a.cells.now a.words.now m (sym c.in_ok-ask_state.ensures) in
    let some = places_some m.places (shape_allowed a.cells.now m x.passed.program x.shaped).its_places_allowed in
    (x.passed.program, whole_length x.passed, x.shaped, starts_in_lem m 0 a.budget some)

pub returns : goal.returns
returns c =
    let a = c.args in
    let ran = run-answered a.cells.now a.words.now a.self.now.state a.budget (sym c.in_ok-ask_state.ensures) (0 ∷ []) in
    let d = c.drive-counts.ensures in
    let ended = c.has_ended.ensures.value ∙ ap job_ended d.state_after in
    (λ i. record { no = 0; ended = ended i; picks = d.picks i; machine = record { state = d.state_after i } }) ∙ ran
