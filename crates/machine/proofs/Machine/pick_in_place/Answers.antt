-- `pick_in_place` meets its contract.
use Rattle.std.proofs.Common.{[], ◌∷◌}
use Rattle.machine.proofs.Machine.pick_in_place.Goals as goal
use mathlib.Core.Path.{sym, ◌∙◌}
use Rattle.image.proofs.Refusals.{refused, exit_no}
use Rattle.machine.proofs.PickLaws.{whole_length}
use Rattle.machine.proofs.Picked.{pick_accepts, pick-refused, picked-one, starts_in_lem}

pub returns-in_err-ask_pick-clause-value : goal.returns-in_err-ask_pick-clause-value
returns-in_err-ask_pick-clause-value c = exit_no _ _ c.from_residual.ensures.1 ∙ c.in_err-ask_pick.ensures.value

pub returns-in_err-ask_pick-clause-state_after : goal.returns-in_err-ask_pick-clause-state_after
returns-in_err-ask_pick-clause-state_after c =
    let a = c.args in
    pick-refused a.cells.now a.words.now a.self.now.state a.slot _ c.in_err-ask_pick.ensures.value (refused c.in_err-ask_pick.field-0.0)

pub drive-requires : goal.drive-requires
drive-requires c =
    let a = c.args in
    let x = pick_accepts a.cells.now a.words.now a.self.now.state a.slot (sym c.in_ok-ask_pick.ensures.value) in
    (x.state.passed.program, whole_length x.state.passed, x.state.shaped, starts_in_lem a.self.now.state a.slot 1 x.ready.below)

pub returns-clause-value : goal.returns-clause-value
returns-clause-value c = c.in_ok-ask_pick.ensures.value

pub returns-clause-state_after : goal.returns-clause-state_after
returns-clause-state_after c =
    let a = c.args in
    let asked = c.in_ok-ask_pick.ensures in
    c.drive.ensures.state_after ∙ picked-one a.cells.now a.words.now a.self.now.state a.slot asked.sized (sym asked.value) (0 ∷ [])
