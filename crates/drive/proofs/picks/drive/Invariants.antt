-- What the loops of `drive` keep: the walk, the looks for a row, and the turns, at whose head the course stands where the state is, whichever
-- course it is.
use Rattle.std.proofs.Common.{◌≡◌, ◌+◌, ◌-◌, ◌*◌, ◌≤◌, cond, Some, is_some}
use Rattle.task.specs.declared.Executed.{Executed}
use Rattle.task.specs.Frames.{work_limit}
use Rattle.turns.specs.Stretches.{lanes_of}
use Rattle.drive.proofs.Planning.{ahead}
use Rattle.drive.proofs.RowLaws.{Gathers}
use Rattle.drive.proofs.Turning.{Turns, Leads, Stopped}
use Rattle.drive.proofs.Walking.{given}
use Rattle.drive.proofs.picks.drive.Given as goal

abbrev pub invariant-loop-k : goal.invariant-loop-k
invariant-loop-k l =
    Leads l.cells l.words l.order l.course l.initial.state l.initial.p l.state l.p
    × ((e : Executed) → l.stop ≡ Some e → Stopped l.cells l.words l.state l.p e)

abbrev pub invariant-loop-met : goal.invariant-loop-met
invariant-loop-met l = Gathers l.state (lanes_of l.course) l.look l.row × (l.look ≤ l.state.places)

abbrev pub invariant-loop-due : goal.invariant-loop-due
invariant-loop-due l =
    Turns (given l.cells l.words l.initial.state l.order l.course) l.state l.p l.due l.side
    × (l.initial.state.work ≤ l.state.work)
    × (l.state.work ≤ work_limit)

abbrev pub decreases-loop-k : goal.decreases-loop-k
decreases-loop-k l = 2 * (65 * (l.p.until - l.state.work) + l.p.ahead) + cond (is_some l.stop) 0 1

abbrev pub decreases-loop-met : goal.decreases-loop-met
decreases-loop-met l = l.state.places - l.look

abbrev pub decreases-loop-due : goal.decreases-loop-due
decreases-loop-due l = ahead (given l.cells l.words l.initial.state l.order l.course) l.state l.p l.due
