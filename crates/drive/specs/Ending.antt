-- Whether the job has ended, and how: read off slot 0.
use Rattle.std.specs.Prelude.{Bool, true, false, cond, ℕ, eqb}
use Rattle.task.specs.declared.Status.{Status}
use Rattle.task.specs.declared.Status.TheVariants.{Vacant, Running, Waiting, Halted, Faulted}
use Rattle.task.specs.declared.Frame.{Frame}
use Rattle.drive.specs.declared.State.{State}
use Rattle.drive.specs.declared.End.{End}
use Rattle.drive.specs.declared.End.TheVariants.{NotEnded, Halt, Fault}
use Rattle.drive.specs.Slots.{at}

-- halt ends the job, and so does a fault at depth 0
abbrev pub end_at : ℕ → Status → End
end_at depth Vacant = NotEnded
end_at depth Running = NotEnded
end_at depth Waiting = NotEnded
end_at depth Halted = Halt
end_at depth (Faulted n) = cond (eqb depth 0) (Fault n) NotEnded

-- how a job has ended whose first slot has this frame
abbrev pub end_of : Frame → End
end_of f = end_at f.task.depth f.task.status

abbrev pub is_end : End → Bool
is_end NotEnded = false
is_end Halt = true
is_end (Fault n) = true

abbrev pub ending : State → End
ending m = end_of (at m 0)

abbrev pub job_ended : State → Bool
job_ended m = is_end (ending m)
