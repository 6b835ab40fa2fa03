-- A pick's own questions, and one instruction issued.
use Rattle.std.specs.Prelude.{not, List, ℕ, ltb, ℤ}
use Rattle.agreement.specs.Slots.{carry}
use Rattle.image.specs.Layout.{program_of}
use Rattle.image.specs.Questions.{ask}
use Rattle.task.specs.Frames.{running, work_limit}
use Rattle.task.specs.Choices.{chosen}
use Rattle.task.specs.Step.{step}
use Rattle.drive.specs.declared.State.{State}
use Rattle.drive.specs.Slots.{at, ticked, slots_of}
use Rattle.drive.specs.Ending.{job_ended}

-- Slot below P? (21) Job not ended? (22) A running task there? (23) Work below 4,294,967,295? (24)
unfoldable pub slot_no : State → ℕ → ℕ
slot_no m k =
    ask (ltb k m.places) 21
    (ask (not (job_ended m)) 22 (ask (running (at m k)) 23 (ask (ltb m.work work_limit) 24 0)))

-- one instruction of slot k's task issued, the joins that then are due made, and 1 added to the work
abbrev pub issued : List ℕ → List ℤ → State → ℕ → State
issued cells words m k =
    ticked (carry (slots_of (program_of cells)) (step (program_of cells) words (chosen m.interval)) m k)
