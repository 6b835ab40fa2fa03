-- The dispatcher's own question, 41 of document 02, between 15 and 20, on a state and on a job; and what it says: ended or spent, with its
-- rounds.
use Rattle.std.specs.Prelude.{List, [], ◌∷◌, set, take}
use Rattle.doors.specs.Doors.{Row, ◌gives◌, on_lanes, refused, ended, spent, dispatch, dispatch_job}
use Rattle.doors.specs.Programs.{program_f, zeros, no_state}
use Rattle.doors.specs.States.{fresh, forked, parent_waits, halted, with_work}
use Rattle.doors.specs.Jobs.{job_of, job_f, small}

unfoldable pub lane_rows : List Row
lane_rows =
    -- 1 to 8 lanes? (41)
    dispatch program_f [] fresh 0 gives 41
    ∷ dispatch program_f [] fresh 1 gives 0
    ∷ dispatch program_f [] fresh 8 gives 0
    ∷ dispatch program_f [] fresh 9 gives 41
    -- the program's questions, 14 and 15 come before it
    ∷ dispatch (set program_f 0 3) [] fresh 9 gives 3
    ∷ dispatch (set program_f 1 129) [] fresh 9 gives 4
    ∷ dispatch program_f (zeros 4097) fresh 9 gives 14
    ∷ dispatch (take 816 program_f) [] fresh 9 gives 15
    -- and 20 after it
    ∷ dispatch program_f [] no_state 9 gives 41
    ∷ dispatch program_f [] no_state 8 gives 20
    -- of a job: 10, the reader's questions, start's and 15 come before it
    ∷ dispatch_job job_f 2 432 gives 0
    ∷ dispatch_job job_f 0 432 gives 41
    ∷ dispatch_job job_f 9 432 gives 41
    ∷ dispatch_job job_f 9 431 gives 15
    ∷ dispatch_job job_f 2 433 gives 15
    ∷ dispatch_job job_f 2 424 gives 15
    ∷ dispatch_job (job_of small 3 0 0 0) 9 0 gives 11
    ∷ dispatch_job (take 290 job_f) 9 0 gives 10
    ∷ []

unfoldable pub round_rows : List Row
round_rows =
    -- F with two lanes takes 7 rounds, with one 9
    on_lanes program_f [] fresh 2 7 (ended 7)
    ∷ on_lanes program_f [] fresh 2 100 (ended 7)
    ∷ on_lanes program_f [] fresh 2 6 (spent 6)
    ∷ on_lanes program_f [] fresh 1 9 (ended 9)
    ∷ on_lanes program_f [] fresh 1 8 (spent 8)
    -- with the child's side alone left to do, and the joined task after it
    ∷ on_lanes program_f [] parent_waits 2 100 (ended 5)
    -- no rounds
    ∷ on_lanes program_f [] fresh 2 0 (spent 0)
    -- a job that had ended
    ∷ on_lanes program_f [] halted 2 1 (ended 0)
    ∷ on_lanes program_f [] halted 2 0 (ended 0)
    -- the work at its limit; one below it, where two tasks run: the round is cut short, and counted
    ∷ on_lanes program_f [] (with_work 4294967295 forked) 2 3 (spent 0)
    ∷ on_lanes program_f [] (with_work 4294967294 forked) 2 3 (spent 1)
    ∷ on_lanes program_f [] fresh 9 7 (refused 41)
    ∷ []
