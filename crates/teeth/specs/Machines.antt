-- The wrong machines of document 01's list: ours with one thing changed.
use Rattle.std.specs.Prelude.{ℕ, ◌-◌, false, cond, List, [], ◌∷◌, eqb, ℤ}
use Rattle.image.specs.Doors.{unless_refused}
use Rattle.task.specs.declared.Status.{Status}
use Rattle.task.specs.declared.Task.{Task}
use Rattle.drive.specs.declared.State.{State}
use Rattle.machine.specs.Outcome.{Outcome}
use Rattle.drive.specs.Slots.{ticked}
use Rattle.drive.specs.Ending.{job_ended}
use Rattle.machine.specs.Starting.{start_no, started}
use Rattle.task.specs.Frames.{work_limit}
use Rattle.machine.specs.Picking.{pick_no, picked}
use Rattle.drive.specs.Issue.{issued}
use Rattle.drive.specs.Passes.{run_from}
use Rattle.machine.specs.Running.{outcome}
use Rattle.orders.specs.Demand.{Engine}
use Rattle.teeth.specs.Demands.{Runner}

-- ---- Readers and starts

-- a reader that refuses all images with the number n
abbrev pub reader_refusing : ℕ → List ℕ → ℕ
reader_refusing n bytes = n

-- a start that refuses all jobs with the number n
abbrev pub start_refusing : ℕ → Engine
start_refusing n = record { start_no = λ cells places interval registers words. n; started = started; pick_no = pick_no; picked = picked }

-- ---- Picks. Start is ours

abbrev pub picking : (List ℕ → List ℤ → State → ℕ → ℕ) → (List ℕ → List ℤ → State → ℕ → State) → Engine
picking answer state = record { start_no = start_no; started = started; pick_no = answer; picked = state }

-- a pick that always says n, as 23
abbrev pub always_says : ℕ → Engine
always_says n = picking (λ cells words m k. n) (λ cells words m k. m)

-- a pick that alters nothing: it answers as ours, and hands back the old state
abbrev pub alters_nothing : Engine
alters_nothing = picking pick_no (λ cells words m k. m)

-- one that adds 1 to the work and alters nothing else
abbrev pub alters_work_alone : Engine
alters_work_alone = picking pick_no (λ cells words m k. unless_refused (pick_no cells words m k) (ticked m) m)

-- a pick that runs the whole job first, shown as one pick's work, and idles later: each later pick only adds 1 to the work
abbrev pub with_work : ℕ → State → State
with_work w m = record { places = m.places; interval = m.interval; work = w; bank = m.bank; stacks = m.stacks; tasks = m.tasks }

abbrev pub whole_job_first : Engine
whole_job_first =
    picking (λ cells words m k. cond (eqb m.work 0) (pick_no cells words m k) 0)
    (λ cells words m k.
    cond (eqb m.work 0) (unless_refused (pick_no cells words m k) (with_work 1 (run_from cells words m 0 work_limit).state) m) (ticked m))

-- our pick, but for a change to the state that a carried-out one hands back
abbrev pub changing : (State → State) → Engine
changing change = picking pick_no (λ cells words m k. unless_refused (pick_no cells words m k) (change (issued cells words m k)) m)

-- a work made up: 2 for each pick; or always w
abbrev pub work_doubled : Engine
work_doubled = changing ticked

abbrev pub work_shown : ℕ → Engine
work_shown w = changing (with_work w)

-- a span made up: s in slot 0, whatever was done
abbrev pub first_span : ℕ → List Task → List Task
first_span s [] = []
first_span s (t ∷ ts) =
    record { status = t.status; places = t.places; pc = t.pc; counter = t.counter; span = s; depth = t.depth; height = t.height; forks = t.forks } ∷ ts

abbrev pub with_span : ℕ → State → State
with_span s m = record { places = m.places; interval = m.interval; work = m.work; bank = m.bank; stacks = m.stacks; tasks = first_span s m.tasks }

abbrev pub span_shown : ℕ → Engine
span_shown s = changing (with_span s)

-- one ending for all jobs: where a job ends, it ends with the status s
abbrev pub first_status : Status → List Task → List Task
first_status s [] = []
first_status s (t ∷ ts) =
    record { status = s; places = t.places; pc = t.pc; counter = t.counter; span = t.span; depth = t.depth; height = t.height; forks = t.forks } ∷ ts

abbrev pub with_status : Status → State → State
with_status s m = record { places = m.places; interval = m.interval; work = m.work; bank = m.bank; stacks = m.stacks; tasks = first_status s m.tasks }

abbrev pub with_ending : Status → State → State
with_ending s m = cond (job_ended m) (with_status s m) m

abbrev pub one_ending : Status → Engine
one_ending s = changing (with_ending s)

-- ---- Runs that say spent early

-- the run says spent, with these picks and this state
abbrev pub says_spent : ℕ → State → Outcome
says_spent picks m = record { no = 0; ended = false; picks = picks; machine = record { state = m } }

-- at once, with no picks; or with the budget for its picks, and none carried out
abbrev pub spent_at_once : Runner
spent_at_once cells words m budget = says_spent 0 m

abbrev pub spent_unworked : Runner
spent_unworked cells words m budget = says_spent budget m

-- one pick short of its budget
abbrev pub spent_one_short : Runner
spent_one_short cells words m budget = outcome cells words m (budget - 1)

-- where the job has ended
abbrev pub spent_when_ended : Runner
spent_when_ended cells words m budget = let o = outcome cells words m budget in says_spent o.picks o.machine.state
