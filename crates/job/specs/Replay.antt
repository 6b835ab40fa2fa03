-- Replaying an order of picks on a job given by its bytes.
use Rattle.std.specs.Prelude.{List, ℕ, eqb}
use Rattle.image.specs.Layout.{cells_in}
use Rattle.image.specs.Questions.{ask, or_else}
use Rattle.drive.specs.declared.State.{State}
use Rattle.machine.specs.Starting.{empty}
use Rattle.orders.specs.Demand.{Job, start_on, played}
use Rattle.state.specs.State.{state_length}
use Rattle.job.specs.Job.{job_image, job_places, job_interval, job_registers, job_words, job_no}

-- what start is given
abbrev pub job_in : List ℕ → Job
job_in bytes = record {
  cells = cells_in (job_image bytes);
  places = job_places bytes;
  interval = job_interval bytes;
  registers = job_registers bytes;
  words = job_words bytes;
}

-- the job's questions, then: the state's buffer of the length docs/ names? (15)
unfoldable pub replay_no : List ℕ → ℕ → ℕ
replay_no bytes lent = or_else (job_no bytes) (ask (eqb lent state_length) 15 0)

-- the state after the order, from a start that is called on a blank one
abbrev pub replay_of : List ℕ → List ℕ → State
replay_of bytes order = played (job_in bytes) (start_on (job_in bytes) (empty 0 0)) order
