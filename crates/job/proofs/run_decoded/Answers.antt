-- `run_decoded` meets its contract.
use Rattle.std.proofs.Common.{arith}
use Rattle.job.proofs.run_decoded.Goals as goal
use Rattle.job.proofs.PlainRun.{room_in, can_run, job_reported}

pub whole_as_slice-evaluate_job : goal.whole_as_slice-evaluate_job
whole_as_slice-evaluate_job g c = omega (arith, c.requires.2)

pub evaluate_job-requires : goal.evaluate_job-requires
evaluate_job-requires g c =
    let job = c.args.job.now in
    can_run job.input.bytes.now job.accepted job.read c.places-places.ensures c.registers-registers.ensures c.args.budget c.allowance_of-n.ensures _
    (room_in g.row.NUMBERS c.requires.1)

pub returns : goal.returns
returns g c =
    let job = c.args.job.now in
    job_reported job.input.bytes.now job.accepted job.read c.places-places.ensures c.registers-registers.ensures c.args.budget
    c.allowance_of-n.ensures c.interval-interval.ensures c.read_words.ensures c.evaluate_job.ensures
