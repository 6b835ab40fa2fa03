-- `run_accepted` meets its contract.
use Rattle.std.proofs.Common.{arith}
use Rattle.job.proofs.run_accepted.Goals as goal
use Rattle.job.proofs.Replaying.{few_words}

pub run_job-requires-2 : goal.run_job-requires-2
run_job-requires-2 c = (few_words c.args.job.now.input.bytes.now c.args.job.now.accepted, omega arith)
