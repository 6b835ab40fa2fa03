-- `carry_out` meets its contract.
use Rattle.std.proofs.Common.{ap, ◌∙◌}
use Rattle.job.proofs.carry_out.Goals as goal
use Rattle.orders.specs.Replay.{job_of, replayed}
use Rattle.job.proofs.Replaying.{starts, replay_agrees}

pub returns : goal.returns
returns c =
    let job = c.args.job.now in
    let made = c.replay-replayed in
    let none =
    made.ensures.value
    ∙ starts job.input.bytes.now job.accepted job.read c.places-places.ensures c.interval-interval.ensures c.registers-registers.ensures c.read_words.ensures in
    let j = job_of job.cells.now c.places-places.result c.interval-interval.result c.registers-registers.result c.read_words.new.out in
    replay_agrees job.input.bytes.now job.accepted job.read c.places-places.ensures c.interval-interval.ensures c.registers-registers.ensures
    c.read_words.ensures c.args.order.now made.result.machine.state
    (made.ensures.state_value ∙ ap (λ n. replayed n j c.args.order.now) none)
