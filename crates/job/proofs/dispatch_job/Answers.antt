-- `dispatch_job` meets its contract.
use Rattle.std.proofs.Common.{sym, ap, ◌∙◌, arith}
use Rattle.job.proofs.dispatch_job.Goals as goal
use Rattle.image.proofs.Refusals.{number_positive}
use Rattle.machine.specs.Dispatched.{Dispatched}
use Rattle.machine.specs.Dispatching.{dispatched_of}
use Rattle.report.specs.Report.{report_of}
use Rattle.job.proofs.Running.{interval_small, rounds_agree}

pub overflow_cast-interval : goal.overflow_cast-interval
overflow_cast-interval c =
    record { fits = omega (arith, c.interval-interval.ensures, interval_small c.args.job.now.input.bytes.now c.args.job.now.accepted) }

pub unreachable-requires : goal.unreachable-requires
unreachable-requires c =
    let a = c.args in
    let came = rounds_agree a.job.now.input.bytes.now a.job.now.accepted a.job.now.read c.places-places.ensures c.interval-interval.ensures
    c.registers-registers.ensures c.fresh_state-state.ensures c.read_words.ensures a.lanes a.rounds c.requires.1 in
    let m = c.dispatch-answer.result.machine in
    let none = ap (λ (o : Dispatched). o.no) (ap (dispatched_of m) (sym c.in_default.is) ∙ c.dispatch-answer.ensures ∙ came) in
    omega (arith, number_positive c.in_default.field-0, none)

pub returns : goal.returns
returns c =
    let a = c.args in
    let came = rounds_agree a.job.now.input.bytes.now a.job.now.accepted a.job.now.read c.places-places.ensures c.interval-interval.ensures
    c.registers-registers.ensures c.fresh_state-state.ensures c.read_words.ensures a.lanes a.rounds c.requires.1 in
    let all = ap (dispatched_of c.dispatch-answer.result.machine) (sym c.in-Ok.is) ∙ c.dispatch-answer.ensures ∙ came in
    let machine = ap (λ (o : Dispatched). o.machine) all in
    let picks = ap (λ (o : Dispatched). o.picks) all in
    (c.report_of.ensures ∙ (λ i. report_of (machine i).state (picks i)), ap (λ (o : Dispatched). o.rounds) all)
