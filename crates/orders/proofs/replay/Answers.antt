-- `replay` meets its contract: a fresh start meets the shape test, so the loop may follow the order.
use mathlib.Core.Path.{refl, sym, ap, ◌∙◌}
use Rattle.image.specs.Refusals.{no_of}
use Rattle.image.proofs.Refusals.{refused}
use Rattle.machine.specs.Starting.{empty}
use Rattle.machine.proofs.PickLaws.{whole_length}
use Rattle.orders.specs.Demand.{Accepted}
use Rattle.orders.specs.Replay.{job_of, replayed}
use Rattle.orders.proofs.Replaying.{refused-blank, fresh-passes, replay_plays}
use Rattle.orders.proofs.Demand.{demand_3}
use Rattle.orders.proofs.replay.Goals as goal

pub returns-in-Err : goal.returns-in-Err
returns-in-Err c =
    let a = c.args in
    let j = job_of a.cells.now a.places a.interval a.registers.now a.words.now in
    let s = c.start-answer in
    let r = c.in-Err.refusal in
    let asked = sym (ap no_of c.in-Err.is) ∙ s.ensures.value in
    record {
      value = asked;
      state_value = refused-blank j c.blank.result.state s.result.machine.state a.order.now _ c.blank.ensures asked s.ensures.state_value (refused r);
      whatever_the_order = λ z. absurd (refused r z);
    }

pub drive-requires : goal.drive-requires
drive-requires c =
    let a = c.args in
    let j = job_of a.cells.now a.places a.interval a.registers.now a.words.now in
    let s = c.start-answer in
    let accepted : Accepted j = sym s.ensures.value ∙ ap no_of c.in_default.is in
    let x = fresh-passes j accepted c.blank.result.state s.ensures.state_value in
    (x.passed.program, whole_length x.passed, x.shaped, refl)

pub returns : goal.returns
returns c =
    let a = c.args in
    let j = job_of a.cells.now a.places a.interval a.registers.now a.words.now in
    let s = c.start-answer in
    let none = ap no_of c.in_default.is in
    let accepted : Accepted j = sym s.ensures.value ∙ none in
    record {
      value = s.ensures.value;
      state_value =
          c.drive.ensures.state_after ∙ replay_plays j accepted c.blank.result.state s.ensures.state_value a.order.now
          ∙ ap (λ n. replayed n j a.order.now) (sym none);
      whatever_the_order = λ z. demand_3 j accepted (empty 0 0) a.order.now;
    }
