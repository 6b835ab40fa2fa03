-- `Job::is_vacant` meets its contract.
use Rattle.std.proofs.Common.{true, false, sym, ◌∙◌}
use Rattle.facts.proofs.Tests.{clash}
use Rattle.image.specs.Layout.{program_of}
use Rattle.task.specs.declared.Frame.{Frame}
use Rattle.task.specs.Formed.{at_rest, is_vacant_status}
use Rattle.shape.specs.Codes.{framed}
use Rattle.shape.proofs.SlotWise.{vacant-by-forks, not-vacant}
use Rattle.shape.proofs.slots.Job.is_vacant.Goals as goal

pub returns-then-not-is_vacant_status : goal.returns-then-not-is_vacant_status
returns-then-not-is_vacant_status c = λ registers stack g k.
    sym (not-vacant (λ (f : Frame). is_vacant_status f.task.status) (framed c.args.slot.now.task registers stack)
    (λ e. clash e (sym c.is_vacant_status.ensures ∙ c.if-not-is_vacant_status.true)))

pub returns-then-t-ne0 : goal.returns-then-t-ne0
returns-then-t-ne0 c = λ registers stack g k. sym (not-vacant (λ (f : Frame). f.task.places) (framed c.args.slot.now.task registers stack) c.if-t-ne0.true)

pub returns-then-t-ne0-2 : goal.returns-then-t-ne0-2
returns-then-t-ne0-2 c = λ registers stack g k. sym (not-vacant (λ (f : Frame). f.task.span) (framed c.args.slot.now.task registers stack) c.if-t-ne0-2.true)

pub returns-then-t-ne0-3 : goal.returns-then-t-ne0-3
returns-then-t-ne0-3 c = λ registers stack g k. sym (not-vacant (λ (f : Frame). f.task.depth) (framed c.args.slot.now.task registers stack) c.if-t-ne0-3.true)

pub returns-then-not-is_at_rest : goal.returns-then-not-is_at_rest
returns-then-not-is_at_rest c = λ registers stack g k.
    sym (not-vacant (λ (f : Frame). at_rest f.task) (framed c.args.slot.now.task registers stack)
    (λ e. clash e (sym c.is_at_rest.ensures ∙ c.if-not-is_at_rest.true)))

pub returns-then-not-forks_fit : goal.returns-then-not-forks_fit
returns-then-not-forks_fit c = λ registers stack g k.
    let a = c.args in
    let j = a.self.now in
    let s = a.slot.now in
    sym (vacant-by-forks (program_of j.cells.now) s.task registers stack s.grade s.reach g k c.forks_fit.ensures.1
    (sym c.is_vacant_status.ensures ∙ c.if-not-is_vacant_status.false)
    c.if-t-ne0.false
    c.if-t-ne0-2.false
    c.if-t-ne0-3.false
    (sym c.is_at_rest.ensures ∙ c.if-not-is_at_rest.false)
    false (sym c.forks_fit.ensures.0 ∙ c.if-not-forks_fit.true))

pub returns : goal.returns
returns c = λ registers stack g k.
    let a = c.args in
    let j = a.self.now in
    let s = a.slot.now in
    c.is_blank.ensures ∙ sym (vacant-by-forks (program_of j.cells.now) s.task registers stack s.grade s.reach g k c.forks_fit.ensures.1
    (sym c.is_vacant_status.ensures ∙ c.if-not-is_vacant_status.false)
    c.if-t-ne0.false
    c.if-t-ne0-2.false
    c.if-t-ne0-3.false
    (sym c.is_at_rest.ensures ∙ c.if-not-is_at_rest.false)
    true (sym c.forks_fit.ensures.0 ∙ c.if-not-forks_fit.false))
