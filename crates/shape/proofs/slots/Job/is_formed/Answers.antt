-- `Job::is_formed` meets its contract.
use Rattle.std.proofs.Common.{true, false, sym, ◌∙◌, arith}
use Rattle.facts.proofs.Tests.{clash}
use Rattle.image.specs.Layout.{program_of}
use Rattle.shape.specs.Codes.{framed}
use Rattle.shape.proofs.SlotWise.{formed-by-forks, status_told, unformed}
use Rattle.shape.proofs.slots.Job.is_formed.Goals as goal

pub returns-then-t-power : goal.returns-then-t-power
returns-then-t-power c = λ registers stack g k.
    let a = c.args in
    let j = a.self.now in
    let s = a.slot.now in
    sym (unformed (program_of j.cells.now) j.rank a.h (framed s.task registers stack) (λ x. c.if-t-power.true (x.has_places ∙ sym c.power.ensures)))

pub returns-then-t-h : goal.returns-then-t-h
returns-then-t-h c = λ registers stack g k.
    let a = c.args in
    let j = a.self.now in
    let s = a.slot.now in
    sym (unformed (program_of j.cells.now) j.rank a.h (framed s.task registers stack) (λ x. c.if-t-h.true x.has_depth))

pub returns-then-instruction_count-from : goal.returns-then-instruction_count-from
returns-then-instruction_count-from c = λ registers stack g k.
    let a = c.args in
    let j = a.self.now in
    let s = a.slot.now in
    sym (unformed (program_of j.cells.now) j.rank a.h (framed s.task registers stack)
    (λ x. omega (arith, x.pc_below, c.if-instruction_count-from.true, c.instruction_count.ensures, c.from.ensures)))

pub returns-then-not-status_fits : goal.returns-then-not-status_fits
returns-then-not-status_fits c = λ registers stack g k.
    let a = c.args in
    let j = a.self.now in
    let s = a.slot.now in
    let f = framed s.task registers stack in
    sym (unformed (program_of j.cells.now) j.rank a.h f
    (λ x. clash x.its_status_fits
    (status_told (program_of j.cells.now) j.version f c.status_fits.result false j.versioned (c.status_fits.ensures registers stack g.all_zero) c.if-not-status_fits.true)))

pub returns-then-not-forks_fit : goal.returns-then-not-forks_fit
returns-then-not-forks_fit c = λ registers stack g k.
    let a = c.args in
    let j = a.self.now in
    let s = a.slot.now in
    let f = framed s.task registers stack in
    sym (formed-by-forks (program_of j.cells.now) s.task registers stack s.grade s.reach g k c.forks_fit.ensures.1 j.rank a.h
    (c.if-t-power.false ∙ c.power.ensures)
    c.if-t-h.false
    (omega (arith, c.if-instruction_count-from.false, c.instruction_count.ensures, c.from.ensures))
    (status_told (program_of j.cells.now) j.version f c.status_fits.result true j.versioned (c.status_fits.ensures registers stack g.all_zero) c.if-not-status_fits.false)
    false (sym c.forks_fit.ensures.0 ∙ c.if-not-forks_fit.true))

pub returns : goal.returns
returns c = λ registers stack g k.
    let a = c.args in
    let j = a.self.now in
    let s = a.slot.now in
    let f = framed s.task registers stack in
    c.values_fit.ensures ∙ sym (formed-by-forks (program_of j.cells.now) s.task registers stack s.grade s.reach g k c.forks_fit.ensures.1 j.rank a.h
    (c.if-t-power.false ∙ c.power.ensures)
    c.if-t-h.false
    (omega (arith, c.if-instruction_count-from.false, c.instruction_count.ensures, c.from.ensures))
    (status_told (program_of j.cells.now) j.version f c.status_fits.result true j.versioned (c.status_fits.ensures registers stack g.all_zero) c.if-not-status_fits.false)
    true (sym c.forks_fit.ensures.0 ∙ c.if-not-forks_fit.false))
