-- `ask_lent` meets its contract.
use Rattle.std.proofs.Common.{sym, ◌∙◌}
use Rattle.std.proofs.lemmas.Result.{err_from_is_err_and}
use Rattle.steps.proofs.going.ask_lent.Goals as goal
use borrow.Author.Tests.{le-leb, lt-leb}
use Rattle.image.proofs.Asked.{or_else_yes}
use Rattle.image.proofs.Refusals.{no_decides}
use Rattle.steps.proofs.LentAnswers.{when_not}

pub returns-in_err-ask_cells : goal.returns-in_err-ask_cells
returns-in_err-ask_cells c =
    let a = c.args in
    let p = err_from_is_err_and c.from_residual.result c.from_residual.ensures.1 in
    let asked = no_decides c.in_err-ask_cells.field-0.0 _ _ c.in_err-ask_cells.ensures in
    rw (p.1, p.2) (record {
      refused = sym asked
          ∙ when_not a.program.now a.words.now a.lent.now a.others _ _ c.lengths_fit-fit.ensures c.is_ready.ensures c.if-is_ready.false;
      ready = tt;
    })

pub returns-then-words-gt-MOST_WORDS-clause-refused : goal.returns-then-words-gt-MOST_WORDS-clause-refused
returns-then-words-gt-MOST_WORDS-clause-refused c =
    let a = c.args in
    sym (or_else_yes _ _ (sym c.in_ok-ask_cells.ensures) ∙ rw (lt-leb _ _ c.if-words-gt-MOST_WORDS.true))
    ∙ when_not a.program.now a.words.now a.lent.now a.others _ _ c.lengths_fit-fit.ensures c.is_ready.ensures c.if-is_ready.false

pub returns-then-not-fit-clause-refused : goal.returns-then-not-fit-clause-refused
returns-then-not-fit-clause-refused c =
    let a = c.args in
    sym (or_else_yes _ _ (sym c.in_ok-ask_cells.ensures) ∙ rw (le-leb _ _ c.if-words-gt-MOST_WORDS.false, c.if-not-fit.true))
    ∙ when_not a.program.now a.words.now a.lent.now a.others _ _ c.lengths_fit-fit.ensures c.is_ready.ensures c.if-is_ready.false

pub returns-clause-refused : goal.returns-clause-refused
returns-clause-refused c =
    let a = c.args in
    sym (or_else_yes _ _ (sym c.in_ok-ask_cells.ensures) ∙ rw (le-leb _ _ c.if-words-gt-MOST_WORDS.false, c.if-not-fit.false))
    ∙ when_not a.program.now a.words.now a.lent.now a.others _ _ c.lengths_fit-fit.ensures c.is_ready.ensures c.if-is_ready.false
