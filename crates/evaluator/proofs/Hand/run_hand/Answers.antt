-- `run_hand` meets its contract.
use Rattle.evaluator.proofs.ActLaws.{run_leads}
use Rattle.evaluator.proofs.Hand.run_hand.Goals as goal

pub returns-clause-leads_to : goal.returns-clause-leads_to
returns-clause-leads_to c =
    let code = c.args.code.now in
    let t = c.run_on-ran in
    λ p. run_leads code.program.cells.now code.words.now code.interval c.args.self c.args.rows.now p c.requires.1 t.result t.new.registers t.new.pile t.ensures.sized
    t.ensures.runs_until
