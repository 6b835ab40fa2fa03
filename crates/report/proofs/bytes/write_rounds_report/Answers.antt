-- `write_rounds_report` meets its contract.
use Rattle.report.proofs.bytes.write_rounds_report.Goals as goal
use Rattle.report.proofs.ReportLaws.{rounds-whole}

pub returns : goal.returns
returns c =
    rounds-whole c.args.r c.args.rounds c.args.out.now _ _ c.requires c.write_front.ensures c.write_u64.ensures
