-- `write_report` meets its contract.
use Rattle.report.proofs.bytes.write_report.Goals as goal
use Rattle.report.proofs.ReportLaws.{report_whole}

pub returns : goal.returns
returns c = report_whole c.args.r c.args.out.now _ c.requires c.write_front.ensures
