-- `four_bytes` meets its contract.
use Rattle.image.proofs.layout.four_bytes.Goals as goal
use Rattle.image.proofs.FourBytes.{four-joined}

pub returns : goal.returns
returns c = four-joined c.args.a c.args.b c.args.c c.args.d
