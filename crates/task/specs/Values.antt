-- Values: a signed 64-bit integer, a label (a block number) or a join record.
use Rattle.std.specs.Prelude.{Bool, true, false, pos}
use Rattle.task.specs.declared.Value.{Value}
use Rattle.task.specs.declared.Value.TheVariants.{Int, Label, Record}
use Rattle.task.specs.declared.Fork.{Fork}
use Rattle.task.specs.Frames.{zero_fork}

-- a record is the continuation block and a depth, 0 where a value is none. Records with the same two numbers are the same
abbrev pub record_of : Value → Fork
record_of (Int z) = zero_fork
record_of (Label b) = zero_fork
record_of (Record c d) = record { continuation = c; depth = d }

-- comparisons give 0 when true, 1 when false
abbrev pub truth : Bool → Value
truth true = Int (pos 0)
truth false = Int (pos 1)
