-- The table of doors, and the one statement about all of it. `proofs/Doors.antt` proves it.
use mathlib.Core.List.{List, ◌++◌, Memᴰ}
use Rattle.doors.specs.Doors.{Row, Right}
use Rattle.doors.specs.Images.{image_rows}
use Rattle.doors.specs.Programs.{program_rows}
use Rattle.doors.specs.Starts.{start_rows}
use Rattle.doors.specs.Picks.{pick_rows}
use Rattle.doors.specs.Lanes.{lane_rows, round_rows}
use Rattle.doors.specs.Jobs.{job_rows}
use Rattle.doors.specs.Bytes.{byte_rows}
use Rattle.doors.specs.Faults.{fault_rows}
use Rattle.doors.specs.Texts.{text_rows}

unfoldable pub doors : List Row
doors = image_rows ++ (program_rows ++ (start_rows ++ (pick_rows ++ (job_rows ++ (byte_rows ++ (fault_rows ++ (lane_rows ++ (round_rows ++ text_rows))))))))

abbrev pub EveryDoor : Type 0
EveryDoor = (x : Row) → Memᴰ x doors → Right x
