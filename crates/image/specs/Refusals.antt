-- The numbers of the refusals, as document 01 and document 02 (41) give them, and an answer as a number: 0, or that of its refusal.
use Rattle.std.specs.Prelude.{ℕ, Ok, Err, Result}
use Rattle.image.specs.declared.refusal.Refusal.{Refusal}
use Rattle.image.specs.declared.refusal.Refusal.TheVariants.{Header, Mark, Version, Counts, Length, BlockStart, Annotation, Fields, LastInBlock}
use Rattle.image.specs.declared.refusal.Refusal.TheVariants.{Input, Places, Interval, Registers, Words, Buffer, Shape, Slot, Ended, NotRunning, Work, Lanes}

abbrev pub number : Refusal → ℕ
number Header = 1
number Mark = 2
number Version = 3
number Counts = 4
number Length = 5
number BlockStart = 6
number Annotation = 7
number Fields = 8
number LastInBlock = 9
number Input = 10
number Places = 11
number Interval = 12
number Registers = 13
number Words = 14
number Buffer = 15
number Shape = 20
number Slot = 21
number Ended = 22
number NotRunning = 23
number Work = 24
number Lanes = 41

abbrev pub no_of : {T : Type 0} → Result T Refusal → ℕ
no_of (Ok x) = 0
no_of (Err r) = number r
