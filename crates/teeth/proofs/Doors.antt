-- A reader that refuses all images refuses F's, and a start that refuses all jobs refuses F.
use Prim.Native.Nat.{ℕ, zero, suc, ◌^◌}
use mathlib.Core.Path.{◌≡◌, refl}
use mathlib.Core.Logic.{inl}
use mathlib.Core.Bool.{Bool, true}
use mathlib.Core.List.Memᴰ
use mathlib.Core.List.{List, [], ◌∷◌}
use native.Mathlib.Omega.{arith}
use lib.Dec.{ltb}
use lib.ListN.{length}
use borrow.Author.Tests.{ltb-true, leb-true, eqb-true}
use Rattle.facts.proofs.Tests.{both_true}
use Rattle.int64.specs.Little.{little}
use Rattle.image.specs.Layout.{program_cells, rows, buffer, cells_in}
use Rattle.image.specs.RoundTrip.{Cells}
use Rattle.image.proofs.RoundTrip.{read_writes}
use Rattle.orders.specs.Demand.{Demand3Of}
use Rattle.orders.proofs.Plays.{job_accepted}
use Rattle.cases.specs.ProgramF.{image_f}
use Rattle.cases.specs.Table.{one_place}
use Rattle.cases.proofs.Test.{every}
use Rattle.teeth.specs.Demands.{NoGoodImageRefused, GoodJob, NoGoodJobRefused}
use Rattle.teeth.specs.Machines.{reader_refusing, start_refusing}
use Rattle.teeth.proofs.Known.{F1, f1_known, f_read}

-- ---- The reader

abbrev fits : ℕ → Bool
fits c = ltb c (2 ^ 64)

all_fit : (cells : List ℕ) → every fits cells ≡ true → Cells cells
all_fit [] h i = omega arith
all_fit (c ∷ cells) h zero = ltb-true c (2 ^ 64) (both_true (fits c) _ h).0
all_fit (c ∷ cells) h (suc i) = all_fit cells (both_true (fits c) (every fits cells) h).1 i

f-fits : every fits (cells_in image_f) ≡ true
unfolding image_f cells_in buffer rows little
f-fits = refl

pub its_reader_refusing : (n : ℕ) → (n ≡ 0 → ⊥) → NoGoodImageRefused (reader_refusing n) → ⊥
its_reader_refusing n refused none = refused (none (cells_in image_f) (all_fit (cells_in image_f) f-fits) (read_writes image_f f_read))

-- ---- Start

f-good : GoodJob F1
unfolding one_place
f-good =
    let start = job_accepted F1 f1_known.accepted in
    record {
      program_accepted = start.allowed.program;
      its_places_allowed = Memᴰ.head refl;
      its_interval_allowed = inl refl;
      sixteen_registers = start.sixteen;
      words_few = leb-true (length F1.words) 4096 start.lent.few_words;
      whole_buffer = eqb-true (length F1.cells) program_cells start.lent.whole;
    }

pub its_start_refusing : (n : ℕ) → (n ≡ 0 → ⊥) → NoGoodJobRefused (start_refusing n) → ⊥
its_start_refusing n refused none = refused (none F1 f-good)

pub accepted_jobs_only : (n : ℕ) → (n ≡ 0 → ⊥) → Demand3Of (start_refusing n)
accepted_jobs_only n refused j accepted m ks = absurd (refused accepted)
