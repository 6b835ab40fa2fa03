-- The first frame of a job is formed: all 2 ^ D places at depth 0.
use mathlib.Core.Path.{◌≡◌, refl, ap, ◌∙◌}
use mathlib.Core.Bool.{true}
use mathlib.Core.List.{List, [], ◌∷◌}
use Prim.Native.Nat.{ℕ, zero, suc, ◌^◌}
use native.Mathlib.Omega.{arith}
use lib.Dec.{ltb}
use lib.IntN.{ℤ}
use lib.ListN.{length, get_or}
use Rattle.image.specs.Program.{Program}
use Rattle.image.specs.Layout.{program_of}
use Rattle.image.proofs.Accepted.{Accepted}
use Rattle.task.specs.Frames.{zero_register, zero_fork, no_forks, integers, start_frame}
use Rattle.task.specs.Formed.{value_fits, every, fork_fits}
use Rattle.task.proofs.EveryLaws.{every-at}
use Rattle.task.proofs.Formation.{Formed}
use Rattle.task.proofs.Stacks.{empty-fits}

integers-fit : (program : Program) (zs : List ℤ) (i : ℕ) → value_fits program (get_or (integers zs) i zero_register).value ≡ true
integers-fit program [] i = refl
integers-fit program (z ∷ zs) zero = refl
integers-fit program (z ∷ zs) (suc i) = integers-fit program zs i

pub length-integers : (zs : List ℤ) → length (integers zs) ≡ length zs
length-integers [] = refl
length-integers (z ∷ zs) = ap suc (length-integers zs)

no-forks-fit : (program : Program) → every (λ i. fork_fits program (ltb i 0) (get_or no_forks i zero_fork)) 6 0 ≡ true
unfolding every
no-forks-fit program = refl

pub start-formed : (cells : List ℕ) → Accepted cells → (D : ℕ) (zs : List ℤ) → length zs ≡ 16 → Formed (program_of cells) D D (start_frame (2 ^ D) (integers zs))
start-formed cells ok D zs full = record {
  registers_full = length-integers zs ∙ full;
  forks_full = refl;
  stack_full = refl;
  has_places = refl;
  has_depth = omega arith;
  pc_below = ok.some_instruction;
  its_status_fits = refl;
  its_forks_fit = λ i p. every-at (λ i. fork_fits (program_of cells) (ltb i 0) (get_or no_forks i zero_fork)) 6 0 (no-forks-fit (program_of cells)) i (omega arith) (omega arith);
  values_fit = integers-fit (program_of cells) zs;
  height_most = omega arith;
  its_entries_fit = empty-fits (program_of cells);
}
