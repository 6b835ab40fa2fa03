-- What the evaluation of a job rests on, from its bytes to its report.
use Rattle.std.specs.Prelude.{◌≡◌, true, List, ℕ, ◌*◌, ◌<◌, ◌≤◌, ℤ, pos, length, get_or}
use Rattle.std.specs.Int.{w64}
use Rattle.std.proofs.Common.{to_z}
use Rattle.image.specs.Layout.{instruction_count}
use Rattle.image.specs.Questions.{program_no}
use Rattle.task.specs.Frames.{work_limit}
use Rattle.task.specs.declared.Status.TheVariants.{Vacant, Waiting, Halted, Faulted}
use Rattle.evaluator.specs.declared.Finished.{Finished}
use Rattle.arms.specs.Registers.{Sized}
use Rattle.drive.specs.Settings.{places_allowed}

-- each of the numbers is the 64 bits of the integer in its place
pub record BitsOf (zs : List ℤ) (nums : List ℕ) : Type 0 where
  pub same_length : length nums ≡ length zs
  pub same_number : (i : ℕ) → i < length zs → to_z w64 (get_or nums i 0) ≡ get_or zs i (pos 0)

-- a label is a number of 32 bits
abbrev pub LabelsFit : List ℕ → List ℕ → Type 0
LabelsFit nums kinds = (i : ℕ) → i < 16 → get_or kinds i 0 ≡ 1 → get_or nums i 0 < 4294967296

-- what a report of an evaluation within n instructions rests on
pub record CanReport (n : ℕ) (z : Finished) (nums kinds : List ℕ) : Type 0 where
  pub sized : Sized nums kinds
  pub limited : n ≤ work_limit
  pub left_most : z.left ≤ n
  pub span_most : z.span ≤ work_limit
  pub its_fault_listed : (f : ℕ) → z.status ≡ Faulted f → (31 ≤ f) × (f ≤ 43)
  pub at_end : (z.status ≡ Vacant → ⊥) × (z.status ≡ Waiting → ⊥)
  pub labels_fit : z.status ≡ Halted → LabelsFit nums kinds

-- what the evaluation of a job within n instructions rests on, with this room for the decoded program
pub record CanRun (cells : List ℕ) (lent places n : ℕ) (registers : List ℤ) : Type 0 where
  pub accepted_program : program_no cells ≡ 0
  pub room : 4 * instruction_count cells ≤ lent
  pub its_places_allowed : places_allowed places ≡ true
  pub sixteen : length registers ≡ 16
  pub limited : n ≤ work_limit
