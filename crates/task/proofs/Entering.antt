-- Values that fit the program name its blocks; and an if-jump of 0 is a jump.
use mathlib.Core.Path.{◌≡◌, sym, ap, ◌∙◌}
use mathlib.Core.Bool.{true}
use mathlib.Core.List.{List}
use Prim.Native.Nat.{ℕ, ◌<◌}
use lib.IntN.{ℤ}
use mir.Syntax.{w64}
use mir.Val.{SFits, to_z, of_z}
use mir.ValLaws.{to_z-of_z}
use borrow.Author.Tests.{ltb-true}
use Rattle.image.specs.Layout.{block_count, program_of}
use Rattle.task.specs.declared.Value.{Value}
use Rattle.task.specs.declared.Value.TheVariants.{Int, Label, Record}
use Rattle.task.specs.declared.Fork.{Fork}
use Rattle.task.specs.declared.Active.{Active}
use Rattle.task.specs.Choices.{chosen}
use Rattle.task.specs.Effect.{asked, if_jump, jump}
use Rattle.task.specs.Formed.{value_fits}
use Rattle.task.specs.Execute.{answered}
use Rattle.task.proofs.Formation.{target_below}

-- ---- values that fit the program

pub label-fits : (cells : List ℕ) {v : Value} {b : ℕ} → v ≡ Label b → value_fits (program_of cells) v ≡ true → b < block_count cells
label-fits cells {b} p h = ltb-true b (block_count cells) (rw p at h)

pub continuation-fits : (cells : List ℕ) {v : Value} {b d : ℕ} → v ≡ Record b d → value_fits (program_of cells) v ≡ true → b < block_count cells
continuation-fits cells {b} p h = target_below (program_of cells) b (rw p at h)

-- ---- if-jump

module _ (cells : List ℕ) (words : List ℤ) (interval : ℕ) (v : Value) (t : Active) (opened : List Fork) where
  pub takes_branch : (s : Value) {a : ℤ} → s ≡ Int a → SFits w64 a → of_z w64 a ≡ 0
      → answered (program_of cells) words (chosen interval) s v t opened jump ≡ answered (program_of cells) words (chosen interval) s v t opened if_jump
  unfolding asked
  takes_branch s {a} p f e = rw (p, sym (to_z-of_z w64 a f) ∙ ap (to_z w64) e)
