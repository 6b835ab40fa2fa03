-- `shape` by the answers that its code collects: a law for each way through `meets_shape`.
use Prim.Native.Nat.{ℕ, ◌*◌, ◌-◌, ◌^◌, ◌≤◌, ◌<◌}
use mathlib.Core.Path.{◌≡◌, sym, ap, ap₂, ◌∙◌}
use mathlib.Core.Bool.{true, false, ◌&&◌}
use mathlib.Core.List.{List}
use native.Mathlib.Omega.{arith}
use lib.ListN.{get_or}
use borrow.Author.Tests.{lt-ltb, le-ltb}
use Rattle.image.specs.Layout.{program_of}
use Rattle.task.specs.Frames.{zero_register}
use Rattle.task.specs.Stretches.{reads}
use Rattle.shape.specs.Codes.{GradedSlots, ReachedSlots, code_of, CodedTasks, tree}
use Rattle.shape.proofs.TiledLaws.{power_small}
use Rattle.drive.specs.declared.State.{State}
use Rattle.drive.specs.Slots.{at}
use Rattle.drive.specs.Settings.{rank, interval_allowed}
use Rattle.drive.specs.Shape.{shape}
use Rattle.drive.proofs.ShapeTests.{counts_fit}
use Rattle.machine.proofs.CodedSlots.{codes_clear, codes_tiled}

module _ (cells : List ℕ) (m : State) (D : ℕ) (ranked : D ≡ rank m.places) where
  pub places_refused : 6 < D → false ≡ shape (program_of cells) m
  unfolding shape
  places_refused l = rw (← ranked, le-ltb D 7 (omega arith))

  module _ (small : D ≤ 6) where
    pub interval_refused : interval_allowed m.interval ≡ false → false ≡ shape (program_of cells) m
    unfolding shape
    interval_refused i = rw (← ranked, lt-ltb D 7 (omega arith), i)

    module _ (allowed : interval_allowed m.interval ≡ true) (grades reaches codes : List ℕ)
        (graded : GradedSlots (program_of cells) m.bank grades) (reached : ReachedSlots (program_of cells) m.stacks reaches)
        (coded : CodedTasks (program_of cells) D m.tasks grades reaches codes) where
      each : (k : ℕ) → k < 64 → get_or codes k 0 ≡ code_of (program_of cells) D (at m k)
      each k h = coded k h (reads zero_register m.bank (16 * k) 16) (reads zero_register m.stacks (32 * k) 32) (graded k h) (reached k h)

      by_codes : shape (program_of cells) m ≡ tree codes D && counts_fit m
      unfolding shape
      by_codes =
          let fits = power_small D small in
          rw (← ranked, lt-ltb D 7 (omega arith), allowed)
          (ap (λ b. b && counts_fit m)
          (ap₂ ◌&&◌ (sym (codes_tiled cells D small m codes each D 0 (omega arith) (omega arith)))
          (sym (codes_clear cells D small m codes each (64 - 2 ^ D) (2 ^ D) (omega arith)))))

      pub no-tree : tree codes D ≡ false → false ≡ shape (program_of cells) m
      no-tree t = sym (by_codes ∙ rw t)

      pub counts_decide : tree codes D ≡ true → counts_fit m ≡ shape (program_of cells) m
      counts_decide t = sym (by_codes ∙ rw t)
