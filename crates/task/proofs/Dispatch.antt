-- What `execute` sends on: the task that has counted its instruction, and the instruction that each opcode names.
use mathlib.Core.Path.{◌≡◌, refl, ◌∙◌}
use mathlib.Core.List.{List}
use Prim.Native.Nat.{ℕ, zero, suc, ◌<◌, ◌≤◌}
use native.Mathlib.Omega.{arith}
use lib.IntN.{ℤ}
use lib.ListN.{get_or}
use Rattle.image.specs.declared.Instruction.{Instruction}
use Rattle.image.specs.Program.{Program}
use Rattle.image.specs.Questions.{most_instructions}
use Rattle.image.proofs.Accepted.{accepted}
use Rattle.task.specs.declared.Value.{Value}
use Rattle.task.specs.declared.Fork.{Fork}
use Rattle.task.specs.declared.Active.{Active}
use Rattle.task.specs.declared.Kind.TheVariants.{Faults}
use Rattle.task.specs.declared.Executed.{Executed}
use Rattle.task.specs.Choices.{Choices}
use Rattle.task.specs.Effect.{unknown, opcodes}
use Rattle.task.specs.Execute.{Ready, counted_active, ending, answered, executed}
use Rattle.task.proofs.Opcodes.{no-opcode}

module _ (cells : List ℕ) {s v : Value} {t n : Active} (e : n ≡ counted_active t) (r : Ready cells s v t) where
  pub counted_pc : n.pc < most_instructions
  counted_pc = rw e (omega (arith, r.pc_below, (accepted cells r.accepted_program).few_instructions))

  pub counted_depth : n.depth ≤ 6
  counted_depth = rw e r.depth_most

module _ (program : Program) (words : List ℤ) (choices : Choices) (x : Instruction) (s v : Value) (t : Active) (l : List Fork) {n : Active}
    (e : n ≡ counted_active t) where
  pub sends : (m : ℕ) → x.opcode ≡ m → (r : Executed) → r ≡ answered program words choices s v n l (get_or opcodes m unknown)
      → r ≡ executed program words choices x s v t l
  unfolding executed
  sends m k r h = h ∙ rw (e, k)

  -- any other number than 1 to 17
  pub sends-nowhere : (1 ≤ x.opcode → 17 < x.opcode) → (r : Executed) → r ≡ ending Faults 8 → r ≡ executed program words choices x s v t l
  unfolding executed
  sends-nowhere h r k = k ∙ rw (other x.opcode h)
    where
      other : (m : ℕ) → (1 ≤ m → 17 < m) → get_or opcodes m unknown ≡ unknown
      other zero h = refl
      other (suc m) h = no-opcode (suc m) (h (omega arith))
