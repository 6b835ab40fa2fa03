-- In a state of the shape the job has ended just where slot 0 has a task at depth 0 that is not running.
use Prim.Native.Nat.{ℕ, zero, suc}
use mathlib.Core.Path.{◌≡◌, refl, sym, ap, ◌∙◌}
use mathlib.Core.Bool.{Bool, true, false, not, cond, ◌&&◌}
use mathlib.Core.List.{List}
use native.Mathlib.Omega.{arith}
use lib.Dec.{eqb, ltb}
use borrow.Author.Tests.{ltb-true, ne_eqb}
use Rattle.facts.proofs.Tests.{clash, both_true}
use Rattle.image.specs.Layout.{program_of}
use Rattle.agreement.proofs.Trees.{Tree, leaf, node}
use Rattle.agreement.proofs.Holds.{Holds}
use Rattle.agreement.specs.Slots.{side_ended}
use Rattle.task.specs.declared.Status.{Status}
use Rattle.task.specs.declared.Status.TheVariants.{Vacant, Running, Waiting, Halted, Faulted}
use Rattle.task.specs.declared.Frame.{Frame}
use Rattle.task.specs.Frames.{is_running}
use Rattle.task.specs.Formed.{at_rest, status_fits}
use Rattle.task.proofs.Formation.{Formed}
use Rattle.drive.specs.declared.State.{State}
use Rattle.drive.specs.Slots.{at, slots_of}
use Rattle.drive.specs.declared.End.{End}
use Rattle.drive.specs.declared.End.TheVariants.{NotEnded, Fault}
use Rattle.drive.specs.Ending.{end_at, is_end, job_ended}
use Rattle.drive.proofs.Models.{forms_of}

and-false : (a : Bool) → false ≡ a && false
and-false true = refl
and-false false = refl

end_by_fault : (a : Bool) (n : ℕ) → is_end (cond a (Fault n) NotEnded) ≡ a && true
end_by_fault true n = refl
end_by_fault false n = refl

end_test : (version : ℕ) (f : Frame) (s : Status) → status_fits version f s ≡ true → is_end (end_at f.task.depth s) ≡ eqb f.task.depth 0 && not (is_running s)
end_test version f Vacant fit = clash fit refl
end_test version f Running fit = and-false (eqb f.task.depth 0)
end_test version f Waiting fit =
    let p = both_true (ltb 0 f.task.depth) (at_rest f.task) fit in
    rw (ne_eqb f.task.depth 0 (omega (arith, ltb-true 0 f.task.depth p.0)))
end_test version f Halted fit = rw (both_true (eqb f.task.depth 0) (at_rest f.task) fit).0
end_test version f (Faulted n) fit = end_by_fault (eqb f.task.depth 0) n

module _ (cells : List ℕ) (D : ℕ) where
  -- the first slot of a stretch has a live task
  first-formed : (T : Tree Frame) (m : State) (b h : ℕ) → Holds (slots_of (program_of cells)) (forms_of cells D) m b h T → (j : ℕ) × Formed (program_of cells) D j (at m b)
  first-formed (leaf f) m b h l = (h, rw l.here l.formed)
  first-formed (node x y) m b zero l = absurd l
  first-formed (node x y) m b (suc h) l = first-formed x m b h l.0

  pub ended_is : (T : Tree Frame) (m : State) → Holds (slots_of (program_of cells)) (forms_of cells D) m 0 D T → job_ended m ≡ side_ended (slots_of (program_of cells)) m 0 0
  ended_is T m l = end_test (program_of cells).version (at m 0) (at m 0).task.status (first-formed T m 0 D l).1.its_status_fits

-- what is said of a fault's number is said of the status that has it
pub by_fault : (depth n : ℕ) (s : Status) (r : End) → r ≡ end_at depth (Faulted n) → s ≡ Faulted n → r ≡ end_at depth s
by_fault depth n s r p e = p ∙ ap (end_at depth) (sym e)
