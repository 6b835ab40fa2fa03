-- A start that was not refused: its answers, and its state, which has one task and meets the shape test.
use Prim.Native.Nat.{ℕ, zero, suc, ◌*◌, ◌<◌}
use mathlib.Core.Path.{◌≡◌, refl, ◌∙◌, subst⁻¹}
use mathlib.Core.List.{List}
use native.Mathlib.Omega.{arith}
use lib.Dec.{eqb, leb}
use lib.IntN.{ℤ}
use lib.ListN.{length, get_or, replicate, length-replicate, get_or-replicate}
use borrow.Author.Tests.{eqb-true}
use Rattle.agreement.proofs.Trees.{leaf}
use Rattle.agreement.proofs.Holds.{Shows}
use Rattle.agreement.proofs.HoldsLaws.{lone-shows}
use Rattle.agreement.proofs.ShapeLaws.{shows-shaped}
use Rattle.image.specs.Layout.{program_cells, program_of}
use Rattle.image.specs.Questions.{program_no}
use Rattle.image.specs.Doors.{unless_refused}
use Rattle.image.proofs.Asked.{ask_yes, or_else_both}
use Rattle.image.proofs.Accepted.{accepted}
use Rattle.task.specs.Frames.{zero_register, zeros, empty_stack, vacant_task, vacant, no_task, integers, start_frame}
use Rattle.task.proofs.Facts.{constant_at}
use Rattle.task.proofs.Formation.{Formed}
use Rattle.task.proofs.Start.{length-integers, start-formed}
use Rattle.task.proofs.Counts.{Within, vacant-within, start-within}
use Rattle.task.specs.Stretches.{reads}
use Rattle.drive.specs.declared.State.{State}
use Rattle.drive.specs.Slots.{at, Sized, slots_of}
use Rattle.drive.specs.Settings.{rank, places_allowed, interval_allowed}
use Rattle.machine.specs.Starting.{start_no, start_no_by, empty, fresh, started}
use Rattle.drive.proofs.ShapeTests.{tests_of}
use Rattle.drive.proofs.SlotLaws.{put_sized, put_same, put_other, put_tasks}
use Rattle.drive.proofs.RankLaws.{rank_power}
use Rattle.drive.proofs.Models.{model_of, forms_of, Allowed, laws_hold}
use Rattle.drive.proofs.ShapeLaws.{tests_hold, Fits}
use Rattle.machine.proofs.PickLaws.{Lent}

-- no question was answered with no
pub record StartAccepted (cells : List ℕ) (places interval : ℕ) (registers words : List ℤ) : Type 0 where
  pub allowed : Allowed cells interval places
  pub sixteen : length registers ≡ 16
  pub lent : Lent cells words

pub start_accepted : (cells : List ℕ) (places interval : ℕ) (registers words : List ℤ) → start_no cells places interval registers words ≡ 0
    → StartAccepted cells places interval registers words
unfolding start_no_by
start_accepted cells places interval registers words e =
    let p = or_else_both (program_no cells) _ e in
    let a = ask_yes (places_allowed places) 11 _ tt p.1 in
    let b = ask_yes (interval_allowed interval) 12 _ tt a.1 in
    let c = ask_yes (eqb (length registers) 16) 13 _ tt b.1 in
    let d = ask_yes (leb (length words) 4096) 14 _ tt c.1 in
    let f = ask_yes (eqb (length cells) program_cells) 15 0 tt d.1 in
    record {
      allowed = record { program = p.0; its_places_allowed = a.0; its_interval_allowed = b.0 };
      sixteen = eqb-true (length registers) 16 c.0;
      lent = record { few_words = d.0; whole = f.0 };
    }

pub started-fresh : (m : State) (cells : List ℕ) (places interval : ℕ) (registers words : List ℤ) → start_no cells places interval registers words ≡ 0
    → started m cells places interval registers words ≡ fresh places interval registers
unfolding unless_refused
started-fresh m cells places interval registers words e = rw e

-- ---- the state with no task

reads_constant : {A : Type 0} (d : A) (n b k : ℕ) → reads d (replicate n d) b k ≡ replicate k d
unfolding reads
reads_constant d n b zero = refl
reads_constant d n b (suc k) = rw (constant_at n b d, reads_constant d n (suc b) k)

empty_sized : (places interval : ℕ) → Sized (empty places interval)
empty_sized places interval = record { of_bank = length-replicate 1024 zero_register; of_stacks = length-replicate 2048 zero_register; of_tasks = length-replicate 64 vacant_task }

empty-at : (places interval i : ℕ) → i < 64 → at (empty places interval) i ≡ vacant
empty-at places interval i h =
    let t : get_or (replicate 64 vacant_task) i no_task ≡ vacant_task = get_or-replicate 64 i vacant_task no_task h in
    let r : reads zero_register (replicate 1024 zero_register) (16 * i) 16 ≡ zeros = reads_constant zero_register 1024 (16 * i) 16 in
    let s : reads zero_register (replicate 2048 zero_register) (32 * i) 32 ≡ empty_stack = reads_constant zero_register 2048 (32 * i) 32 in
    λ j. record { task = t j; registers = r j; stack = s j }

empty-within : (n i : ℕ) → Within 0 (get_or (replicate n vacant_task) i no_task)
empty-within zero i = record { counter_most = omega arith; span_most = omega arith }
empty-within (suc n) zero = vacant-within 0
empty-within (suc n) (suc i) = empty-within n i

-- ---- the state of a start

module _ (places interval : ℕ) (registers : List ℤ) where
  pub fresh_sized : Sized (fresh places interval registers)
  unfolding fresh
  fresh_sized = put_sized (empty places interval) 0 (start_frame places (integers registers)) (empty_sized places interval)

  pub fresh_work : (fresh places interval registers).work ≡ 0
  unfolding fresh
  fresh_work = refl

  pub fresh-first : length registers ≡ 16 → at (fresh places interval registers) 0 ≡ start_frame places (integers registers)
  unfolding fresh
  fresh-first n =
      put_same (empty places interval) 0 (start_frame places (integers registers)) (empty_sized places interval)
      (length-integers registers ∙ n, refl) (omega arith)

  pub fresh-others : (i : ℕ) → 0 < i → i < 64 → at (fresh places interval registers) i ≡ vacant
  unfolding fresh
  fresh-others i h l =
      put_other (empty places interval) 0 (start_frame places (integers registers)) i (omega arith) ∙ empty-at places interval i l

  fresh_places : (fresh places interval registers).places ≡ places
  unfolding fresh
  fresh_places = refl

  fresh_interval : (fresh places interval registers).interval ≡ interval
  unfolding fresh
  fresh_interval = refl

  fresh-counts : (i : ℕ) → Within (fresh places interval registers).work (at (fresh places interval registers) i).task
  unfolding fresh
  fresh-counts i =
      put_tasks (Within 0) (empty places interval) 0 (start_frame places (integers registers)) i
      (start-within 0 places (integers registers)) (empty-within 64 i)

module _ {cells : List ℕ} {places interval : ℕ} {registers words : List ℤ} (start : StartAccepted cells places interval registers words) where
  -- its one task has all places
  pub fresh-shows : Shows (slots_of (program_of cells)) (forms_of cells (rank places)) (fresh places interval registers) (leaf (start_frame places (integers registers)))
  fresh-shows =
      let D = rank places in
      let allowed = start.allowed in
      let formed : Formed (program_of cells) D D (start_frame places (integers registers)) =
      subst⁻¹ (λ p. Formed (program_of cells) D D (start_frame p (integers registers))) (rank_power places allowed.its_places_allowed)
      (start-formed cells (accepted cells allowed.program) D registers start.sixteen) in
      lone-shows (model_of cells words interval places) (forms_of cells D) (laws_hold allowed words) (fresh places interval registers)
      (start_frame places (integers registers)) (fresh-first places interval registers start.sixteen) formed
      (fresh-others places interval registers) (fresh_sized places interval registers)

  pub fresh-fits : Fits cells interval places (fresh places interval registers)
  fresh-fits =
      let D = rank places in
      record {
        its_places = fresh_places places interval registers;
        its_interval = fresh_interval places interval registers;
        sized = fresh_sized places interval registers;
        tiled = shows-shaped (model_of cells words interval places) (forms_of cells D) (laws_hold start.allowed words) (tests_of (program_of cells) D)
            (tests_hold cells D) (fresh places interval registers) (leaf (start_frame places (integers registers))) fresh-shows;
        counts = fresh-counts places interval registers;
      }
