-- The shape test of question 20: what it says of a state, and that a pick keeps it, in every state that meets it, reached or not.
use Prim.Native.Nat.{ℕ}
use mathlib.Core.Path.{◌≡◌, refl, ap, ◌∙◌}
use mathlib.Core.Bool.{true}
use mathlib.Core.List.{List}
use native.Mathlib.Omega.{arith}
use lib.IntN.{ℤ}
use lib.ListN.{get_or-eq_default}
use Rattle.facts.proofs.Tests.{both_true, true_both, by-below}
use Rattle.task.specs.Choices.{chosen}
use Rattle.image.specs.Layout.{program_of}
use Rattle.agreement.proofs.Trees.{Tree}
use Rattle.agreement.proofs.SlotLaws.{carry-keeps}
use Rattle.agreement.specs.Picks.{Model, pick}
use Rattle.agreement.proofs.PickLaws.{pick-has}
use Rattle.agreement.proofs.EveryFrame.{Framewise, pick_all}
use Rattle.agreement.proofs.Laws.{Forms}
use Rattle.agreement.proofs.Holds.{Shows}
use Rattle.agreement.specs.Shape.{Tests, shaped}
use Rattle.agreement.proofs.ShapeLaws.{TestLaws, shaped-shows, pick-shaped}
use Rattle.image.specs.Questions.{program_no}
use Rattle.task.specs.declared.Frame.{Frame}
use Rattle.task.specs.Frames.{no_task}
use Rattle.task.specs.Step.{step}
use Rattle.task.specs.Formed.{is_vacant, within}
use Rattle.task.proofs.EveryLaws.{every-at, every_from}
use Rattle.task.proofs.Formation.{formed_is, its_is_formed}
use Rattle.task.proofs.Vacancy.{vacant_is, vacant-passes}
use Rattle.task.proofs.Counts.{Within, within_is, is_within, within_more, vacant-within, step-one-within, step-two-within, join-within}
use Rattle.drive.specs.declared.State.{State}
use Rattle.drive.specs.Slots.{at, put, Sized, ticked, slots_of}
use Rattle.drive.specs.Settings.{rank, places_allowed, interval_allowed}
use Rattle.drive.specs.Shape.{shape}
use Rattle.drive.proofs.ShapeTests.{tests_of, counts_fit}
use Rattle.drive.proofs.SlotLaws.{put_tasks}
use Rattle.drive.proofs.Models.{model_of, forms_of, Allowed, laws_hold}

pub tests_hold : (cells : List ℕ) (D : ℕ) → TestLaws (slots_of (program_of cells)) (forms_of cells D) (tests_of (program_of cells) D)
tests_hold cells D = record {
  test_empty = λ m i s h t. vacant_is (at m i) t;
  empty_test = λ f e. ap is_vacant e ∙ vacant-passes;
  test_formed = λ m i h s l t. formed_is (program_of cells) D h (at m i) t;
  formed_test = its_is_formed (program_of cells) D;
}

-- counter and span at most the work: so after a pick too
within_picks : (cells : List ℕ) (words : List ℤ) (interval places : ℕ) → Framewise (model_of cells words interval places) (λ W f. Within W f.task)
within_picks cells words interval places = record {
  more = λ W f x. within_more (omega arith) x;
  of_vacant = vacant-within;
  of_one = λ W f g x r e. step-one-within (program_of cells) words (chosen interval) W f g x e;
  of_two = λ W f p c x r e. step-two-within (program_of cells) words (chosen interval) W f p c x e;
  of_join = join-within (program_of cells);
  put_all = λ W m k f i x y. put_tasks (Within W) m k f i x y;
  tick_all = λ W m i x. x;
}

-- a state of a job with this program, interval and places
pub record Fits (cells : List ℕ) (interval places : ℕ) (m : State) : Type 0 where
  pub its_places : m.places ≡ places
  pub its_interval : m.interval ≡ interval
  pub sized : Sized m
  pub tiled : shaped (slots_of (program_of cells)) (tests_of (program_of cells) (rank places)) (rank places) m ≡ true
  pub counts : (i : ℕ) → Within m.work (at m i).task

all_within : (m : State) → Sized m → counts_fit m ≡ true → (i : ℕ) → Within m.work (at m i).task
all_within m s c i =
    by-below i 64
    (λ h. within_is m.work (at m i) (every-at (λ i. within m.work (at m i)) 64 0 c i (omega arith) (omega arith)))
    (λ h. let e : (at m i).task ≡ no_task = get_or-eq_default m.tasks no_task {n = i} (omega (arith, s.of_tasks)) in
    rw e (record { counter_most = omega arith; span_most = omega arith }))

-- what the shape test says, for a program that was accepted
pub shape_allowed : (cells : List ℕ) (m : State) → program_no cells ≡ 0 → shape (program_of cells) m ≡ true → Allowed cells m.interval m.places
unfolding shape
shape_allowed cells m e t =
    let a = both_true (places_allowed m.places) _ t in
    let b = both_true (interval_allowed m.interval) _ a.1 in
    record { program = e; its_places_allowed = a.0; its_interval_allowed = b.0 }

pub shape-fits : (cells : List ℕ) (m : State) → Sized m → shape (program_of cells) m ≡ true → Fits cells m.interval m.places m
unfolding shape
shape-fits cells m s t =
    let D = rank m.places in
    let a = both_true (places_allowed m.places) _ t in
    let b = both_true (interval_allowed m.interval) _ a.1 in
    let c = both_true (shaped (slots_of (program_of cells)) (tests_of (program_of cells) D) D m) (counts_fit m) b.1 in
    record { its_places = refl; its_interval = refl; sized = s; tiled = c.0; counts = all_within m s c.1 }

module _ {cells : List ℕ} {interval places : ℕ} (allowed : Allowed cells interval places) where
  pub fits-shape : (m : State) → Fits cells interval places m → shape (program_of cells) m ≡ true
  unfolding shape
  fits-shape m x =
      let places-are : places_allowed m.places ≡ true = ap places_allowed x.its_places ∙ allowed.its_places_allowed in
      let interval-is : interval_allowed m.interval ≡ true = ap interval_allowed x.its_interval ∙ allowed.its_interval_allowed in
      let tiles = ap (λ p. shaped (slots_of (program_of cells)) (tests_of (program_of cells) (rank p)) (rank p) m) x.its_places ∙ x.tiled in
      true_both places-are
      (true_both interval-is
      (true_both tiles (every_from (λ i. within m.work (at m i)) 64 0 (λ k p q. is_within m.work (at m k) (x.counts k)))))

  module _ (words : List ℤ) where
    abbrev M : Model Frame State
    M = model_of cells words interval places

    abbrev K : Forms Frame State
    K = forms_of cells (rank places)

    abbrev tests : Tests Frame
    tests = tests_of (program_of cells) (rank places)

    pub fits-shows : (m : State) → Fits cells interval places m → (T : Tree Frame) × Shows (slots_of (program_of cells)) (forms_of cells (rank places)) m T
    fits-shows m x = shaped-shows M K (laws_hold allowed words) tests (tests_hold cells (rank places)) m x.sized x.tiled

    -- a number of the state that neither a put nor a tick changes
    pick-keeps : (of : State → ℕ) → ((m : State) (k : ℕ) (f : Frame) → of (put m k f) ≡ of m) → ((m : State) → of (ticked m) ≡ of m)
        → (m : State) (k : ℕ) → of (pick M m k) ≡ of m
    pick-keeps of put_keeps tick-keeps m k =
        pick-has M (λ n. of n ≡ of m) (λ n k c h. tick-keeps _ ∙ carry-keeps (slots_of (program_of cells)) of put_keeps (step (program_of cells) words (chosen interval)) n k ∙ h) m k refl

    -- a pick keeps the shape, with places and interval
    pub pick-fits : (m : State) (k : ℕ) → Fits cells interval places m → Fits cells interval places (pick (model_of cells words interval places) m k)
    pick-fits m k x =
        let t = pick-shaped M K (laws_hold allowed words) tests (tests_hold cells (rank places)) m k x.sized x.tiled in
        record {
          its_places = pick-keeps (λ n. n.places) (λ n k f. refl) (λ n. refl) m k ∙ x.its_places;
          its_interval = pick-keeps (λ n. n.interval) (λ n k f. refl) (λ n. refl) m k ∙ x.its_interval;
          sized = t.1;
          tiled = t.0;
          counts = pick_all M (within_picks cells words interval places) (λ n k f. refl) (λ n. refl) m k x.counts;
        }
