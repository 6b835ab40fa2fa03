-- A list of slots is a sound course, and comes to the state that playing the list leads to.
use Prim.Native.Nat.{ℕ, zero, suc, ◌+◌, ◌≤◌}
use mathlib.Core.Path.{◌≡◌, refl, sym, ap, ◌∙◌}
use mathlib.Core.Bool.{false}
use mathlib.Core.List.{List, [], ◌∷◌}
use native.Mathlib.Omega.{arith}
use lib.Dec.{eqb}
use lib.ListN.{length}
use borrow.Author.Tests.{eqb-true, eqb-false}
use Rattle.facts.proofs.Tests.{by-test}
use Rattle.drive.specs.declared.State.{State}
use Rattle.drive.specs.Issue.{slot_no, issued}
use Rattle.machine.specs.Picking.{picked}
use Rattle.drive.specs.Courses.{Next, over, turn, Chooser, Run, follows}
use Rattle.drive.specs.Listing.{listed}
use Rattle.drive.proofs.CourseLaws.{stays, picks_turn}
use Rattle.drive.proofs.ListLaws.{listed-over, listed-turn, listed-skips}
use Rattle.machine.proofs.PickLaws.{Passed, state_passed, picked-issued}
use Rattle.machine.proofs.Picked.{pick-refused}
use Rattle.orders.specs.Demand.{Job, played_of, played}
use Rattle.orders.specs.Shapes.{Meets}
use Rattle.orders.specs.Runs.{course, ListedSound, ListIsPlayed}
use Rattle.orders.proofs.Courses.{state_meets, slot_is_pick, pick-accepted, issued-meets, no-turn}

-- ---- its turns

turn_pickable : (m : State) (ks : List ℕ) (k : ℕ) (ls : List ℕ) → listed m ks ≡ turn k ls → slot_no m k ≡ 0
turn_pickable m [] k ls e = no-turn (sym (listed-over m) ∙ e)
turn_pickable m (i ∷ is) k ls e = by-test (eqb (slot_no m i) 0)
    (λ t. let z : turn i is ≡ turn k ls = sym (listed-turn m i is t) ∙ e in
    let same : i ≡ k = cc in
    ap (slot_no m) (sym same) ∙ eqb-true (slot_no m i) 0 t)
    (λ t. turn_pickable m is k ls (sym (listed-skips m i is t) ∙ e))

pub listed-sound : ListedSound
listed-sound cells = record { turn_pickable = λ program m x ks k ls e. turn_pickable m ks k ls e }

-- ---- its state

-- a run that has come to the state m after so many picks, with c kept
abbrev pub reached : {C : Type 0} → State → ℕ → C → Run C
reached m picks c = record { state = m; kept = c; picks = picks }

same_state : {C : Type 0} {r s : Run C} → r ≡ s → r.state ≡ s.state
same_state {C} e = ap (λ (t : Run C). t.state) e

-- where its chooser would answer the same with d kept, it comes to the same state with d kept
same_answer : {C : Type 0} (j : Job) (next : Chooser C) (m : State) (picks : ℕ) (c d : C) → next m c ≡ next m d
    → (n : ℕ) → (course j next n (reached m picks c)).state ≡ (course j next n (reached m picks d)).state
unfolding follows
same_answer j next m picks c d e zero = refl
same_answer {C} j next m picks c d e (suc n) = by (next m d) refl
  where
    by : (x : Next C) → next m d ≡ x → (course j next (suc n) (reached m picks c)).state ≡ (course j next (suc n) (reached m picks d)).state
    by over f =
        same_state (stays j.cells j.words next (suc n) (reached m picks c) (e ∙ f))
        ∙ sym (same_state (stays j.cells j.words next (suc n) (reached m picks d) f))
    by (turn k g) f =
        same_state (picks_turn j.cells j.words next n (reached m picks c) k g (e ∙ f))
        ∙ sym (same_state (picks_turn j.cells j.words next n (reached m picks d) k g f))

module _ (j : Job) (passed : Passed j.cells j.words) where
  open j use {cells, words}

  skipped : (m : State) → Meets cells m → (k : ℕ) → eqb (slot_no m k) 0 ≡ false → m ≡ picked cells words m k
  skipped m x k t = pick-refused cells words m k (slot_no m k) (sym (slot_is_pick passed m x k)) (eqb-false (slot_no m k) 0 t)

  -- with any budget that is enough for the list
  pub list_played : (ks : List ℕ) (n picks : ℕ) (m : State) → Meets cells m → length ks ≤ n
      → (course j listed n (reached m picks ks)).state ≡ played j m ks
  unfolding played_of
  list_played [] n picks m x enough = same_state (stays cells words listed n (reached m picks []) (listed-over m))
  list_played (k ∷ ks) zero picks m x enough = absurd (omega arith)
  list_played (k ∷ ks) (suc n) picks m x enough = by-test (eqb (slot_no m k) 0)
      (λ t. let can = eqb-true (slot_no m k) 0 t in
      same_state (picks_turn cells words listed n (reached m picks (k ∷ ks)) k ks (listed-turn m k ks t))
      ∙ list_played ks n (picks + 1) (issued cells words m k) (issued-meets passed m x k can) (omega arith)
      ∙ ap (λ (i : State). played j i ks) (sym (picked-issued cells words m k (pick-accepted passed m x k can))))
      (λ t. same_answer j listed m picks (k ∷ ks) ks (listed-skips m k ks t) (suc n)
      ∙ list_played ks (suc n) picks m x (omega arith)
      ∙ ap (λ (i : State). played j i ks) (skipped m x k t))

pub list_is_played : ListIsPlayed
list_is_played j m sized e ks =
    list_played j (state_passed j.cells j.words m e).passed ks (length ks) 0 m (state_meets j.cells j.words m sized e) (omega arith)
