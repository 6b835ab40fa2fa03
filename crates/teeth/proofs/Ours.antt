-- Our reader, start, pick and run meet the demands.
use Prim.Native.Nat.{ℕ, ◌≤◌}
use mathlib.Core.Path.{◌≡◌, refl, ◌∙◌}
use mathlib.Core.Logic.{◌⊎◌, inl, inr}
use mathlib.Core.Bool.{Bool, true, false, ◌||◌}
use mathlib.Core.List.{List, [], ◌∷◌, Memᴰ}
use lib.Dec.{eqb}
use lib.ListN.{length}
use borrow.Author.Tests.{eq-eqb, ne_eqb, le-leb}
use Rattle.image.specs.Layout.{program_cells}
use Rattle.image.specs.Questions.{program_no}
use Rattle.image.specs.Doors.{unless_refused, image_no}
use Rattle.image.proofs.Asked.{or_else_yes}
use Rattle.image.proofs.RoundTrip.{round_trip}
use Rattle.drive.specs.declared.State.{State}
use Rattle.drive.specs.Settings.{rank, places_allowed, interval_allowed}
use Rattle.machine.specs.Starting.{start_no_by}
use Rattle.machine.specs.Picking.{pick_no}
use Rattle.drive.specs.Passes.{run_from}
use Rattle.machine.specs.Running.{outcome}
use Rattle.machine.proofs.PickLaws.{picked-issued}
use Rattle.orders.specs.Demand.{Job, Accepted, start_on, played, ours}
use Rattle.orders.specs.Runs.{IsRun}
use Rattle.orders.proofs.Demand.{demand_3}
use Rattle.orders.proofs.Shapes.{every_order_meets}
use Rattle.orders.proofs.Runs.{order_passes, answers, run_is_order, every-run}
use Rattle.teeth.specs.Demands.{NoGoodImageRefused, NoGoodJobRefused, EachPickIssues, SpentWhenDue}
use Rattle.teeth.specs.Teeth.{Ours}

-- ---- The doors

pub no_good_image_refused : NoGoodImageRefused image_no
no_good_image_refused cells fit writes = (round_trip.read_again cells fit writes).0

allowed_places : {p : ℕ} → Memᴰ p (1 ∷ 2 ∷ 4 ∷ 8 ∷ 16 ∷ 32 ∷ 64 ∷ []) → places_allowed p ≡ true
unfolding rank
allowed_places (Memᴰ.head e) = rw e
allowed_places (Memᴰ.tail (Memᴰ.head e)) = rw e
allowed_places (Memᴰ.tail (Memᴰ.tail (Memᴰ.head e))) = rw e
allowed_places (Memᴰ.tail (Memᴰ.tail (Memᴰ.tail (Memᴰ.head e)))) = rw e
allowed_places (Memᴰ.tail (Memᴰ.tail (Memᴰ.tail (Memᴰ.tail (Memᴰ.head e))))) = rw e
allowed_places (Memᴰ.tail (Memᴰ.tail (Memᴰ.tail (Memᴰ.tail (Memᴰ.tail (Memᴰ.head e)))))) = rw e
allowed_places (Memᴰ.tail (Memᴰ.tail (Memᴰ.tail (Memᴰ.tail (Memᴰ.tail (Memᴰ.tail (Memᴰ.head e))))))) = rw e
allowed_places (Memᴰ.tail (Memᴰ.tail (Memᴰ.tail (Memᴰ.tail (Memᴰ.tail (Memᴰ.tail (Memᴰ.tail h))))))) = elim h [ ]

or_true : (a : Bool) → a || true ≡ true
or_true true = refl
or_true false = refl

allowed_interval : {i : ℕ} → (i ≡ 0) ⊎ ((8 ≤ i) × (i ≤ 65535)) → interval_allowed i ≡ true
allowed_interval (inl e) = rw e
allowed_interval {i} (inr h) = rw (le-leb 8 i h.0, le-leb i 65535 h.1) (or_true (eqb i 0))

pub no_good_job_refused : NoGoodJobRefused ours
unfolding start_no_by
no_good_job_refused j g =
    let places = allowed_places g.its_places_allowed in
    let interval = allowed_interval g.its_interval_allowed in
    let registers = eq-eqb (length j.registers) 16 g.sixteen_registers in
    let words = le-leb (length j.words) 4096 g.words_few in
    let cells = eq-eqb (length j.cells) program_cells g.whole_buffer in
    or_else_yes (program_no j.cells) _ g.program_accepted ∙ rw (places, interval, registers, words, cells)

-- ---- Picks

pub each_pick_issues : EachPickIssues ours
unfolding unless_refused
each_pick_issues cells words m k = record {
  one_instruction = picked-issued cells words m k;
  old_state = λ refused. rw (ne_eqb (pick_no cells words m k) 0 refused);
}

-- ---- Runs

-- a run after an order
pub run_of : (j : Job) → Accepted j → (m : State) (ks : List ℕ) (b : ℕ)
    → IsRun j (played j (start_on j m) ks) b (run_from j.cells j.words (played j (start_on j m) ks) 0 b)
run_of j a m ks b = run_is_order j (played j (start_on j m) ks) (every_order_meets j a m ks).sized (order_passes j a m ks) 0 b

pub spent_when_due : SpentWhenDue outcome
spent_when_due j a m ks b =
    let here = played j (start_on j m) ks in
    let o = run_of j a m ks b in
    rw (answers j here b (order_passes j a m ks)) (record {
      an_order = rw (answers j here b (order_passes j a m ks)) at (every-run j a m ks b);
      its_within_budget = o.is_order.its_within_budget;
      spent_when = o.spent_when;
    })

pub our_machine : Ours
our_machine = record {
  whatever_the_order = demand_3;
  each_pick_issues = each_pick_issues;
  no_good_job_refused = no_good_job_refused;
  no_good_image_refused = no_good_image_refused;
  spent_when_due = spent_when_due;
}
