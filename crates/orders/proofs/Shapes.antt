-- Every state that meets the shape test: a pick leads to one that meets it, the places of its tasks add up to P, while the job has not
-- ended it has a running task, and a running task can be picked. Start's state meets it, so every state of an order does.
use Prim.Native.Nat.{ℕ, ◌^◌}
use mathlib.Core.Path.{◌≡◌, refl, sym, ap, ◌∙◌, subst⁻¹}
use mathlib.Core.Bool.{true, cond}
use mathlib.Core.List.{List}
use native.Mathlib.Omega.{arith}
use lib.Dec.{eqb}
use lib.IntN.{ℤ}
use borrow.Author.Tests.{eqb-true}
use Rattle.facts.proofs.Tests.{clash, by-test}
use Rattle.image.specs.Layout.{program_of, version_of}
use Rattle.agreement.specs.Picks.{play}
use Rattle.agreement.proofs.PlacesLaws.{places_add_up}
use Rattle.agreement.proofs.HoldsLaws.{open_runs, ended_idle}
use Rattle.image.specs.Doors.{unless_refused}
use Rattle.image.proofs.Asked.{or_else_both}
use Rattle.task.specs.declared.Status.{Status}
use Rattle.task.specs.declared.Status.TheVariants.{Vacant, Running, Waiting, Halted, Faulted}
use Rattle.task.specs.declared.Frame.{Frame}
use Rattle.task.specs.Formed.{status_fits}
use Rattle.task.proofs.Formation.{Formed}
use Rattle.drive.specs.declared.State.{State}
use Rattle.drive.specs.Ending.{job_ended}
use Rattle.drive.specs.Settings.{rank}
use Rattle.machine.specs.Picking.{state_no, pick_no, picked}
use Rattle.drive.specs.Issue.{slot_no, issued}
use Rattle.drive.proofs.EndingLaws.{ended_is}
use Rattle.drive.proofs.Models.{model_of, forms_of, Allowed, laws_hold}
use Rattle.drive.proofs.ShapeLaws.{Fits, shape_allowed, shape-fits, fits-shape, fits-shows, pick-fits}
use Rattle.machine.proofs.PickLaws.{state_passed, picked_is, running-accepted, picked_places, picked_interval}
use Rattle.machine.proofs.StartLaws.{fresh-fits}
use Rattle.orders.specs.Demand.{Job, played}
use Rattle.orders.specs.Shapes.{held_as, Meets, EveryShape, EveryOrderMeets}
use Rattle.orders.proofs.Plays.{model_of_job, fresh_job, JobAccepted, job_accepted, started_job, play-fits, played_is}

-- ---- places

abbrev held : Frame → ℕ
held f = held_as f.task.status f.task.places

live_held : (version : ℕ) (f : Frame) (s : Status) (n : ℕ) → status_fits version f s ≡ true → held_as s n ≡ n
live_held version f Vacant n e = clash e refl
live_held version f Running n e = refl
live_held version f Waiting n e = refl
live_held version f Halted n e = refl
live_held version f (Faulted k) n e = refl

held-formed : (cells : List ℕ) (D h : ℕ) (f : Frame) → Formed (program_of cells) D h f → held f ≡ 2 ^ h
held-formed cells D h f x = live_held (version_of cells) f f.task.status f.task.places x.its_status_fits ∙ x.has_places

-- ---- a state of the shape

fits-meets : {cells : List ℕ} {interval places : ℕ} → Allowed cells interval places → (m : State) → Fits cells interval places m → Meets cells m
fits-meets allowed m x = record { sized = x.sized; shaped = fits-shape allowed m x }

-- whether a pick is carried out or refused, its state is of the same job
picked_fits : {cells : List ℕ} {interval places : ℕ} → Allowed cells interval places → (words : List ℤ) (m : State) → Fits cells interval places m
    → (k : ℕ) → Fits cells interval places (picked cells words m k)
unfolding unless_refused
picked_fits {cells} {interval} {places} allowed words m x k =
    by-test (eqb (pick_no cells words m k) 0)
    (λ t. let lent = (state_passed cells words m (or_else_both (state_no cells words m) (slot_no m k) (eqb-true (pick_no cells words m k) 0 t)).0).passed.lent in
    subst⁻¹ (Fits cells interval places) (picked_is allowed lent m k x) (pick-fits allowed words m k x))
    (λ t. subst⁻¹ (λ b. Fits cells interval places (cond b (issued cells words m k) m)) t x)

pub every-shape : EveryShape
every-shape cells words m e meets =
    let M = model_of cells words m.interval m.places in
    let K = forms_of cells (rank m.places) in
    let allowed = shape_allowed cells m e meets.shaped in
    let laws = laws_hold allowed words in
    let x = shape-fits cells m meets.sized meets.shaped in
    let t = fits-shows allowed words m x in
    let ended : job_ended m ≡ _ = ended_is cells (rank m.places) t.0 m t.1.holds in
    record {
      pick_meets = λ k. fits-meets allowed (picked cells words m k) (picked_fits allowed words m x k);
      keeps_places = picked_places cells words m;
      keeps_interval = picked_interval cells words m;
      places_add_up = places_add_up M K laws held (λ f e. ap held e) (held-formed cells (rank m.places)) m t.0 t.1;
      open_runs = λ o. let r = open_runs M K laws t.0 m t.1 (sym ended ∙ o) in (r.0, omega (arith, r.1, laws.places_power), r.2);
      ended_idle = λ o k h.
          ended_idle M K laws t.0 m t.1 (sym ended ∙ o) k (omega (arith, h, laws.places_power, laws.places_fit));
      running_pickable = λ few whole k b r w. running-accepted {words = words} allowed (record { few_words = few; whole = whole }) m k x b r w;
    }

-- ---- every state of an order

from_fresh : {j : Job} → JobAccepted j → (ks : List ℕ) → Meets j.cells (played j (fresh_job j) ks)
from_fresh {j} start ks =
    subst⁻¹ (Meets j.cells) (played_is start ks (fresh_job j) (fresh-fits start))
    (fits-meets start.allowed (play (model_of_job j) (fresh_job j) ks) (play-fits start ks (fresh_job j) (fresh-fits start)))

pub every_order_meets : EveryOrderMeets
every_order_meets j a m ks = subst⁻¹ (λ n. Meets j.cells (played j n ks)) (started_job j a m) (from_fresh (job_accepted j a) ks)
