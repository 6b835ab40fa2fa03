-- Where the plain evaluation ends within the limit there is a complete order. Any two complete orders of a job end in the same state,
-- whole, and carry out the same number of picks in every slot.
use Prim.Native.Nat.{ℕ, zero, suc, ◌+◌, ◌-◌}
use mathlib.Core.Path.{◌≡◌, sym, ap, ◌∙◌, subst⁻¹}
use mathlib.Core.Bool.{true}
use mathlib.Core.List.{List, [], ◌∷◌, ◌++◌}
use native.Mathlib.Omega.{arith}
use Rattle.agreement.proofs.Trees.{leaf}
use Rattle.agreement.specs.Picks.{Model, only_at, play}
use Rattle.agreement.specs.Picks as model
use Rattle.agreement.proofs.CompleteLaws.{same_picks, same_work, same_slots}
use Rattle.task.specs.declared.Frame.{Frame}
use Rattle.task.specs.Frames.{integers, start_frame}
use Rattle.drive.specs.declared.State.{State}
use Rattle.drive.specs.Ending.{job_ended}
use Rattle.drive.specs.Settings.{rank}
use Rattle.machine.specs.Picking.{picked}
use Rattle.drive.proofs.SlotLaws.{same_state}
use Rattle.drive.proofs.Models.{forms_of, laws_hold}
use Rattle.drive.proofs.Quiet.{fits-ended}
use Rattle.machine.proofs.PickLaws.{picked_work}
use Rattle.machine.proofs.StartLaws.{fresh-shows, fresh-fits}
use Rattle.orders.specs.Demand.{Job, start_on, played_of, played, carried_out, Agrees}
use Rattle.orders.specs.Complete.{Complete, SameOutcome, CompleteOrdersAgree, SomeOrderCompletes}
use Rattle.orders.proofs.Plays.{model_of_job, FitsJob, fresh_job, JobAccepted, job_accepted, started_job, played-on, play-fits, played_is, carried_out_is}
use Rattle.orders.proofs.Demand.{demand_3}

-- ---- there is a complete order

played-one-more : (j : Job) (ks : List ℕ) (m : State) (k : ℕ)
    → played j m (ks ++ (k ∷ [])) ≡ picked j.cells j.words (played j m ks) k
unfolding played_of
played-one-more j ks m k = played-on j ks (k ∷ []) m

-- a task is picked as long as work is left: r more picks
complete_in : (j : Job) (m₀ : State) (e : Frame) (W : ℕ) → ((ks : List ℕ) → Agrees j (played j m₀ ks) e W)
    → (r : ℕ) (ks : List ℕ) → (played j m₀ ks).work + r ≡ W → (ls : List ℕ) × Complete j m₀ ls
complete_in j m₀ e W agrees zero ks h = (ks, (agrees ks).ended_when_equal (omega arith))
complete_in j m₀ e W agrees (suc r) ks h =
    let m = played j m₀ ks in
    let p = (agrees ks).before_that_pickable (omega arith) in
    let w : (played j m₀ (ks ++ (p.0 ∷ []))).work ≡ m.work + 1 =
    ap (λ n. n.work) (played-one-more j ks m₀ p.0) ∙ picked_work j.cells j.words m p.0 p.1 in
    complete_in j m₀ e W agrees r (ks ++ (p.0 ∷ [])) (omega arith)

pub some_order_completes : SomeOrderCompletes
some_order_completes j a e W t m =
    let agrees : (ks : List ℕ) → Agrees j (played j (start_on j m) ks) e W = λ ks. (demand_3 j a m ks).where_it_ends e W t in
    let w = (agrees []).work_never_above in
    complete_in j (start_on j m) e W agrees (W - (played j (start_on j m) []).work) [] (omega arith)

-- ---- any two agree

module _ {j : Job} (start : JobAccepted j) where
  abbrev M : Model Frame State
  M = model_of_job j

  abbrev m₀ : State
  m₀ = fresh_job j

  after : (ks : List ℕ) → played j m₀ ks ≡ play M m₀ ks
  after ks = played_is start ks m₀ (fresh-fits start)

  fits : (ks : List ℕ) → FitsJob j (play M m₀ ks)
  fits ks = play-fits start ks m₀ (fresh-fits start)

  ends : (ks : List ℕ) → Complete j m₀ ks → model.job_ended M (play M m₀ ks) ≡ true
  ends ks o = sym (fits-ended start.allowed j.words (play M m₀ ks) (fits ks)) ∙ sym (ap job_ended (after ks)) ∙ o

  counts : (i : ℕ) (ks : List ℕ) → carried_out j (only_at i) m₀ ks ≡ model.carried_out M (only_at i) m₀ ks
  counts i ks = carried_out_is start (only_at i) ks m₀ (fresh-fits start)

  from_fresh : (ks ls : List ℕ) → Complete j m₀ ks → Complete j m₀ ls → SameOutcome j m₀ ks ls
  from_fresh ks ls p q =
      let K = forms_of j.cells (rank j.places) in
      let laws = laws_hold start.allowed j.words in
      let T = leaf (start_frame j.places (integers j.registers)) in
      let s = fresh-shows start in
      let x = fits ks in
      let y = fits ls in
      let u = ends ks p in
      let v = ends ls q in
      record {
        same_state =
            after ks
            ∙ same_state (play M m₀ ks) (play M m₀ ls) x.sized y.sized (same_slots M K laws m₀ T s ks ls u v (λ f e. e))
            (x.its_places ∙ sym y.its_places) (x.its_interval ∙ sym y.its_interval) (same_work M K laws m₀ T s ks ls u v)
            ∙ sym (after ls);
        same_picks = λ i. counts i ks ∙ same_picks M K laws m₀ T s ks ls u v i ∙ sym (counts i ls);
      }

pub complete_orders_agree : CompleteOrdersAgree
complete_orders_agree j a m =
    subst⁻¹ (λ n. (ks ls : List ℕ) → Complete j n ks → Complete j n ls → SameOutcome j n ks ls) (started_job j a m) (from_fresh (job_accepted j a))
