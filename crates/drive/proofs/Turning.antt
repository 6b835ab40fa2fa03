-- A turn of the loop with the joins that fall due: a look at one, or a walk and the pick that stops it.
use mathlib.Core.Path.{◌≡◌, refl, sym, ap, ◌∙◌, subst, subst⁻¹}
use mathlib.Core.Bool.{true, false}
use mathlib.Core.List.{List}
use Prim.Native.Nat.{ℕ, ◌+◌, ◌-◌, ◌*◌, ◌%◌, ◌^◌, ◌<◌, ◌≤◌}
use native.Mathlib.Omega.{arith}
use lib.Pow.{pow_pos}
use lib.IntN.{ℤ}
use Rattle.task.specs.Choices.{chosen}
use Rattle.image.specs.declared.Instruction.{Instruction}
use Rattle.image.specs.Layout.{program_of}
use Rattle.agreement.specs.Plain.{one}
use Rattle.agreement.specs.Slots.{due, merged, settle}
use Rattle.agreement.proofs.SlotLaws.{carry-one}
use Rattle.task.specs.declared.Value.{Value}
use Rattle.task.specs.declared.Frame.{Frame}
use Rattle.task.specs.declared.Executed.{Executed}
use Rattle.task.specs.Frames.{vacant, running}
use Rattle.task.specs.Step.{join, step}
use Rattle.drive.specs.declared.State.{State}
use Rattle.turns.specs.declared.course.Course.{Course}
use Rattle.drive.specs.Slots.{at, put, ticked, Sized, slots_of}
use Rattle.drive.specs.Issue.{issued}
use Rattle.turns.specs.declared.course.Position.{Position}
use Rattle.turns.specs.Walk.{gone_by, picked_on, stopped_at, width}
use Rattle.turns.specs.Kinds.{runs_on}
use Rattle.drive.proofs.ShapeLaws.{Fits}
use Rattle.drive.proofs.SlotLaws.{put_sized, put_other, ticked_sized}
use Rattle.drive.proofs.Carrying.{stand}
use Rattle.drive.proofs.Moving.{settle_tick}
use Rattle.drive.proofs.Beyond.{settle-beyond}
use Rattle.drive.proofs.Issuing.{Fetched}
use Rattle.drive.proofs.IssueLaws.{issued-fits, issued_work}
use Rattle.drive.proofs.SettleLaws.{settle-ends, settle-stops}
use Rattle.drive.proofs.SettleSafety.{SettleSafe, turn, fits_safe, put_back_safe}
use Rattle.drive.proofs.Positions.{Walks, goes, picked-kept}
use Rattle.drive.proofs.Seeking.{Quiet}
use Rattle.drive.proofs.Walking.{Given, given, GivenAllowed, At, tile, picked_stop, picked-on, gone_by_lem}

module _ (g : Given) where
  -- the state that counts is the one with the joins made that are due from depth `open` on
  pub record Turns (m : State) (p : Position) (open' side : ℕ) : Type 0 where
    pub head : At g (settle (slots_of (program_of g.cells)) open' m side) p
    pub safe : SettleSafe g.cells m
    pub sized : Sized m
    pub side_below : side < 64
    pub few : open' ≤ 6

  module _ (allowed : GivenAllowed g) where
    -- no join is looked at
    pub none-due : {m : State} {p : Position} (o side : ℕ) → o ≡ 0 → side < 64 → At g m p → Turns m p o side
    none-due {m} {p} o side none below a = record {
      head = subst⁻¹ (λ n. At g n p) (settle-ends g.cells m side o none) a;
      safe = fits_safe allowed m a.fits;
      sized = a.fits.sized;
      side_below = below;
      few = omega arith;
    }

    module _ {m : State} {p : Position} {o side : ℕ} (t : Turns m p o side) where
      -- where none is, the state is a run's
      pub at_head : o ≡ 0 → At g m p
      at_head z = subst (λ n. At g n p) (settle-ends g.cells m side o z) t.head

      -- a join that is not due: settling stops
      pub stops : (q w : ℕ) → 0 < o → (at m side).task.places ≡ w → q ≡ side - side % (2 * w) → due (slots_of (program_of g.cells)) m q w o ≡ false
          → Turns m p 0 side
      stops q w some hw hq e =
          none-due 0 side refl t.side_below (subst (λ n. At g n p) (settle-stops g.cells m side o q w some hw hq e) t.head)

      -- one that is
      pub joins : {m' : State} (q w : ℕ) → 0 < o → (at m side).task.places ≡ w → q ≡ side - side % (2 * w)
          → due (slots_of (program_of g.cells)) m q w o ≡ true → m' ≡ merged (slots_of (program_of g.cells)) m q w → Turns m' p (o - 1) q
      joins {m'} q w some hw hq e is =
          let x = turn g.cells m side o q w t.sized t.safe some hw hq e in
          record {
            head = subst (λ n. At g n p) (x.its_goes_on ∙ ap (λ n. settle (slots_of (program_of g.cells)) (o - 1) n q) (sym is)) t.head;
            safe = subst⁻¹ (SettleSafe g.cells) is x.stays_safe;
            sized = subst⁻¹ Sized is
                (put_sized (put m (q + w) vacant) q (join (program_of g.cells) (at m q) (at m (q + w))) (put_sized m (q + w) vacant t.sized));
            side_below = omega (arith, x.has_room);
            few = omega (arith, t.few);
          }

    module _ {m : State} {p : Position} (a : At g m p) (walks : Walks m p) (runs_there : running (at m p.slot) ≡ true) where
      abbrev k : ℕ
      k = p.slot

      -- an instruction has ended the side of slot k's task: the joins are looked at from there on, and the walk goes on behind its places
      pub ends : {m' : State} (f : Frame) → step (program_of g.cells) g.words (chosen m.interval) (at m k) ≡ one f → m' ≡ ticked (put m k f) → k < 64
          → (o : ℕ) → o ≡ f.task.depth → o ≤ 6 → Turns m' (stopped_at m.places (at m k).task.places p) o k
      ends {m'} f e is below o deep shallow =
          let S = slots_of (program_of g.cells) in
          let settled : settle S o m' k ≡ issued g.cells g.words m k =
          ap (λ d. settle S d m' k) deep ∙ ap (λ n. settle S f.task.depth n k) is ∙ settle_tick g.cells f.task.depth (put m k f) k
          ∙ ap ticked (sym (carry-one S (step (program_of g.cells) g.words (chosen m.interval)) m k f e)) in
          let t = tile g allowed a runs_there in
          let same : (i : ℕ) → k < i → running (at m' i) ≡ running (at m i) =
          λ i h. ap (λ (o : State). running (at o i)) is ∙ ap running (put_other m k f i (λ z. absurd (omega arith))) in
          let quiet : Quiet (settle S o m' k) (k + 1) (k + (at m k).task.places) =
          λ i h b. settle-beyond g.cells o m' k i (omega arith) ∙ same i (omega arith) ∙ t.quiet i h b in
          record {
            head = picked_stop g allowed a walks runs_there settled (at m k).task.places t.some t.inside quiet;
            safe = subst⁻¹ (SettleSafe g.cells) is
                (put_back_safe allowed m a.fits g.words k f below runs_there
                (ap (λ n. step (program_of g.cells) g.words (chosen n) (at m k)) (sym a.fits.its_interval) ∙ e));
            sized = subst⁻¹ Sized is (ticked_sized (put m k f) (put_sized m k f a.fits.sized));
            side_below = below;
            few = shallow;
          }

      -- it has forked, and the parent has half of the places
      pub forks : {m' : State} → m' ≡ issued g.cells g.words m k → running (at m' k) ≡ true → (half : ℕ) → (at m' k).task.places ≡ half → k + half < m.places
          → At g m' (stopped_at m.places half p)
      forks {m'} is on half width inside =
          let below : k < g.state.places = omega (arith, a.slot_below, a.fits.its_places) in
          let fits : Fits g.cells g.state.interval g.state.places m' =
          rw is (issued-fits allowed g.words m k a.fits below runs_there (omega (arith, (goes {m = m} {p = p} walks).picks_left, a.until_most))) in
          let s = stand allowed g.words m' k fits below on in
          let power : half ≡ 2 ^ s.height = sym width ∙ s.formed.has_places in
          picked_stop g allowed a walks runs_there is half (omega (arith, power, pow_pos s.height)) (omega arith)
          (λ i h b. s.alone i (omega arith) (omega (arith, power)))

-- ---- the walk, until an instruction forks or ends its side

-- from the first state and place of the walk the course comes to these
pub record Leads (cells : List ℕ) (words : List ℤ) (order : List ℕ) (course : Course) (m₀ : State) (p₀ : Position) (m : State) (p : Position) : Type 0 where
  pub leads : (state : State) → GivenAllowed (given cells words state order course) → At (given cells words state order course) m₀ p₀
      → At (given cells words state order course) m p
  pub shorter : 65 * (p.until - m.work) + p.ahead ≤ 65 * (p₀.until - m₀.work) + p₀.ahead
  pub begun_least : p₀.begun ≤ p.begun

module _ {cells : List ℕ} {words : List ℤ} {order : List ℕ} {course : Course} {m₀ : State} {p₀ : Position} {m : State} {p : Position}
    (l : Leads cells words order course m₀ p₀ m p) (walks : Walks m p) where
  -- the places of a slot where nothing runs are gone by
  pub leads_by : running (at m p.slot) ≡ false → {w : ℕ} → w ≡ width (at m p.slot).task.places → {q : Position} → q ≡ gone_by m.places w p
      → Leads cells words order course m₀ p₀ m q
  leads_by idle {w} wide next = rw next (record {
    leads = λ state allowed a₀. rw wide (gone_by_lem (given cells words state order course) allowed (l.leads state allowed a₀) walks idle);
    shorter = omega (arith, l.shorter);
    begun_least = l.begun_least;
  })

  -- the slot's task is picked, and runs on
  pub leads_on : m.places ≤ 64 → p.ahead ≤ 64 → running (at m p.slot) ≡ true → {m' : State} → m' ≡ issued cells words m p.slot
      → running (at m' p.slot) ≡ true → ((i : ℕ) → (i ≡ p.slot → ⊥) → running (at m' i) ≡ running (at m i))
      → {q : Position} → q ≡ picked_on m.places m'.work (at m p.slot).task.places p
      → Leads cells words order course m₀ p₀ m' q
  leads_on few most on {m'} is still others next = rw next (
      let kept = picked-kept m.places (at m p.slot).task.places p few most m'.work in
      record {
        leads = λ state allowed a₀. picked-on (given cells words state order course) allowed (l.leads state allowed a₀) walks on is still others;
        shorter =
            let more : m'.work ≡ m.work + 1 = ap (λ (n : State). n.work) is ∙ issued_work cells words m p.slot in
            omega (arith, l.shorter, (goes {m = m} {p = p} walks).picks_left, kept.until_same, kept.ahead_most);
        begun_least = omega (arith, l.begun_least, kept.begun_least);
      })

-- an instruction was carried out on small values, and the state does not have it yet
pub record Stopped (cells : List ℕ) (words : List ℤ) (m : State) (p : Position) (e : Executed) : Type 0 where
  pub walks : Walks m p
  pub runs_there : running (at m p.slot) ≡ true
  pub x : Instruction
  pub s : Value
  pub v : Value
  pub fetched : Fetched cells words m p.slot x s v e
  pub stops_it : runs_on e.kind ≡ false
