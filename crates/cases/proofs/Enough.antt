-- The test of a case is enough. Laws carry what it leaves out: start puts the reader's questions again (image's round trip), any fuel from
-- the work on gives the evaluation (orders' `any_fuel`), picks of an order do what the model's do (orders' `played_is`), and every complete
-- order agrees with the evaluation (orders' `demand_3`).
use mathlib.Core.Path.{◌≡◌, refl, ap, ap₂, ◌∙◌, subst}
use mathlib.Core.Bool.{Bool, true}
use mathlib.Core.List.{List, [], ◌∷◌, Memᴰ}
use Prim.Native.Nat.{ℕ}
use lib.Dec.{eqb, leb}
use lib.ListN.{length}
use borrow.Author.Tests.{eqb-true, leb-true, eq-eqb}
use Rattle.facts.proofs.Tests.{clash, both_true}
use Rattle.int64.proofs.Equality.{eq_z_eq}
use Rattle.agreement.specs.Plain.{Ran, out, ran}
use Rattle.image.specs.Layout.{program_cells, cells_in}
use Rattle.image.specs.Questions.{program_no}
use Rattle.image.specs.Doors.{image_no, write_no}
use Rattle.image.proofs.Asked.{or_else_both, or_else_yes}
use Rattle.image.proofs.Header.{cells_in_length}
use Rattle.image.proofs.RoundTrip.{read_writes}
use Rattle.task.specs.declared.Value.{Value}
use Rattle.task.specs.declared.Value.TheVariants.{Int, Label, Record}
use Rattle.task.specs.declared.Frame.{Frame}
use Rattle.task.specs.Step.{register}
use Rattle.drive.specs.declared.State.{State}
use Rattle.drive.specs.declared.End.{End}
use Rattle.drive.specs.declared.End.TheVariants.{NotEnded, Halt, Fault}
use Rattle.drive.specs.Slots.{at}
use Rattle.drive.specs.Ending.{end_of, job_ended}
use Rattle.drive.specs.Settings.{places_allowed, interval_allowed}
use Rattle.machine.specs.Starting.{start_no, start_no_by}
use Rattle.task.specs.Frames.{work_limit}
use Rattle.machine.proofs.StartLaws.{fresh-fits}
use Rattle.orders.specs.Demand.{Job, Accepted, start_on, played, evaluation, Ends}
use Rattle.orders.specs.Complete.{Complete}
use Rattle.orders.proofs.Plays.{fresh_job, job_accepted, started_job, played_is}
use Rattle.orders.proofs.Demand.{any_fuel, demand_3}
use Rattle.cases.specs.Cases.{held, Case, job_of, start, after, orders_of, Shows, Right}
use Rattle.cases.proofs.Test.{every, same_end, same_value, holds, shows, evaluates, startable, ends_in, passes}

pub every-at : {A : Type 0} (test : A → Bool) (xs : List A) → every test xs ≡ true → (x : A) → Memᴰ x xs → test x ≡ true
every-at test [] e x h = elim h [ ]
every-at test (y ∷ ys) e x (Memᴰ.head p) = ap test p ∙ (both_true (test y) (every test ys) e).0
every-at test (y ∷ ys) e x (Memᴰ.tail h) = every-at test ys (both_true (test y) (every test ys) e).1 x h

-- ---- The outcome

its_same_end : (x y : End) → same_end x y ≡ true → x ≡ y
its_same_end NotEnded y e = clash e refl
its_same_end Halt NotEnded e = clash e refl
its_same_end Halt Halt e = refl
its_same_end Halt (Fault k) e = clash e refl
its_same_end (Fault n) NotEnded e = clash e refl
its_same_end (Fault n) Halt e = clash e refl
its_same_end (Fault n) (Fault k) e = ap Fault (eqb-true n k e)

same-value : (x y : Value) → same_value x y ≡ true → x ≡ y
same-value (Int x) (Int y) e = ap Int (eq_z_eq x y e)
same-value (Int x) (Label b) e = clash e refl
same-value (Int x) (Record c d) e = clash e refl
same-value (Label a) (Int y) e = clash e refl
same-value (Label a) (Label b) e = ap Label (eqb-true a b e)
same-value (Label a) (Record c d) e = clash e refl
same-value (Record a b) (Int y) e = clash e refl
same-value (Record a b) (Label c) e = clash e refl
same-value (Record a b) (Record c d) e =
    let p = both_true (eqb a c) (eqb b d) e in ap₂ Record (eqb-true a c p.0) (eqb-true b d p.1)

outcome-shown : (x : Case) (f : Frame) (work : ℕ) → shows x f work ≡ true → Shows x f work
outcome-shown x f work h =
    let p = both_true (same_end (end_of f) x.outcome.end) _ h in
    let q = both_true (eqb work x.outcome.work) _ p.1 in
    let s = both_true (eqb f.task.span x.outcome.span) _ q.1 in
    let t = both_true (every (holds f) x.outcome.registers) (eqb f.task.places x.given.places) s.1 in
    record {
      its_end = its_same_end (end_of f) x.outcome.end p.0;
      its_work = eqb-true work x.outcome.work q.0;
      its_span = eqb-true f.task.span x.outcome.span s.0;
      its_registers = λ r v i. same-value (register f r) v (every-at (holds f) x.outcome.registers t.0 (held r v) i);
      its_places = eqb-true f.task.places x.given.places t.1;
    }

-- ---- Start

-- the reader's questions are those that start puts to the program
reads-program : (bytes : List ℕ) → image_no bytes ≡ 0 → program_no (cells_in bytes) ≡ 0
unfolding write_no
reads-program bytes h = (or_else_both (program_no (cells_in bytes)) _ (read_writes bytes h)).0

starts : (x : Case) → image_no x.given.image ≡ 0 → startable x.given ≡ true → Accepted (job_of x)
unfolding start_no_by
starts x h t =
    let g = x.given in
    let a = both_true (places_allowed g.places) _ t in
    let b = both_true (interval_allowed g.interval) _ a.1 in
    let c = both_true (eqb (length g.registers) 16) (leb (length g.words) 4096) b.1 in
    or_else_yes (program_no (cells_in g.image)) _ (reads-program g.image h)
    ∙ rw (a.0, b.0, c.0, c.1, eq-eqb (length (cells_in g.image)) program_cells (cells_in_length g.image))

-- ---- The evaluation

evaluation-shows : (x : Case) (fuel : ℕ) → leb x.outcome.work work_limit ≡ true → (y : Ran Frame) → evaluation (job_of x) fuel ≡ y
    → evaluates x y ≡ true → (e : Frame) × Ends (job_of x) e x.outcome.work × Shows x e x.outcome.work
evaluation-shows x fuel l out p h = clash h refl
evaluation-shows x fuel l (ran e work) p h =
    let s = outcome-shown x e work h in
    let w = x.outcome.work in
    (e, any_fuel (job_of x) fuel e w (p ∙ ap (ran e) s.its_work) (leb-true w work_limit l), subst (Shows x e) s.its_work s)

-- ---- Orders

order_completes : (j : Job) → Accepted j → (m : State) (ks : List ℕ) → ends_in j ks ≡ true → Complete j (start_on j m) ks
order_completes j a m ks t =
    let s = job_accepted j a in
    ap (λ n. job_ended (played j n ks)) (started_job j a m) ∙ ap job_ended (played_is s ks (fresh_job j) (fresh-fits s)) ∙ t

order_shows : (x : Case) → Accepted (job_of x) → (e : Frame) → Ends (job_of x) e x.outcome.work → Shows x e x.outcome.work
    → (m : State) (ks : List ℕ) → Complete (job_of x) (start x m) ks → Shows x (at (after x m ks) 0) (after x m ks).work
order_shows x a e t s m ks done =
    let same = ((demand_3 (job_of x) a m ks).where_it_ends e x.outcome.work t).then_same_result done in
    record {
      its_end = same.its_same_end ∙ s.its_end;
      its_work = same.same_work;
      its_span = same.same_span ∙ s.its_span;
      its_registers = λ r v i. ap (λ f. register f r) same.same_task ∙ s.its_registers r v i;
      its_places = ap (λ f. f.task.places) same.same_task ∙ s.its_places;
    }

-- ---- A case

pub right : (x : Case) → passes x ≡ true → Right x
right x h =
    let j = job_of x in
    let w = x.outcome.work in
    let a = both_true (eqb (image_no x.given.image) 0) _ h in
    let b = both_true (startable x.given) _ a.1 in
    let c = both_true (leb w work_limit) _ b.1 in
    let d = both_true (evaluates x (evaluation j w)) (every (ends_in j) (orders_of x)) c.1 in
    let read = eqb-true (image_no x.given.image) 0 a.0 in
    let started = starts x read b.0 in
    let ends = evaluation-shows x w c.0 (evaluation j w) refl d.0 in
    record {
      image_accepted = read;
      start_accepted = started;
      evaluated = ends;
      orders_complete = λ m ks i. order_completes j started m ks (every-at (ends_in j) (orders_of x) d.1 ks i);
      orders_show = order_shows x started ends.0 ends.1 ends.2;
    }
