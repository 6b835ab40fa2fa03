-- What one instruction of a running task does to the slots, and to the spans.
use Prim.Native.Nat.{ℕ, suc, ◌+◌, ◌^◌, ◌≤◌, ◌<◌}
use mathlib.Core.Path.{◌≡◌, refl, ap, ◌∙◌}
use mathlib.Core.Logic.{inr, ◌≢◌}
use mathlib.Core.Bool.{true}
use native.Mathlib.Omega.{arith}
use lib.Pow.{pow_pos}
use Rattle.facts.proofs.Tests.{clash, by_order}
use Rattle.agreement.specs.Plain.{Stepped, one, two}
use Rattle.agreement.proofs.Trees.{Tree}
use Rattle.agreement.specs.Slots.{carry}
use Rattle.agreement.proofs.SlotLaws.{carry-one, carry-two}
use Rattle.agreement.proofs.EveryFrame.{Framewise, carried_all}
use Rattle.agreement.specs.Picks.{Model, job_ended}
use Rattle.agreement.proofs.Laws.{Forms, Laws}
use Rattle.agreement.proofs.Holds.{Shows}
use Rattle.agreement.proofs.HoldsLaws.{ended_idle}
use Rattle.agreement.proofs.RunningLaws.{Stands, stands}
use Rattle.lanes.specs.Spans.{SpanLaws}
use Rattle.lanes.proofs.Known.{shows-known, put-known}
use Rattle.lanes.proofs.Settling.{Fate, stood, vacated, raised, Effect, settles}

module _ {F S : Type 0} (M : Model F S) (K : Forms F S) (laws : Laws M K) (span : F → ℕ) (spans : SpanLaws M K.Empty span) where
  open M use {slots, step, tick}
  open slots use {running, depth, places, at, put, size}
  open K use {D, Sound, Fine, Formed}

  -- a span of at most n: an instruction may go to n + 1
  spans_framewise : Framewise M (λ n f. span f ≤ n)
  spans_framewise = record {
    more = λ n f x. omega arith;
    of_vacant = λ n. omega (arith, spans.of_vacant);
    of_one = λ n f g x r e. omega (arith, spans.of_one f g r e);
    of_two = λ n f p c x r e. let u = spans.of_two f p c r e in (omega (arith, u.0), omega (arith, u.1));
    of_join = λ n a b x y. omega (arith, spans.of_join a b);
    put_all = λ n m k f i. spans.put_span m k f i n;
    tick_all = λ n m i x. rw (laws.tick_at m i) x;
  }

  module _ (m : S) (T : Tree F) (s : Shows slots K m T) (k : ℕ) (below : k < 2 ^ D) (r : running (at m k) ≡ true) where
    abbrev here : Stands M K laws m k
    here = stands M K laws T m s k below r

    abbrev h : ℕ
    h = here.height

    abbrev n : ℕ
    n = suc (span (at m k))

    within : k < size
    within = omega (arith, laws.places_fit)

    -- it goes on as one task, and settling begins at its slot
    its_goes_on : (g : F) → step (at m k) ≡ one g → Effect M span m k n (carry slots step m k)
    its_goes_on g e =
        let gf : Formed h g = laws.step_one h (at m k) g here.formed r e in
        let fine : Fine g = laws.formed_fine h g gf in
        let there : at (put m k g) k ≡ g = laws.put_same m k g s.sound fine within in
        let up : span (at (put m k g) k) ≡ n = ap span there ∙ omega (arith, spans.of_one (at m k) g r e) in
        let v = settles M K laws span spans (depth g) (put m k g) k h (laws.put_sound m k g s.sound fine)
        (put-known M K laws m k g s.sound within fine (inr (h, gf)) (shows-known M K T m s)) here.aligned (rw there gf)
        (laws.formed_depth h g gf) in
        let other : (i : ℕ) → i ≢ k → at (put m k g) i ≡ at m i = λ i x. laws.put_other m k g i fine x in
        rw (carry-one slots step m k g e) record {
          kept = λ i x q. v.kept i x (rw (other i x) q) ∙ other i x;
          fate = λ i. moved (put m k g) _ i up other (v.fate i);
        }
      where
        moved : (m₁ m' : S) (i : ℕ) → span (at m₁ k) ≡ n → ((i : ℕ) → i ≢ k → at m₁ i ≡ at m i) → Fate M span m₁ k (span (at m₁ k)) m' i
            → Fate M span m k n m' i
        moved m₁ m' i up other (stood x e) = stood x (e ∙ other i x)
        moved m₁ m' i up other (vacated x e) = vacated x e
        moved m₁ m' i up other (raised x) = raised (omega arith)

    -- it makes two, and the child's slot had no task
    forks : (p c : F) → step (at m k) ≡ two p c → Effect M span m k n (carry slots step m k)
    forks p c e =
        let t = laws.step_two h (at m k) p c here.formed r e in
        let j = t.0 in
        let finep : Fine p = laws.formed_fine j p t.2 in
        let finec : Fine c = laws.formed_fine j c t.3 in
        let w : places p ≡ 2 ^ j = laws.formed_places j p t.2 in
        let wide : 2 ^ h ≡ 2 ^ suc j = ap (λ (x : ℕ). 2 ^ x) t.1 in
        let room : k + 2 ^ j < k + 2 ^ h = omega (arith, wide, pow_pos j) in
        let s' : Sound (put m k p) = laws.put_sound m k p s.sound finep in
        let u = spans.of_two (at m k) p c r e in
        let other : (i : ℕ) → i ≢ k → i ≢ k + 2 ^ j → at (put (put m k p) (k + 2 ^ j) c) i ≡ at m i = λ i x y.
        laws.put_other (put m k p) (k + 2 ^ j) c i finec y ∙ laws.put_other m k p i finep x in
        let child : span (at (put (put m k p) (k + 2 ^ j) c) (k + 2 ^ j)) ≡ n =
        ap span (laws.put_same (put m k p) (k + 2 ^ j) c s' finec (omega (arith, here.inside, laws.places_fit))) ∙ omega (arith, u.1) in
        let parent : span (at (put (put m k p) (k + 2 ^ j) c) k) ≡ n =
        ap span (laws.put_other (put m k p) (k + 2 ^ j) c k finec (omega (arith, pow_pos j)) ∙ laws.put_same m k p s.sound finep within)
        ∙ omega (arith, u.0) in
        rw (carry-two slots step m k p c e, w) record {
          kept = λ i x q. other i x (λ z. clash q (here.alone i (omega (arith, pow_pos j)) (omega arith)));
          fate = λ i.
              by_order i k (λ x. stood (omega arith) (other i (omega arith) (omega arith))) (λ x. raised (rw x (omega (arith, parent)))) λ x.
              by_order i (k + 2 ^ j) (λ y. stood (omega arith) (other i (omega arith) (omega arith))) (λ y. raised (rw y (omega (arith, child))))
              (λ y. stood (omega arith) (other i (omega arith) (omega arith)));
        }

    carries : (x : Stepped F) → step (at m k) ≡ x → Effect M span m k n (carry slots step m k)
    carries (one g) e = its_goes_on g e
    carries (two p c) e = forks p c e

    -- a pick of slot k that is carried out
    pub carried : Effect M span m k n (tick (carry slots step m k))
    carried =
        let v = carries (step (at m k)) refl in
        let same = laws.tick_at (carry slots step m k) in
        record { kept = λ i x q. same i ∙ v.kept i x q; fate = λ i. ticked i (same i) (v.fate i) }
      where
        ticked : (i : ℕ) → at (tick (carry slots step m k)) i ≡ at (carry slots step m k) i → Fate M span m k n (carry slots step m k) i
            → Fate M span m k n (tick (carry slots step m k)) i
        ticked i e (stood x y) = stood x (e ∙ y)
        ticked i e (vacated x y) = vacated x (e ∙ y)
        ticked i e (raised x) = raised (rw e x)

    -- after the last pick of a job slot 0 has the task that was carried on: had it stood, the job would have ended before
    pub last-span : job_ended M (tick (carry slots step m k)) ≡ true → n ≤ span (at (tick (carry slots step m k)) 0)
    last-span o = go (carried.fate 0)
      where
        go : Fate M span m k n (tick (carry slots step m k)) 0 → n ≤ span (at (tick (carry slots step m k)) 0)
        go (stood x e) = clash r (ended_idle M K laws T m s (rw e at o) k within)
        go (vacated x e) = absurd (omega arith)
        go (raised x) = x

    -- a pick of a task that the rounds before have left at t or below brings no span above t + 1
    pub carried_high : (t : ℕ) → ((i : ℕ) → span (at m i) ≤ suc t) → span (at m k) ≤ t
        → (i : ℕ) → span (at (tick (carry slots step m k)) i) ≤ suc t
    carried_high t all here = carried_all M spans_framewise t m k r here all
