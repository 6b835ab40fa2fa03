-- What can be read off the slots that hold a tree.
use Prim.Native.Nat.{ℕ, zero, suc, ◌+◌, ◌^◌, ◌≤◌, ◌<◌}
use mathlib.Core.Path.{◌≡◌, sym, ◌∙◌}
use mathlib.Core.Logic.{◌≢◌}
use mathlib.Core.Bool.{true, false}
use native.Mathlib.Omega.{arith}
use lib.Pow.{pow_pos}
use borrow.Author.Tests.{eq-eqb, ne_eqb, not-true, not-false}
use Rattle.facts.proofs.Tests.{clash, by-test, by-below}
use Rattle.agreement.proofs.Trees.{Tree, leaf, node, place, Evals, ended}
use Rattle.agreement.specs.Slots.{Slots, side_ended}
use Rattle.agreement.specs.Picks.{Model, rules, job_ended}
use Rattle.agreement.proofs.Laws.{Forms, Laws}
use Rattle.agreement.proofs.Holds.{ended_tree, Settled, Lone, Holds, Shows}

module _ {F S : Type 0} (slots : Slots F S) (K : Forms F S) where
  open slots use {at}

  -- what a tree holds is a matter of its own slots
  pub holds_same : (T : Tree F) (m m' : S) (b h : ℕ) → ((i : ℕ) → b ≤ i → i < b + 2 ^ h → at m' i ≡ at m i)
      → Holds slots K m b h T → Holds slots K m' b h T
  holds_same (leaf f) m m' b h s l = record {
    here = s b (omega arith) (omega (arith, pow_pos h)) ∙ l.here;
    formed = l.formed;
    empty = λ i x y. rw (s i (omega arith) y) (l.empty i x y);
  }
  holds_same (node x y) m m' b zero s l = absurd l
  holds_same (node x y) m m' b (suc h) s l = (
    holds_same x m m' b h (λ i p q. s i p (omega (arith, pow_pos h))) l.0,
    holds_same y m m' (b + 2 ^ h) h (λ i p q. s i (omega arith) (omega arith)) l.1,
  )

module _ {F S : Type 0} (M : Model F S) (K : Forms F S) (laws : Laws M K) where
  open M use {slots}
  open slots use {running, depth, at, size}
  open K use {D, Empty}

  -- a start: one task has all places, and no other slot has a task
  pub lone-shows : (m : S) (f : F) → at m 0 ≡ f → K.Formed D f → ((i : ℕ) → 0 < i → i < size → Empty (at m i)) → K.Sound m
      → Shows slots K m (leaf f)
  lone-shows m f here formed others sound = record {
    holds = record { here = here; formed = formed; empty = λ i p q. others i p (omega (arith, laws.places_fit)) };
    settled = tt;
    sound = sound;
    beyond = λ i p q. others i (omega (arith, pow_pos D)) q;
  }

  -- the only running task of a stretch that is one task's stands in its first slot
  pub first_slot : {m : S} {b h k : ℕ} {f : F} → Lone slots K m b h f → b ≤ k → k < b + 2 ^ h → running (at m k) ≡ true → k ≡ b
  first_slot {m} {b} {h} {k} l p q r = by-below b k (λ x. clash r (laws.empty_idle (at m k) (l.empty k x q))) (λ x. omega arith)

  -- the first task of a stretch is at least as deep as the stretch
  pub holds_deep : (T : Tree F) (m : S) (b h : ℕ) → Holds slots K m b h T → D ≤ depth (at m b) + h
  holds_deep (leaf f) m b h l = rw l.here (omega (arith, laws.formed_depth h f l.formed))
  holds_deep (node x y) m b zero l = absurd l
  holds_deep (node x y) m b (suc h) l = omega (arith, holds_deep x m b h l.0)

  -- the test of a side, as settling makes it, is whether its tree is one ended task
  pub side-test : (T : Tree F) (m : S) (b h d : ℕ) → d + h ≡ D → Holds slots K m b h T → side_ended slots m b d ≡ ended_tree running T
  side-test (leaf f) m b h d e l =
      let k : depth f ≡ d = omega (arith, laws.formed_depth h f l.formed) in
      rw (l.here, eq-eqb (depth f) d k)
  side-test (node x y) m b zero d e l = absurd l
  side-test (node x y) m b (suc h) d e l =
      let k : depth (at m b) ≢ d = omega (arith, holds_deep x m b h l.0) in
      rw (ne_eqb (depth (at m b)) d k)

  pub job_test : (T : Tree F) (m : S) → Shows slots K m T → job_ended M m ≡ ended_tree running T
  job_test T m s = side-test T m 0 D 0 (omega arith) s.holds

  -- a stretch that hasn't ended, and in which no join is due, has a running task
  abbrev Runner : S → ℕ → ℕ → Type 0
  Runner m b h = (k : ℕ) × (b ≤ k) × (k < b + 2 ^ h) × (running (at m k) ≡ true)

  holds_runner : (T : Tree F) (m : S) (b h : ℕ) → Settled running T → ended_tree running T ≡ false → Holds slots K m b h T → Runner m b h
  holds_runner (leaf f) m b h st e l = (b, omega arith, omega (arith, pow_pos h), rw l.here (not-false (running f) e))
  holds_runner (node x y) m b zero st e l = absurd l
  holds_runner (node x y) m b (suc h) st e l =
      by-test (ended_tree running x)
      (λ t. let r = holds_runner y m (b + 2 ^ h) h st.1 (rw t at st.2) l.1 in (r.0, omega (arith, r.1), omega (arith, r.2), r.3))
      (λ t. let r = holds_runner x m b h st.0 t l.0 in (r.0, r.1, omega (arith, r.2), r.3))

  -- while the job has not ended, a task is running
  pub open_runs : (T : Tree F) (m : S) → Shows slots K m T → job_ended M m ≡ false → (k : ℕ) × (k < 2 ^ D) × (running (at m k) ≡ true)
  open_runs T m s o =
      let r = holds_runner T m 0 D s.settled (sym (job_test T m s) ∙ o) s.holds in
      (r.0, omega (arith, r.2), r.3)

  -- once it has ended: one task, which has ended, and no other
  pub record Ended (m : S) (T : Tree F) : Type 0 where
    pub one_task : T ≡ leaf (at m 0)
    pub idle : running (at m 0) ≡ false
    pub others : (i : ℕ) → 0 < i → i < size → Empty (at m i)

  pub ended-shows : (T : Tree F) (m : S) → Shows slots K m T → job_ended M m ≡ true → Ended m T
  ended-shows (leaf f) m s o = record {
    one_task = rw s.holds.here;
    idle = rw s.holds.here (not-true (running f) (sym (job_test (leaf f) m s) ∙ o));
    others = λ i p q. by-below i (2 ^ D) (λ x. s.holds.empty i p (omega arith)) (λ x. s.beyond i x q);
  }
  ended-shows (node x y) m s o = clash o (job_test (node x y) m s)

  -- so an ended job has no running task
  pub ended_idle : (T : Tree F) (m : S) → Shows slots K m T → job_ended M m ≡ true → (k : ℕ) → k < size → running (at m k) ≡ false
  ended_idle T m s o zero h = (ended-shows T m s o).idle
  ended_idle T m s o (suc k) h = laws.empty_idle (at m (suc k)) ((ended-shows T m s o).others (suc k) (omega arith) h)

  -- and nothing left to issue
  pub ended_evals : (count : ℕ → ℕ) (T : Tree F) (m : S) → Shows slots K m T → job_ended M m ≡ true
      → Evals (rules M) count (place 0 D) T (at m 0) 0
  ended_evals count T m s o = let t = ended-shows T m s o in rw t.one_task (ended t.idle)
