-- One instruction of a slot's task, with the settling after it, takes exactly that instruction off the tree that the slots hold.
use Prim.Native.Nat.{ℕ, zero, suc, ◌+◌, ◌*◌, ◌-◌, ◌%◌, ◌^◌, ◌≤◌, ◌<◌}
use mathlib.Core.Path.{◌≡◌, refl, ap, ◌∙◌, subst, subst⁻¹}
use mathlib.Core.Logic.{◌⊎◌, inl, inr, ◌≢◌}
use mathlib.Core.Bool.{true, false, not, ◌&&◌, and-false}
use native.Mathlib.Omega.{arith}
use native.Mathlib.Nat.{add-zero}
use lib.Pow.{pow_pos}
use borrow.Author.Tests.{lt-ltb, not-true}
use Rattle.facts.proofs.Tests.{clash, both_true, by-test, by-below, by_order}
use Rattle.agreement.proofs.Outside.{Outside, outside_apart}
use Rattle.agreement.proofs.Halves.{Aligned, aligned_zero, aligned_lower, aligned_upper, fork_from_lower, fork_from_upper, outside-lower, outside-upper}
use Rattle.agreement.specs.Plain.{Stepped, one, two}
use Rattle.agreement.proofs.Trees.{Tree, leaf, node, grow, Place, place, Ahead}
use Rattle.agreement.proofs.TreeLaws.{ahead_refl, ahead_trans, ahead_lower, ahead_upper, ahead_step, ahead-join}
use Rattle.agreement.specs.Slots.{due, merged, settle, carry}
use Rattle.agreement.proofs.SlotLaws.{settle-none, settle-go, settle_stop, carry-one, carry-two}
use Rattle.agreement.specs.Picks.{Model, rules}
use Rattle.agreement.proofs.Laws.{Forms, Laws}
use Rattle.agreement.proofs.Holds.{ended_tree, Settled, Lone, Holds, Shows}
use Rattle.agreement.proofs.HoldsLaws.{holds_same, first_slot, side-test}

module _ {F S : Type 0} (M : Model F S) (K : Forms F S) (count : ℕ → ℕ) where
  open M use {slots, step}
  open slots use {running, join, depth, places, vacant, at, put, size}
  open K use {D, Sound, Fine, Empty, Formed}

  abbrev Step : Place → ℕ → Tree F → Tree F → Type 0
  Step = Ahead (rules M) count

  abbrev Held : S → ℕ → ℕ → Tree F → Type 0
  Held = Holds slots K

  -- what is left to do from `state` on, whose stretch at b is T: nothing, or settling from T's one task
  abbrev Rest : S → ℕ → Tree F → S → Type 0
  Rest state b T final =
      ((final ≡ state) × (ended_tree running T ≡ false)) ⊎ ((g : F) × (T ≡ leaf g) × (final ≡ settle slots (depth g) state b))

  -- the 2 ^ h slots from b on go over from T to `tree`, by instructions that weigh n, and no other slot changes; from there `final` is left
  record Moved (n : ℕ) (m : S) (b h : ℕ) (T : Tree F) (final : S) : Type 0 where
    tree : Tree F
    state : S
    holds : Held state b h tree
    ahead : Step (place b h) n T tree
    settled : Settled running tree
    sound : Sound state
    outside : (i : ℕ) → Outside b (b + 2 ^ h) i → at state i ≡ at m i
    rest : Rest state b tree final

  module _ (laws : Laws M K) where
    -- Settling looks at the fork of 2 ^ suc j slots at b, from slot k on either side of it
    module _ (m : S) (b j k d : ℕ) (sound : Sound m) (fits : b + 2 ^ suc j ≤ size) (deep : suc d + j ≡ D) (hw : places (at m k) ≡ 2 ^ j)
        (hq : k - k % (2 * 2 ^ j) ≡ b) where
      vacated : ((i : ℕ) → b < i → i < b + 2 ^ j → Empty (at m i)) → ((i : ℕ) → b + 2 ^ j < i → i < b + 2 ^ j + 2 ^ j → Empty (at m i))
          → (i : ℕ) → b < i → i < b + 2 ^ suc j → Empty (at (put m (b + 2 ^ j) vacant) i)
      vacated ex ey i p q =
          by_order i (b + 2 ^ j) (λ h. rw (laws.put_other m (b + 2 ^ j) vacant i laws.vacant_fine (omega arith)) (ex i p h))
          (λ h. rw (h, laws.put_same m (b + 2 ^ j) vacant sound laws.vacant_fine (omega (arith, pow_pos j))) laws.vacant_empty)
          (λ h. rw (laws.put_other m (b + 2 ^ j) vacant i laws.vacant_fine (omega arith)) (ey i h (omega arith)))

      -- both sides have ended: they are joined, and settling goes on from there
      joined : (x y : Tree F) → Held m b j x → Held m (b + 2 ^ j) j y → ended_tree running x && ended_tree running y ≡ true
          → due slots m b (2 ^ j) (suc d) ≡ true → Moved 0 m b (suc j) (node x y) (settle slots (suc d) m k)
      joined (leaf f) (leaf g) lx ly t u =
          let rs = both_true (not (running f)) (not (running g)) t in
          let rf = not-true (running f) rs.0 in
          let rg = not-true (running g) rs.1 in
          let jf : Formed (suc j) (join f g) = laws.join_formed j f g lx.formed ly.formed rf rg (omega arith) in
          let jd : d ≡ depth (join f g) = omega (arith, laws.formed_depth (suc j) (join f g) jf) in
          let fine : Fine (join (at m b) (at m (b + 2 ^ j))) = rw (lx.here, ly.here) (laws.formed_fine (suc j) (join f g) jf) in
          let s' : Sound (put m (b + 2 ^ j) vacant) = laws.put_sound m (b + 2 ^ j) vacant sound laws.vacant_fine in
          record {
            tree = leaf (join f g);
            state = merged slots m b (2 ^ j);
            holds = record {
              here = laws.put_same _ b _ s' fine (omega (arith, pow_pos j)) ∙ rw (lx.here, ly.here);
              formed = jf;
              empty = λ i p q.
                  rw (laws.put_other (put m (b + 2 ^ j) vacant) b (join (at m b) (at m (b + 2 ^ j))) i fine (omega arith))
                  (vacated lx.empty ly.empty i p q);
            };
            ahead = ahead-join (rules M) count rf rg;
            settled = tt;
            sound = laws.put_sound _ b _ s' fine;
            outside = λ i o.
                laws.put_other _ b _ i fine (outside_apart o (omega arith) (omega (arith, pow_pos (suc j))))
                ∙ laws.put_other m (b + 2 ^ j) vacant i laws.vacant_fine (outside_apart o (omega arith) (omega (arith, pow_pos j)));
            rest = inr (join f g, refl, settle-go slots d m k b (2 ^ j) hw hq u ∙ ap (λ n. settle slots n (merged slots m b (2 ^ j)) b) jd);
          }
      joined (leaf f) (node y z) lx ly t u = clash t (and-false (not (running f)))
      joined (node x z) y lx ly t u = clash t refl

      settled_fork : (x y : Tree F) → Held m b j x → Held m (b + 2 ^ j) j y → Settled running x → Settled running y
          → Moved 0 m b (suc j) (node x y) (settle slots (suc d) m k)
      settled_fork x y hx hy sx sy =
          let wide = lt-ltb 0 (2 ^ j) (pow_pos j) in
          let inside = lt-ltb (b + 2 ^ j) size (omega (arith, pow_pos j)) in
          let ex = side-test M K laws x m b j (suc d) deep hx in
          let ey = side-test M K laws y m (b + 2 ^ j) j (suc d) deep hy in
          let test : due slots m b (2 ^ j) (suc d) ≡ ended_tree running x && ended_tree running y = rw (wide, inside, ex, ey) in
          by-test (ended_tree running x && ended_tree running y) (λ t. joined x y hx hy t (test ∙ t)) λ t. record {
            tree = node x y;
            state = m;
            holds = (hx, hy);
            ahead = ahead_refl (rules M) count (place b (suc j)) (node x y);
            settled = (sx, sy, t);
            sound = sound;
            outside = λ i o. refl;
            rest = inl (settle_stop slots d m k b (2 ^ j) hw hq (test ∙ t), refl);
          }

    onward : {n : ℕ} {m m₁ : S} {b h : ℕ} {T U : Tree F} {final final' : S} → Step (place b h) n T U
        → ((i : ℕ) → Outside b (b + 2 ^ h) i → at m₁ i ≡ at m i) → final ≡ final' → Moved 0 m₁ b h U final' → Moved n m b h T final
    onward s o e v = record {
      tree = v.tree;
      state = v.state;
      holds = v.holds;
      ahead = rw add-zero at (ahead_trans (rules M) count s v.ahead);
      settled = v.settled;
      sound = v.sound;
      outside = λ i q. v.outside i q ∙ o i q;
      rest = rw e v.rest;
    }

    -- one instruction of the one task of a stretch
    module _ (m : S) (b : ℕ) (f : F) (sound : Sound m) (r : running f ≡ true) where
      issued : (h : ℕ) (s : Stepped F) → step f ≡ s → Step (place b h) (count b) (leaf f) (grow s)
      issued h s e = subst (λ s. Step (place b h) (count b) (leaf f) (grow s)) e (ahead_step (rules M) count r)

      its_goes_on : (h : ℕ) → b + 2 ^ h ≤ size → Lone slots K m b h f → (g : F) → step f ≡ one g
          → Moved (count b) m b h (leaf f) (carry slots step m b)
      its_goes_on h fits l g e =
          let gf : Formed h g = laws.step_one h f g l.formed r e in
          let fine : Fine g = laws.formed_fine h g gf in
          record {
            tree = leaf g;
            state = put m b g;
            holds = record {
              here = laws.put_same m b g sound fine (omega (arith, pow_pos h));
              formed = gf;
              empty = λ i p q. rw (laws.put_other m b g i fine (omega arith)) (l.empty i p q);
            };
            ahead = issued h (one g) e;
            settled = tt;
            sound = laws.put_sound m b g sound fine;
            outside = λ i o. laws.put_other m b g i fine (outside_apart o (omega arith) (omega (arith, pow_pos h)));
            rest = inr (g, refl, carry-one slots step m b g (rw l.here e));
          }

      forks : (j : ℕ) → b + 2 ^ suc j ≤ size → Lone slots K m b (suc j) f → (p c : F) → step f ≡ two p c → Formed j p → Formed j c
          → running p ≡ true → Moved (count b) m b (suc j) (leaf f) (carry slots step m b)
      forks j fits l p c e fp fc rp =
          let finep : Fine p = laws.formed_fine j p fp in
          let finec : Fine c = laws.formed_fine j c fc in
          let s' : Sound (put m b p) = laws.put_sound m b p sound finep in
          let other : (i : ℕ) → b < i → i < b + 2 ^ suc j → i ≢ b + 2 ^ j → Empty (at (put (put m b p) (b + 2 ^ j) c) i) = λ i x y z.
          rw (laws.put_other (put m b p) (b + 2 ^ j) c i finec z, laws.put_other m b p i finep (omega arith)) (l.empty i x y) in
          record {
            tree = node (leaf p) (leaf c);
            state = put (put m b p) (b + 2 ^ j) c;
            holds = (
              record {
                here = laws.put_other _ (b + 2 ^ j) c b finec (omega (arith, pow_pos j))
                    ∙ laws.put_same m b p sound finep (omega (arith, pow_pos j));
                formed = fp;
                empty = λ i x y. other i x (omega (arith, pow_pos j)) (omega arith);
              },
              record {
                here = laws.put_same _ (b + 2 ^ j) c s' finec (omega (arith, pow_pos j));
                formed = fc;
                empty = λ i x y. other i (omega arith) (omega arith) (omega arith);
              },
            );
            ahead = issued (suc j) (two p c) e;
            settled = (tt, tt, rw rp);
            sound = laws.put_sound _ (b + 2 ^ j) c s' finec;
            outside = λ i o.
                laws.put_other _ (b + 2 ^ j) c i finec (outside_apart o (omega arith) (omega (arith, pow_pos j)))
                ∙ laws.put_other m b p i finep (outside_apart o (omega arith) (omega (arith, pow_pos j)));
            rest = inl (carry-two slots step m b p c (rw l.here e) ∙ rw (laws.formed_places j p fp), refl);
          }

      one_task : (h : ℕ) → b + 2 ^ h ≤ size → Lone slots K m b h f → (s : Stepped F) → step f ≡ s
          → Moved (count b) m b h (leaf f) (carry slots step m b)
      one_task h fits l (one g) e = its_goes_on h fits l g e
      one_task h fits l (two p c) e =
          let t = laws.step_two h f p c l.formed r e in
          subst⁻¹ (λ n. Moved (count b) m b n (leaf f) (carry slots step m b)) t.1
          (forks t.0 (rw t.1 at fits) (subst (λ n. Lone slots K m b n f) t.1 l) p c e t.2 t.3 t.4)

    -- One side of a fork has moved, the side z at slot s: so has the fork, whose sides are x and y now
    module _ {n : ℕ} {m : S} {b j : ℕ} {T : Tree F} {final : S} (fits : b + 2 ^ suc j ≤ size) (inner : suc j ≤ D) (state : S)
        (sound : Sound state) (outside : (i : ℕ) → Outside b (b + 2 ^ suc j) i → at state i ≡ at m i) (x y : Tree F)
        (hx : Held state b j x) (hy : Held state (b + 2 ^ j) j y) (sx : Settled running x) (sy : Settled running y)
        (up : Step (place b (suc j)) n T (node x y)) where
      fork-moved : (s : ℕ) (z : Tree F) → s - s % (2 * 2 ^ j) ≡ b → Held state s j z
          → (ended_tree running z ≡ false → ended_tree running x && ended_tree running y ≡ false) → Rest state s z final
          → Moved n m b (suc j) T final
      fork-moved s z hq hz still (inl e) = record {
        tree = node x y;
        state = state;
        holds = (hx, hy);
        ahead = up;
        settled = (sx, sy, still e.1);
        sound = sound;
        outside = outside;
        rest = inl (e.0, refl);
      }
      fork-moved s z hq hz still (inr t) =
          let g = t.0 in
          let lg : Lone slots K state s j g = subst (λ z. Held state s j z) t.1 hz in
          let d : depth g ≡ suc (D - suc j) = omega (arith, laws.formed_depth j g lg.formed) in
          onward up outside (t.2 ∙ ap (λ z. settle slots z state s) d)
          (settled_fork state b j s (D - suc j) sound fits (omega arith) (rw lg.here (laws.formed_places j g lg.formed)) hq x y hx hy sx sy)

    module _ (n : ℕ) (m : S) (b j : ℕ) (x y : Tree F) (final : S) (al : Aligned b (suc j)) (fits : b + 2 ^ suc j ≤ size) (inner : suc j ≤ D)
        (st : Settled running (node x y)) (l : Held m b (suc j) (node x y)) where
      lower-moved : Moved n m b j x final → Moved n m b (suc j) (node x y) final
      lower-moved v =
          fork-moved fits inner v.state v.sound (λ i o. v.outside i (outside-lower b j i o)) v.tree y v.holds
          (holds_same slots K y m v.state (b + 2 ^ j) j (λ i p q. v.outside i (inr p)) l.1) v.settled st.1
          (ahead_lower (rules M) count y v.ahead) b v.tree (fork_from_lower b j al) v.holds (λ e. rw e) v.rest

      upper-moved : Moved n m (b + 2 ^ j) j y final → Moved n m b (suc j) (node x y) final
      upper-moved v =
          fork-moved fits inner v.state v.sound (λ i o. v.outside i (outside-upper b j i o)) x v.tree
          (holds_same slots K x m v.state b j (λ i p q. v.outside i (inl q)) l.0) v.holds st.0 v.settled
          (ahead_upper (rules M) count x v.ahead) (b + 2 ^ j) v.tree (fork_from_upper b j al) v.holds
          (λ e. rw e (and-false (ended_tree running x))) v.rest

    moved : (T : Tree F) (m : S) (b h : ℕ) → Sound m → Aligned b h → b + 2 ^ h ≤ size → h ≤ D → Settled running T → Held m b h T
        → (k : ℕ) → b ≤ k → k < b + 2 ^ h → running (at m k) ≡ true → Moved (count k) m b h T (carry slots step m k)
    moved (leaf f) m b h sound al fits top st l k p q r =
        let e : k ≡ b = first_slot M K laws l p q r in
        subst⁻¹ (λ z. Moved (count z) m b h (leaf f) (carry slots step m z)) e
        (one_task m b f sound (rw l.here at (rw e at r)) h fits l (step f) refl)
    moved (node x y) m b zero sound al fits top st l k p q r = absurd l
    moved (node x y) m b (suc j) sound al fits top st l k p q r =
        by-below k (b + 2 ^ j)
        (λ z. lower-moved (count k) m b j x y (carry slots step m k) al fits top st l
        (moved x m b j sound (aligned_lower al) (omega (arith, pow_pos j)) (omega arith) st.0 l.0 k p z r))
        (λ z. upper-moved (count k) m b j x y (carry slots step m k) al fits top st l
        (moved y m (b + 2 ^ j) j sound (aligned_upper al) (omega arith) (omega arith) st.1 l.1 k z (omega arith) r))

    -- at the root there is no fork left to settle
    root_rest : {state : S} {T : Tree F} {final : S} → Held state 0 D T → Rest state 0 T final → final ≡ state
    root_rest l (inl e) = e.0
    root_rest {state = state} l (inr t) =
        let lg : Lone slots K state 0 D t.0 = subst (λ z. Held state 0 D z) t.1 l in
        let z : depth t.0 ≡ 0 = omega (arith, laws.formed_depth D t.0 lg.formed) in
        t.2 ∙ rw z (settle-none slots state 0)

    -- one instruction of a running task, at any slot
    pub carry-shows : (T : Tree F) (m : S) → Shows slots K m T → (k : ℕ) → k < 2 ^ D → running (at m k) ≡ true
        → (T' : Tree F) × Shows slots K (carry slots step m k) T' × Ahead (rules M) count (place 0 D) (count k) T T'
    carry-shows T m s k q r =
        let v = moved T m 0 D s.sound (aligned_zero D) (omega (arith, laws.places_fit)) (omega arith) s.settled s.holds k (omega arith)
        (omega arith) r in
        let e : carry slots step m k ≡ v.state = root_rest v.holds v.rest in (
          v.tree,
          record {
            holds = rw e v.holds;
            settled = v.settled;
            sound = rw e v.sound;
            beyond = λ i p h. rw (e, v.outside i (inr (omega arith))) (s.beyond i p h);
          },
          v.ahead,
        )
