-- The equations of settling and of one instruction at a slot; what they keep, and what they keep of every frame.
use Prim.Native.Nat.{ℕ, zero, suc, ◌+◌, ◌*◌, ◌-◌, ◌%◌}
use mathlib.Core.Path.{◌≡◌, refl, ap, ◌∙◌}
use mathlib.Core.Bool.{true, false}
use Rattle.facts.proofs.Tests.{by-test}
use Rattle.agreement.specs.Plain.{Stepped, one, two}
use Rattle.agreement.specs.Slots.{Slots, due, merged, settle, carry}

module _ {F S : Type 0} (slots : Slots F S) where
  open slots use {join, depth, places, vacant, at, put}

  pub settle-none : (m : S) (k : ℕ) → settle slots 0 m k ≡ m
  unfolding settle
  settle-none m k = refl

  pub settle-go : (d : ℕ) (m : S) (k q w : ℕ) → places (at m k) ≡ w → k - k % (2 * w) ≡ q → due slots m q w (suc d) ≡ true
      → settle slots (suc d) m k ≡ settle slots d (merged slots m q w) q
  unfolding settle
  settle-go d m k q w hw hq t = rw (hw, hq, t, settle) (rw (hw, hq))

  pub settle_stop : (d : ℕ) (m : S) (k q w : ℕ) → places (at m k) ≡ w → k - k % (2 * w) ≡ q → due slots m q w (suc d) ≡ false
      → settle slots (suc d) m k ≡ m
  unfolding settle
  settle_stop d m k q w hw hq t = rw (hw, hq, t, settle)

  pub carry-one : (step : F → Stepped F) (m : S) (k : ℕ) (g : F) → step (at m k) ≡ one g
      → carry slots step m k ≡ settle slots (depth g) (put m k g) k
  unfolding carry
  carry-one step m k g h = rw (h, carry)

  pub carry-two : (step : F → Stepped F) (m : S) (k : ℕ) (p c : F) → step (at m k) ≡ two p c
      → carry slots step m k ≡ put (put m k p) (k + places p) c
  unfolding carry
  carry-two step m k p c h = rw (h, carry)

  -- to show P of what settling leaves: P is kept by a merge
  module _ (P : S → Type 0) (merged-has : (m : S) (q w : ℕ) → P m → P (merged slots m q w)) where
    pub settle-has : (d : ℕ) (m : S) (k : ℕ) → P m → P (settle slots d m k)
    settle-has zero m k h = rw (settle-none m k) h
    settle-has (suc d) m k h =
        let w = places (at m k) in
        let q = k - k % (2 * w) in
        by-test (due slots m q w (suc d))
        (λ t. rw (settle-go d m k q w refl refl t) (settle-has d (merged slots m q w) q (merged-has m q w h)))
        (λ t. rw (settle_stop d m k q w refl refl t) h)

  -- what no put changes, no instruction changes
  module _ {A : Type 0} (of : S → A) (put_keeps : (m : S) (k : ℕ) (f : F) → of (put m k f) ≡ of m) where
    pub settle-keeps : (d : ℕ) (m : S) (k : ℕ) → of (settle slots d m k) ≡ of m
    settle-keeps d m k = settle-has (λ n. of n ≡ of m) (λ n q w h. put_keeps (put n (q + w) vacant) q _ ∙ put_keeps n (q + w) vacant ∙ h) d m k refl

    pub carry-keeps : (step : F → Stepped F) (m : S) (k : ℕ) → of (carry slots step m k) ≡ of m
    carry-keeps step m k = go (step (at m k)) refl
      where
        go : (s : Stepped F) → step (at m k) ≡ s → of (carry slots step m k) ≡ of m
        go (one g) e = ap of (carry-one step m k g e) ∙ settle-keeps (depth g) (put m k g) k ∙ put_keeps m k g
        go (two p c) e = ap of (carry-two step m k p c e) ∙ put_keeps (put m k p) (k + places p) c ∙ put_keeps m k p

  -- what holds of every frame, and of the frames that an instruction makes, holds of every frame after it
  module _ (Q : F → Type 0) (put_all_lem : (m : S) (k : ℕ) (f : F) (i : ℕ) → Q f → Q (at m i) → Q (at (put m k f) i)) (vacant-has : Q vacant)
      (join-has : (a b : F) → Q a → Q b → Q (join a b)) where
    pub settle_all : (d : ℕ) (m : S) (k : ℕ) → ((i : ℕ) → Q (at m i)) → (i : ℕ) → Q (at (settle slots d m k) i)
    settle_all = settle-has (λ n. (i : ℕ) → Q (at n i))
        (λ n q w h i. put_all_lem (put n (q + w) vacant) q _ i (join-has _ _ (h q) (h (q + w))) (put_all_lem n (q + w) vacant i vacant-has (h i)))

    pub carry_all : (step : F → Stepped F) (m : S) (k : ℕ) → ((i : ℕ) → Q (at m i)) → ((g : F) → step (at m k) ≡ one g → Q g)
        → ((p c : F) → step (at m k) ≡ two p c → Q p × Q c) → (i : ℕ) → Q (at (carry slots step m k) i)
    carry_all step m k h of_one of_two i = go (step (at m k)) refl
      where
        go : (s : Stepped F) → step (at m k) ≡ s → Q (at (carry slots step m k) i)
        go (one g) e = rw (carry-one step m k g e) (settle_all (depth g) (put m k g) k (λ j. put_all_lem m k g j (of_one g e) (h j)) i)
        go (two p c) e =
            let x = of_two p c e in
            rw (carry-two step m k p c e) (put_all_lem (put m k p) (k + places p) c i x.1 (put_all_lem m k p i x.0 (h i)))
