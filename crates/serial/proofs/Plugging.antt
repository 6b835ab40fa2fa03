-- Pending forks are a tree with a hole, and the task in hand stands in it. Going on is no instruction of that tree, an instruction of the
-- task in hand is one.
use Prim.Native.Nat.{ℕ}
use mathlib.Core.Path.{◌≡◌}
use mathlib.Core.Bool.{true, false}
use mathlib.Core.List.{[], ◌∷◌}
use Rattle.facts.proofs.Tests.{by-test}
use Rattle.agreement.specs.Plain.{Stepped, one, two, Rules}
use Rattle.agreement.specs.Picks.{once}
use Rattle.agreement.proofs.Trees.{Tree, leaf, node, grow, Place, place, lower, upper, Ahead}
use Rattle.agreement.proofs.TreeLaws.{ahead_refl, ahead_trans, ahead_lower, ahead_upper, ahead_step, ahead-join}
use Rattle.serial.specs.Serial.{to_come, finished, Pending, Held, held, onward, taken}
use Rattle.serial.proofs.Equations.{onward-runs, onward-ends, onward-turns, onward-joins}

-- the tree with T in the hole, and where the hole stands in a tree at p
abbrev pub plug : {F : Type 0} → Pending F → Tree F → Tree F
plug [] T = T
plug (to_come c ∷ s) T = plug s (node T (leaf c))
plug (finished p ∷ s) T = plug s (node (leaf p) T)

abbrev pub plugged : {F : Type 0} → Held F → Tree F
plugged (held f s) = plug s (leaf f)

abbrev spot : {F : Type 0} → Pending F → Place → Place
spot [] p = p
spot (to_come c ∷ s) p = lower (spot s p)
spot (finished c ∷ s) p = upper (spot s p)

module _ {F : Type 0} (R : Rules F) where
  open R use {running, step, join}

  abbrev Step : Place → ℕ → Tree F → Tree F → Type 0
  Step = Ahead R once

  -- the parents' sides that have ended
  pub data Sound : Pending F → Type 0 where
    none : Sound []
    child : {c : F} {s : Pending F} → Sound s → Sound (to_come c ∷ s)
    parent : {p : F} {s : Pending F} → running p ≡ false → Sound s → Sound (finished p ∷ s)

  -- the task in hand runs, or is the one that all has ended with
  pub data Ready : Held F → Type 0 where
    works : {f : F} {s : Pending F} → running f ≡ true → Sound s → Ready (held f s)
    over : {f : F} → running f ≡ false → Ready (held f [])

  -- a move in the hole is one of the tree
  ahead-plug : (s : Pending F) (p : Place) {k : ℕ} {T T' : Tree F} → Step (spot s p) k T T' → Step p k (plug s T) (plug s T')
  ahead-plug [] p h = h
  ahead-plug (to_come c ∷ s) p h = ahead-plug s p (ahead_lower R once (leaf c) h)
  ahead-plug (finished f ∷ s) p h = ahead-plug s p (ahead_upper R once (leaf f) h)

  -- h is T, but for joins that were due, and ready
  pub record Went (T : Tree F) (h : Held F) : Type 0 where
    pub ahead : Step (place 0 0) 0 T (plugged h)
    pub ready : Ready h

  went_on : {T U : Tree F} {h : Held F} → Step (place 0 0) 0 T U → Went U h → Went T h
  went_on a w = record { ahead = ahead_trans R once a w.ahead; ready = w.ready }

  -- ---- Going on takes no instruction

  running-went : (s : Pending F) (f : F) → Sound s → running f ≡ true → Went (plug s (leaf f)) (onward R f s)
  running-went s f o r = rw (onward-runs R f s r) (record { ahead = ahead_refl R once _ _; ready = works r o })

  -- the child's side of a fork whose parent's has ended in p, given that their join goes on
  child_went : (s : Pending F) (p c : F) → Sound s → running p ≡ false → Went (plug s (leaf (join p c))) (onward R (join p c) s)
      → Went (plug s (node (leaf p) (leaf c))) (onward R c (finished p ∷ s))
  child_went s p c o rp h =
      by-test (running c) (λ r. running-went (finished p ∷ s) c (parent rp o) r)
      (λ r. rw (onward-joins R p c s r) (went_on (ahead-plug s (place 0 0) (ahead-join R once rp r)) h))

  pub onward-went : (s : Pending F) → Sound s → (f : F) → Went (plug s (leaf f)) (onward R f s)
  onward-went [] none f =
      by-test (running f) (λ r. running-went [] f none r)
      (λ r. rw (onward-ends R f r) (record { ahead = ahead_refl R once _ _; ready = over r }))
  onward-went (to_come c ∷ s) (child o) f =
      by-test (running f) (λ r. running-went (to_come c ∷ s) f (child o) r)
      (λ r. rw (onward-turns R f c s r) (child_went s f c o r (onward-went s o (join f c))))
  onward-went (finished p ∷ s) (parent rp o) f = child_went s p f o rp (onward-went s o (join p f))

  -- ---- One instruction

  pub taken-went : (s : Pending F) → Sound s → (x : Stepped F) → Went (plug s (grow x)) (taken R s x)
  taken-went s o (one g) = onward-went s o g
  taken-went s o (two p c) = onward-went (to_come c ∷ s) (child o) p

  step-at : (p : Place) (f : F) → running f ≡ true → Step p 1 (leaf f) (grow (step f))
  step-at (place b h) f r = ahead_step R once r

  pub step-ahead : (s : Pending F) (f : F) → running f ≡ true → Step (place 0 0) 1 (plug s (leaf f)) (plug s (grow (step f)))
  step-ahead s f r = ahead-plug s (place 0 0) (step-at (spot s (place 0 0)) f r)
