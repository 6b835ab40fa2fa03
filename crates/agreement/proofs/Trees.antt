-- Trees of tasks, open forks being the nodes, and what is left for a tree to do: its evaluation, weighed by slot.
use Prim.Native.Nat.{ℕ, zero, suc, ◌+◌, ◌^◌}
use mathlib.Core.Path.{◌≡◌}
use mathlib.Core.Bool.{true, false}
use Rattle.agreement.specs.Plain.{Stepped, one, two, Rules}

pub data Tree (F : Type 0) : Type 0 where
  leaf : F → Tree F
  node : Tree F → Tree F → Tree F

abbrev pub grow : {F : Type 0} → Stepped F → Tree F
grow (one g) = leaf g
grow (two p c) = node (leaf p) (leaf c)

-- where a tree stands: its first slot, and h where it has 2 ^ h slots
pub data Place : Type 0 where
  place : ℕ → ℕ → Place

-- the parent's side of a fork, and the child's. (A fork within one slot does not come about.)
abbrev pub lower : Place → Place
lower (place b zero) = place b zero
lower (place b (suc h)) = place b h

abbrev pub upper : Place → Place
upper (place b zero) = place b zero
upper (place b (suc h)) = place (b + 2 ^ h) h

abbrev pub weight : (ℕ → ℕ) → Place → ℕ
weight count (place b h) = count b

-- `count` weighs an instruction by the slot that issues it
module _ {F : Type 0} (R : Rules F) (count : ℕ → ℕ) where
  open R use {running, step, join}

  -- `Evals p T e w`: the tree T at p evaluates to the ended frame e, and the instructions that it issues weigh w
  pub data Evals : Place → Tree F → F → ℕ → Type 0 where
    ended : {p : Place} {f : F} → running f ≡ false → Evals p (leaf f) f 0
    issue : {p : Place} {f e : F} {w n : ℕ} → running f ≡ true → Evals p (grow (step f)) e w → n ≡ weight count p + w
        → Evals p (leaf f) e n
    both : {p : Place} {a b : Tree F} {x y e : F} {u v w n : ℕ} → Evals (lower p) a x u → Evals (upper p) b y v
        → Evals p (leaf (join x y)) e w → n ≡ u + v + w → Evals p (node a b) e n

  -- `Ahead p k T T'`: T' has exactly the instructions of T left to issue, but for some that weigh k
  pub record Ahead (p : Place) (k : ℕ) (T T' : Tree F) : Type 0 where
    pub back : (e : F) (w : ℕ) → Evals p T' e w → Evals p T e (k + w)
    pub fore : (e : F) (w : ℕ) → Evals p T e w → (r : ℕ) × (w ≡ k + r) × Evals p T' e r
