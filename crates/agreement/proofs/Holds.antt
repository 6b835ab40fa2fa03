-- The slots of a state that hold a tree of tasks.
use Prim.Native.Nat.{ℕ, zero, suc, ◌+◌, ◌^◌, ◌≤◌, ◌<◌}
use mathlib.Core.Path.{◌≡◌}
use mathlib.Core.Bool.{Bool, false, not, ◌&&◌}
use Rattle.agreement.proofs.Trees.{Tree, leaf, node}
use Rattle.agreement.specs.Slots.{Slots}
use Rattle.agreement.proofs.Laws.{Forms}

-- a tree that is one task, ended
abbrev pub ended_tree : {F : Type 0} → (F → Bool) → Tree F → Bool
ended_tree running (leaf f) = not (running f)
ended_tree running (node x y) = false

-- no fork whose two sides have both ended is left open
abbrev pub Settled : {F : Type 0} → (F → Bool) → Tree F → Type 0
Settled running (leaf f) = Unit {0}
Settled running (node x y) = Settled running x × Settled running y × (ended_tree running x && ended_tree running y ≡ false)

module _ {F S : Type 0} (slots : Slots F S) (K : Forms F S) where
  open slots use {running, at, size}
  open K use {D, Sound, Empty, Formed}

  -- the 2 ^ h slots from b on are one task's
  pub record Lone (m : S) (b h : ℕ) (f : F) : Type 0 where
    pub here : at m b ≡ f
    pub formed : Formed h f
    pub empty : (i : ℕ) → b < i → i < b + 2 ^ h → Empty (at m i)

  -- the 2 ^ h slots from b on are a tree's: the parent's side has the lower half
  abbrev pub Holds : S → ℕ → ℕ → Tree F → Type 0
  Holds m b h (leaf f) = Lone m b h f
  Holds m b zero (node x y) = ⊥
  Holds m b (suc h) (node x y) = Holds m b h x × Holds m (b + 2 ^ h) h y

  -- the state is the tree's
  pub record Shows (m : S) (T : Tree F) : Type 0 where
    pub holds : Holds m 0 D T
    pub settled : Settled running T
    pub sound : Sound m
    pub beyond : (i : ℕ) → 2 ^ D ≤ i → i < size → Empty (at m i)
