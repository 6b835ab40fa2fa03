-- A task's stack in two rows, the pile: of each entry its 64 bits and, in `tags`, its kind, as of a register. And what a push and a pop do to them.
use Rattle.std.specs.Prelude.{◌≡◌, List, [], ◌∷◌, ℕ, zero, suc, ◌+◌, ◌*◌, ◌-◌, ◌<◌, ◌≤◌, length, get_or, set, Option, Some, IfSome, IfNone}
use Rattle.task.specs.declared.Register.{Register}
use Rattle.task.specs.Frames.{zero_register, stack_length}
use Rattle.arms.specs.Registers.{value_of, registers_of, Sized, operand_by}

-- how many values, and all the entries
pub record Stacked : Type 0 where
  pub height : ℕ
  pub values : List Register

-- n entries from a place on, of which h are in use; the others are the integer 0, whatever the rows hold
unfoldable pub entries_from : List ℕ → List ℕ → ℕ → ℕ → ℕ → List Register
entries_from pile tags at h zero = []
entries_from pile tags at zero (suc n) = zero_register ∷ entries_from pile tags at zero n
entries_from pile tags at (suc h) (suc n) = record { value = value_of (get_or tags at 0) (get_or pile at 0) } ∷ entries_from pile tags (suc at) h n

-- the stack that begins at `low`
abbrev pub stack_of : List ℕ → List ℕ → ℕ → ℕ → Stacked
stack_of pile tags low height = record { height = height; values = entries_from pile tags low height stack_length }

-- both rows have 224, seven stretches of 32, of which one begins at `low`
pub record Lies (pile tags : List ℕ) (low : ℕ) : Type 0 where
  pub pile_full : length pile ≡ 224
  pub tags_full : length tags ≡ 224
  pub low_most : low ≤ 192

-- they still have, and what lies below is as it was
pub record SameBelow (low : ℕ) (pile tags pile' tags' : List ℕ) : Type 0 where
  pub still_lies : Lies pile' tags' low
  pub same_pile : (i : ℕ) → i < low → get_or pile' i 0 ≡ get_or pile i 0
  pub same_tags : (i : ℕ) → i < low → get_or tags' i 0 ≡ get_or tags i 0

-- ---- A push and a pop: the height after it, or nothing, where there is no place or no value, and the rows are as they were

-- the bits u of kind k are stored above the others
pub record PushedOn (low height u k : ℕ) (pile tags : List ℕ) (h : Option ℕ) (pile' tags' : List ℕ) : Type 0 where
  pub no_place : IfNone h ((32 ≤ height) × (pile' ≡ pile) × (tags' ≡ tags))
  pub its_has_place : IfSome h (λ t. (height < 32) × (t ≡ height + 1) × (pile' ≡ set pile (low + height) u) × (tags' ≡ set tags (low + height) k))

-- the last one goes to r
pub record PoppedTo (r low height : ℕ) (nums kinds pile tags : List ℕ) (h : Option ℕ) (nums' kinds' : List ℕ) : Type 0 where
  pub no_value : IfNone h ((height ≡ 0) × (nums' ≡ nums) × (kinds' ≡ kinds))
  pub has_value : IfSome h (λ t. (0 < height) × (t ≡ height - 1)
      × (nums' ≡ set nums r (get_or pile (low + (height - 1)) 0)) × (kinds' ≡ set kinds r (get_or tags (low + (height - 1)) 0)))

-- what they may rest on; r and v stand in the decoded code, after the arm
pub record CanStack (code nums kinds pile tags : List ℕ) (low height pc : ℕ) : Type 0 where
  pub sized : Sized nums kinds
  pub lies : Lies pile tags low
  pub height_most : height ≤ 32
  pub stored : pc + 3 < length code
  pub r_small : get_or code (pc + 1) 0 < 16
  pub register_operand : get_or code pc 0 ≡ 48 → get_or code (pc + 3) 0 < 16

-- by the arm: 17 pops to r, 16 + 32 k pushes the operand v of kind k; another does neither
pub record StackTurned (arm r v low height : ℕ) (nums kinds pile tags : List ℕ) (h : Option ℕ) (nums' kinds' pile' tags' : List ℕ) : Type 0 where
  pub pops : IfSome h (λ t. arm ≡ 17 → PoppedTo r low height nums kinds pile tags (Some t) nums' kinds' × (pile' ≡ pile) × (tags' ≡ tags))
  pub pushes : IfSome h (λ t. (arm ≡ 17 → ⊥) → (k : ℕ) × (k ≤ 3) × (arm ≡ 16 + 32 * k) × (u : ℕ) × (w : ℕ)
      × (value_of w u ≡ operand_by k v (registers_of nums kinds)) × PushedOn low height u w pile tags (Some t) pile' tags' × (nums' ≡ nums) × (kinds' ≡ kinds))
  pub untouched : IfNone h ((nums' ≡ nums) × (kinds' ≡ kinds) × (pile' ≡ pile) × (tags' ≡ tags))
