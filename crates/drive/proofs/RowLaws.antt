-- A row of slots as one number, and how it is made: a look at each slot in order, over the places of its task.
use mathlib.Core.Path.{◌≡◌, refl, sym, ap, ◌∙◌}
use mathlib.Core.Bool.{true, false}
use mathlib.Core.List.{List, [], ◌∷◌}
use Prim.Native.Nat.{ℕ, zero, suc, ◌+◌, ◌-◌, ◌*◌, ◌/◌, ◌^◌, ◌<◌, ◌≤◌}
use native.Mathlib.Omega.{arith}
use native.Mathlib.Nat.{mul-add, mul_assoc, mul-le-mul_left}
use lib.Dec.{ltb}
use borrow.Author.Tests.{ltb-true, lt-ltb}
use Rattle.facts.proofs.Tests.{both_true, clash, by-below}
use Rattle.task.specs.Frames.{running}
use Rattle.turns.specs.declared.rows.Row.{Row}
use Rattle.turns.specs.Rows.{packed, slot_in, no_slots, with_slot, looks_on}
use Rattle.drive.specs.declared.State.{State}
use Rattle.drive.specs.Slots.{at}
use Rattle.drive.specs.Rounds.{taken, round_of}
use Rattle.drive.proofs.Seeking.{Quiet}
use Rattle.drive.proofs.Taking.{taken_none, taken_out, taken-past, taken-first}

-- ---- a row

pub slot_in_first : (k : ℕ) (ks : List ℕ) → k < 128 → slot_in (packed (k ∷ ks)) ≡ k
unfolding packed
slot_in_first k ks h = omega arith

pub others-packed : (k : ℕ) (ks : List ℕ) → k < 127 → packed (k ∷ ks) / 128 ≡ packed ks
unfolding packed
others-packed k ks h = omega arith

pub packed_none : (ks : List ℕ) → packed ks ≡ 0 → ks ≡ []
unfolding packed
packed_none [] e = refl
packed_none (k ∷ ks) e = absurd (omega arith)

pub none-packed : packed [] ≡ 0
unfolding packed
none-packed = refl

packed-first : (k : ℕ) (ks : List ℕ) → packed (k ∷ ks) ≡ k + 1 + 128 * packed ks
unfolding packed
packed-first k ks = refl

-- ---- how it is made

-- what was found so far, and what is still ahead, are the row; there is room for the lanes that are left
pub record Gathers (m : State) (lanes look : ℕ) (row : Row) : Type 0 where
  pub whole : row.slots + row.unit * packed (taken m row.lanes (m.places - look) look) ≡ packed (round_of lanes m)
  pub small : row.slots < row.unit
  pub room : row.unit * 128 ^ row.lanes ≤ 72057594037927936

pow_some : (n : ℕ) → 1 ≤ 128 ^ n
pow_some zero = omega arith
pow_some (suc n) = omega (arith, pow_some n)

eight : (lanes : ℕ) → lanes ≤ 8 → 128 ^ lanes ≤ 72057594037927936
eight lanes h = pow_most lanes 8 h
  where
    -- 128 to the power of n, however many factors are left out
    pow_most : (l n : ℕ) → l ≤ n → 128 ^ l ≤ 128 ^ n
    pow_most zero n h = omega (arith, pow_some n)
    pow_most (suc l) zero h = absurd (omega arith)
    pow_most (suc l) (suc n) h = omega (arith, pow_most l n (omega arith))

pub gather-begins : (m : State) (lanes : ℕ) → lanes ≤ 8 → Gathers m lanes 0 (no_slots lanes)
gather-begins m lanes few = record {
  whole = let z : m.places - 0 ≡ m.places = omega arith in
      let one : 0 + 1 * packed (taken m lanes (m.places - 0) 0) ≡ packed (taken m lanes (m.places - 0) 0) = omega arith in
      one ∙ ap (λ n. packed (taken m lanes n 0)) z;
  small = omega arith;
  room = omega (arith, eight lanes few);
}

module _ {m : State} {lanes look : ℕ} {row : Row} (g : Gathers m lanes look row) where
  -- there is a slot, and a lane for it
  pub record Looks : Type 0 where
    pub lane : 0 < row.lanes
    pub slot_below : look < m.places

  pub looks : looks_on row look m.places ≡ true → Looks
  looks h =
      let b = both_true (ltb 0 row.lanes) (ltb look m.places) h in
      record { lane = ltb-true 0 row.lanes b.0; slot_below = ltb-true look m.places b.1 }

  pub unit_most : 0 < row.lanes → row.unit ≤ 562949953421312
  unit_most some =
      let l : row.lanes ≡ suc (row.lanes - 1) = omega arith in
      let up : 128 ^ row.lanes ≡ 128 ^ suc (row.lanes - 1) = ap (λ n. 128 ^ n) l in
      let least : 128 ≤ 128 ^ row.lanes = omega (arith, pow_some (row.lanes - 1)) in
      omega (arith, g.room, mul-le-mul_left row.unit least)

  -- nothing runs in the places of the slot
  pub gather-passes : look < m.places → (w : ℕ) → look + w ≤ m.places → Quiet m look (look + w) → Gathers m lanes (look + w) row
  gather-passes below w inside quiet = record {
    whole =
        let n : m.places - look ≡ w + (m.places - (look + w)) = omega arith in
        let past = ap (λ i. taken m row.lanes i look) n ∙ taken-past m row.lanes w (m.places - (look + w)) look quiet in
        ap (λ ks. row.slots + row.unit * packed ks) (sym past) ∙ g.whole;
    small = g.small;
    room = g.room;
  }

  -- its task runs: it is taken, and nothing runs in its other places
  pub gather-takes : 0 < row.lanes → look < m.places → look < 64 → running (at m look) ≡ true → (w : ℕ) → 0 < w → look + w ≤ m.places
      → Quiet m (look + 1) (look + w) → Gathers m lanes (look + w) (with_slot row look)
  gather-takes some below few runs w wide inside quiet = record {
    whole =
        let u = row.unit in
        let x = packed (taken m (row.lanes - 1) (m.places - (look + w)) (look + w)) in
        let first : packed (taken m row.lanes (m.places - look) look) ≡ look + 1 + 128 * x = ap packed taken_here ∙ packed-first look _ in
        let out : u * (look + 1 + 128 * x) ≡ u * (look + 1) + u * (128 * x) = mul-add u (look + 1) (128 * x) in
        let in' : u * 128 * x ≡ u * (128 * x) = mul_assoc u 128 x in
        omega (arith, out, in', ap (λ n. u * n) first, g.whole);
    small =
        let le : row.unit * (look + 1) ≤ row.unit * 64 = mul-le-mul_left row.unit (omega arith) in
        omega (arith, g.small);
    room =
        let l : row.lanes ≡ suc (row.lanes - 1) = omega arith in
        let up : 128 ^ row.lanes ≡ 128 ^ suc (row.lanes - 1) = ap (λ n. 128 ^ n) l in
        let power : 128 ^ suc (row.lanes - 1) ≡ 128 * 128 ^ (row.lanes - 1) = omega arith in
        let in' : row.unit * 128 * 128 ^ (row.lanes - 1) ≡ row.unit * (128 * 128 ^ (row.lanes - 1)) = mul_assoc row.unit 128 (128 ^ (row.lanes - 1)) in
        omega (arith, in', ap (λ n. row.unit * n) (up ∙ power), g.room);
  }
    where
      taken_here : taken m row.lanes (m.places - look) look ≡ look ∷ taken m (row.lanes - 1) (m.places - (look + w)) (look + w)
      taken_here =
          let a : row.lanes ≡ suc (row.lanes - 1) = omega arith in
          let b : m.places - look ≡ suc (w - 1 + (m.places - (look + w))) = omega arith in
          let c : look + 1 + (w - 1) ≡ look + w = omega arith in
          ap (λ i. taken m i (m.places - look) look) a
          ∙ ap (λ i. taken m (suc (row.lanes - 1)) i look) b
          ∙ taken-first m (row.lanes - 1) (w - 1 + (m.places - (look + w))) look runs
          ∙ ap (λ ks. look ∷ ks) (taken-past m (row.lanes - 1) (w - 1) (m.places - (look + w)) (look + 1) (λ i h k. quiet i h (omega arith))
          ∙ ap (λ i. taken m (row.lanes - 1) (m.places - (look + w)) i) c)

  -- no lane is left, or no slot
  pub gather-ends : looks_on row look m.places ≡ false → row.slots ≡ packed (round_of lanes m)
  gather-ends h = by-below 0 row.lanes (λ some. by-below look m.places (λ b. clash (rw (lt-ltb 0 row.lanes some) (lt-ltb look m.places b)) h) no_slot) no_lane
    where
      none : taken m row.lanes (m.places - look) look ≡ [] → row.slots ≡ packed (round_of lanes m)
      none e =
          let z : row.unit * packed (taken m row.lanes (m.places - look) look) ≡ row.unit * 0 = ap (λ ks. row.unit * packed ks) e ∙ ap (λ n. row.unit * n) none-packed in
          omega (arith, g.whole)

      no_lane : row.lanes ≤ 0 → row.slots ≡ packed (round_of lanes m)
      no_lane b =
          let z : row.lanes ≡ 0 = omega arith in
          none (ap (λ l. taken m l (m.places - look) look) z ∙ taken_none m (m.places - look) look)

      no_slot : m.places ≤ look → row.slots ≡ packed (round_of lanes m)
      no_slot b =
          let z : m.places - look ≡ 0 = omega arith in
          none (ap (λ n. taken m row.lanes n look) z ∙ taken_out m row.lanes look)
