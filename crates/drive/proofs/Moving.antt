-- Registers moved inside the bank: what a fork copies, what a fault and a join clear, and a join's pairs.
use Prim.Native.Nat.{ℕ, zero, suc, ◌+◌, ◌*◌, ◌-◌, ◌/◌, ◌%◌, ◌≤◌, ◌<◌}
use mathlib.Core.Path.{◌≡◌, refl, sym, ap, ◌∙◌}
use mathlib.Core.Logic.{◌⊎◌, inl, inr}
use mathlib.Core.List.{List, [], ◌∷◌}
use native.Mathlib.Omega.{arith}
use native.Mathlib.Nat.{add-zero}
use lib.ListN.{length, get_or, set, get_or-replicate}
use lib.Seq.{sets, set-set, get_or-set_other}
use Rattle.facts.proofs.Tests.{by-test}
use Rattle.image.specs.Layout.{program_of}
use Rattle.agreement.specs.Slots.{due, merged, settle}
use Rattle.agreement.proofs.SlotLaws.{settle-none, settle-go, settle_stop}
use Rattle.task.specs.declared.Register.{Register}
use Rattle.task.specs.Frames.{zero_register, zeros}
use Rattle.task.specs.Stretches.{reads}
use Rattle.task.proofs.StretchLaws.{length-reads, get_d_reads}
use Rattle.drive.specs.declared.State.{State}
use Rattle.drive.specs.Moves.{with_arrays, filling, placed}
use Rattle.drive.specs.Slots.{at, ticked, slots_of}
use Rattle.drive.proofs.InPlace.{sets-after, sets-reads}
use Rattle.drive.proofs.Copying.{copied_none, copied_next}

-- ---- stretches of a list

module _ {A : Type 0} where
  -- two stretches that lie apart
  pub sets_apart : (xs ys l : List A) (a b : ℕ) → a + length xs ≤ b → sets (sets l a xs) b ys ≡ sets (sets l b ys) a xs
  sets_apart [] ys l a b h = refl
  sets_apart (x ∷ xs) ys l a b h =
      sets_apart xs ys (set l a x) (suc a) b (omega arith) ∙ ap (λ m. sets m (suc a) xs) (sets-after ys l b a x (omega arith))

  -- a store inside a stretch
  pub stored_in_lem : (vs l : List A) (b i : ℕ) (v : A) → i < length vs → set (sets l b vs) (b + i) v ≡ sets l b (set vs i v)
  stored_in_lem [] l b i v h = absurd (omega arith)
  stored_in_lem (w ∷ vs) l b zero v h = rw add-zero (sym (sets-after vs (set l b w) (suc b) b v (omega arith)) ∙ ap (λ x. sets x (suc b) vs) (set-set l b w v))
  stored_in_lem (w ∷ vs) l b (suc i) v h =
      let e : b + suc i ≡ suc b + i = omega arith in
      rw e (stored_in_lem vs (set l b w) (suc b) i v (omega arith))

  -- an element outside the stretch
  pub outside : (vs l : List A) (b j : ℕ) (d : A) → (j < b) ⊎ (b + length vs ≤ j) → get_or (sets l b vs) j d ≡ get_or l j d
  outside [] l b j d h = refl
  outside (v ∷ vs) l b j d (inl h) = outside vs (set l b v) (suc b) j d (inl (omega arith)) ∙ get_or-set_other l b j v d (omega arith)
  outside (v ∷ vs) l b j d (inr h) = outside vs (set l b v) (suc b) j d (inr (omega arith)) ∙ get_or-set_other l b j v d (omega arith)

-- ---- settling and the count of the work

settle_tick_by : (cells : List ℕ) (d : ℕ) (m : State) (k : ℕ) → settle (slots_of (program_of cells)) d (ticked m) k ≡ ticked (settle (slots_of (program_of cells)) d m k)
settle_tick_by cells zero m k = settle-none (slots_of (program_of cells)) (ticked m) k ∙ ap ticked (sym (settle-none (slots_of (program_of cells)) m k))
settle_tick_by cells (suc d) m k =
    let w = (at m k).task.places in
    let q = k - k % (2 * w) in
    by-test (due (slots_of (program_of cells)) m q w (suc d))
    (λ t. settle-go (slots_of (program_of cells)) d (ticked m) k q w refl refl t ∙ settle_tick_by cells d (merged (slots_of (program_of cells)) m q w) q
    ∙ ap ticked (sym (settle-go (slots_of (program_of cells)) d m k q w refl refl t)))
    (λ t. settle_stop (slots_of (program_of cells)) d (ticked m) k q w refl refl t ∙ ap ticked (sym (settle_stop (slots_of (program_of cells)) d m k q w refl refl t)))

pub settle_tick : (cells : List ℕ) (d : ℕ) (m : State) (k : ℕ) → settle (slots_of (program_of cells)) d (ticked m) k ≡ ticked (settle (slots_of (program_of cells)) d m k)
settle_tick = settle_tick_by

-- ---- registers of slots

-- i registers of `from` stored from slot z's first on, and one more, whose value was found in the bank or is 0
pub filled_next : (bank from : List Register) (z i : ℕ) (r : Register) → r ≡ get_or from i zero_register
    → set (sets bank (16 * z) (reads zero_register from 0 i)) (16 * z + i) r ≡ sets bank (16 * z) (reads zero_register from 0 (i + 1))
filled_next bank from z i r e =
    ap (set (sets bank (16 * z) (reads zero_register from 0 i)) (16 * z + i)) e
    ∙ copied_next zero_register bank from (16 * z) 0 i (16 * z + i) i refl (omega arith)

-- a register of slot k while slot z's are written
pub still-there : (bank vs : List Register) (z k i : ℕ) → length vs ≤ 16 → (z < k) ⊎ (k < z) → i < 16
    → get_or (sets bank (16 * z) vs) (16 * k + i) zero_register ≡ get_or (reads zero_register bank (16 * k) 16) i zero_register
still-there bank vs z k i n (inl h) s =
    outside vs bank (16 * z) (16 * k + i) zero_register (inr (omega arith)) ∙ sym (get_d_reads zero_register bank (16 * k) 16 i s)
still-there bank vs z k i n (inr h) s =
    outside vs bank (16 * z) (16 * k + i) zero_register (inl (omega arith)) ∙ sym (get_d_reads zero_register bank (16 * k) 16 i s)

-- ---- a slot's registers filled, in a state that the loops change in place

-- one register stored
abbrev pub stored_in : State → ℕ → Register → State
stored_in m i r = with_arrays m (set m.bank i r) m.stacks m.tasks

module _ (m₀ : State) (z : ℕ) (from : List Register) where
  pub filling-none : m₀ ≡ filling m₀ z from 0
  filling-none = λ j. with_arrays m₀ (copied_none zero_register m₀.bank from (16 * z) 0 j) m₀.stacks m₀.tasks

  pub filling-next : {m : State} {r : Register} (i : ℕ) → m ≡ filling m₀ z from i → r ≡ get_or from i zero_register
      → stored_in m (16 * z + i) r ≡ filling m₀ z from (i + 1)
  filling-next {m} {r} i p e =
      ap (λ (n : State). stored_in n (16 * z + i) r) p
      ∙ (λ j. with_arrays m₀ (filled_next m₀.bank from z i r e j) m₀.stacks m₀.tasks)

-- 16 integers 0
pub zero_next : (m₀ : State) (z : ℕ) {m : State} {r : Register} (i : ℕ) → m ≡ filling m₀ z zeros i → i < 16 → r ≡ zero_register
    → stored_in m (16 * z + i) r ≡ filling m₀ z zeros (i + 1)
zero_next m₀ z {m} i p small e = filling-next m₀ z zeros i p (e ∙ sym (get_or-replicate 16 i zero_register zero_register small))

-- the registers of slot k, which stays as it is
pub copy_next : (m₀ : State) (z k : ℕ) {m : State} {r : Register} (i : ℕ) → (z < k) ⊎ (k < z) → m ≡ filling m₀ z (at m₀ k).registers i → i < 16
    → r ≡ get_or m.bank (16 * k + i) zero_register → stored_in m (16 * z + i) r ≡ filling m₀ z (at m₀ k).registers (i + 1)
copy_next m₀ z k {m} {r} i apart p small e =
    let from = (at m₀ k).registers in
    let n : length (reads zero_register from 0 i) ≡ i = length-reads zero_register from 0 i in
    filling-next m₀ z from i p
    (e ∙ ap (λ (o : State). get_or o.bank (16 * k + i) zero_register) p ∙ still-there m₀.bank (reads zero_register from 0 i) z k i (omega (arith, n)) apart small)

-- ---- a slot's registers while pairs are copied into them

pub placed-none : (m : State) (z : ℕ) → m ≡ placed m z (at m z).registers
placed-none m z = λ j. with_arrays m (sym (sets-reads zero_register m.bank (16 * z) 16) j) m.stacks m.tasks

-- one pair copied from slot c, another one
pub placed-next : (m₀ : State) (q c : ℕ) → (q < c) ⊎ (c < q) → {m : State} {r : Register} (l : List Register) (packed : ℕ) → length l ≡ 16 → m ≡ placed m₀ q l
    → r ≡ get_or m.bank (16 * c + packed / 16 % 16) zero_register
    → stored_in m (16 * q + packed % 16) r ≡ placed m₀ q (set l (packed % 16) (get_or (at m₀ c).registers (packed / 16 % 16) zero_register))
placed-next m₀ q c apart {m} {r} l packed full p e =
    let found = e ∙ ap (λ (o : State). get_or o.bank (16 * c + packed / 16 % 16) zero_register) p in
    let v = found ∙ still-there m₀.bank l q c (packed / 16 % 16) (omega arith) apart (omega arith) in
    ap (λ (o : State). stored_in o (16 * q + packed % 16) r) p
    ∙ ap (λ (b : List Register). with_arrays m₀ b m₀.stacks m₀.tasks)
    (ap (set (sets m₀.bank (16 * q) l) (16 * q + packed % 16)) v ∙ stored_in_lem l m₀.bank (16 * q) (packed % 16) _ (omega arith))
