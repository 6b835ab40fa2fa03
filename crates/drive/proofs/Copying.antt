-- Registers, or values of a stack, copied one by one from a stretch of one list to a stretch of another; and a stack's values dropped.
use Prim.Native.Nat.{ℕ, zero, suc, ◌+◌, ◌*◌, ◌-◌, ◌<◌, ◌≤◌}
use mathlib.Core.Path.{◌≡◌, refl, sym, ap, ◌∙◌}
use mathlib.Core.List.{List, [], ◌∷◌, ◌++◌}
use native.Mathlib.Omega.{arith}
use native.Mathlib.Nat.{add-zero}
use native.Mathlib.Numerals.{add-one}
use lib.ListN.{length, get_or, set, replicate}
use lib.Seq.{sets, length-sets, set-get_or, get_or-set_other}
use Rattle.task.specs.declared.Register.{Register}
use Rattle.task.specs.Frames.{zero_register, stack_length, empty_stack}
use Rattle.task.specs.Stretches.{reads}
use Rattle.task.proofs.StretchLaws.{length-reads, reads_same, reads_all, reads_snoc}
use Rattle.drive.specs.declared.State.{State}
use Rattle.drive.specs.Moves.{with_arrays, dropping}
use Rattle.drive.specs.Slots.{at}
use Rattle.drive.proofs.SlotLaws.{whole}
use Rattle.drive.proofs.InPlace.{sets-after, entry_at}

module _ {A : Type 0} (d : A) where
  sets_snoc : (vs l : List A) (b : ℕ) (v : A) → set (sets l b vs) (b + length vs) v ≡ sets l b (vs ++ (v ∷ []))
  sets_snoc [] l b v = rw add-zero
  sets_snoc (w ∷ vs) l b v =
      let e : b + suc (length vs) ≡ suc b + length vs = omega arith in
      rw e (sets_snoc vs (set l b w) (suc b) v)

  pub copied_none : (l from : List A) (b a : ℕ) → l ≡ sets l b (reads d from a 0)
  unfolding reads
  copied_none l from b a = refl

  -- i elements from `a` on copied to `b` on, and one more
  pub copied_next : (l from : List A) (b a i at source : ℕ) → at ≡ b + i → source ≡ a + i
      → set (sets l b (reads d from a i)) at (get_or from source d) ≡ sets l b (reads d from a (i + 1))
  copied_next l from b a i at source p q =
      let n : length (reads d from a i) ≡ i = length-reads d from a i in
      let z : reads d from a (suc i) ≡ reads d from a i ++ (get_or from (a + i) d ∷ []) = reads_snoc d from a i in
      rw (p, q)
      (ap (λ x. set (sets l b (reads d from a i)) (b + x) (get_or from (a + i) d)) (sym n)
      ∙ sets_snoc (reads d from a i) l b (get_or from (a + i) d)
      ∙ rw (add-one, z))

  -- as many as the list has
  pub copied_all : (l vs : List A) → length l ≡ length vs → sets l 0 vs ≡ vs
  copied_all l vs e =
      sym (reads_all d (sets l 0 vs)) ∙ ap (reads d (sets l 0 vs) 0) (length-sets l 0 vs ∙ e) ∙ reads_same d vs l 0 (omega arith)

-- ---- a stack's values dropped

-- where those from the d-th on are 0 already, all n are
pub all_dropped : (l : List Register) (b d n : ℕ) → d ≤ n → ((i : ℕ) → d ≤ i → i < n → get_or l (b + i) zero_register ≡ zero_register)
    → sets l b (replicate d zero_register) ≡ sets l b (replicate n zero_register)
all_dropped l b zero zero h z = refl
all_dropped l b zero (suc n) h z =
    let here : b + 0 ≡ b = omega arith in
    let still : set l b zero_register ≡ l =
    ap (set l b) (sym (z 0 (omega arith) (omega arith)) ∙ ap (λ x. get_or l x zero_register) here) ∙ set-get_or l b zero_register in
    all_dropped l (suc b) zero n (omega arith)
    (λ i p q. let next : suc b + i ≡ b + suc i = omega arith in ap (λ x. get_or l x zero_register) next ∙ z (suc i) (omega arith) (omega arith))
    ∙ ap (λ x. sets x (suc b) (replicate n zero_register)) (sym still)
all_dropped l b (suc d) zero h z = absurd (omega arith)
all_dropped l b (suc d) (suc n) h z =
    all_dropped (set l b zero_register) (suc b) d n (omega arith)
    (λ i p q. let next : suc b + i ≡ b + suc i = omega arith in
    get_or-set_other l b (suc b + i) zero_register zero_register (omega arith) ∙ ap (λ x. get_or l x zero_register) next ∙ z (suc i) (omega arith) (omega arith))

module _ (m : State) (k n : ℕ) where
  pub drop-none : m ≡ dropping m k n n
  drop-none = let none : n - n ≡ 0 = omega arith in rw none

  -- one more, from the last down
  pub drop-next : {m' : State} {r : Register} (left : ℕ) → 0 < left → left ≤ n → m' ≡ dropping m k n left → r ≡ zero_register
      → with_arrays m' m'.bank (set m'.stacks (32 * k + (left - 1)) r) m'.tasks ≡ dropping m k n (left - 1)
  drop-next {m'} {r} left some most is zero_is =
      let b = 32 * k + (left - 1) in
      let zs = replicate (n - left) zero_register in
      let more : n - (left - 1) ≡ suc (n - left) = omega arith in
      let behind : 32 * k + left ≡ suc b = omega arith in
      ap (λ (o : State). with_arrays o o.bank (set o.stacks b r) o.tasks) is
      ∙ ap (λ (v : Register). with_arrays m m.bank (set (sets m.stacks (32 * k + left) zs) b v) m.tasks) zero_is
      ∙ ap (λ (x : ℕ). with_arrays m m.bank (set (sets m.stacks x zs) b zero_register) m.tasks) behind
      ∙ ap (λ (l : List Register). with_arrays m m.bank l m.tasks) (sym (sets-after zs m.stacks (suc b) b zero_register (omega arith)))
      ∙ ap (λ (x : ℕ). with_arrays m m.bank (sets m.stacks b (replicate x zero_register)) m.tasks) (sym more)

  -- all that a stack has: it is empty
  pub drop_all : {left : ℕ} → left ≤ 0 → n ≤ stack_length → ((i : ℕ) → n ≤ i → i < stack_length → get_or (at m k).stack i zero_register ≡ zero_register)
      → dropping m k n left ≡ with_arrays m m.bank (sets m.stacks (32 * k) (reads zero_register empty_stack 0 stack_length)) m.tasks
  drop_all {left} none most above =
      let first : 32 * k + left ≡ 32 * k = omega arith in
      let all : n - left ≡ n = omega arith in
      rw (first, all)
      (ap (λ (l : List Register). with_arrays m m.bank l m.tasks)
      (all_dropped m.stacks (32 * k) n stack_length most (λ i p q. sym (entry_at m k i q) ∙ above i p q)
      ∙ ap (sets m.stacks (32 * k)) (sym (whole stack_length empty_stack refl))))
