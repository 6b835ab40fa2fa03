-- Banks of registers, and the pairs of a join.
use mathlib.Core.Path.{◌≡◌, sym, ap, subst, ◌∙◌}
use mathlib.Core.List.{List}
use Prim.Native.Nat.{ℕ, suc, ◌-◌, ◌/◌, ◌%◌, ◌<◌, ◌≤◌}
use native.Mathlib.Omega.{arith}
use lib.ListN.{length, get_or, set}
use lib.Seq.{get_or-set_same, get_or-set_other}
use Rattle.facts.proofs.Tests.{by_order}
use Rattle.task.specs.declared.Register.{Register}
use Rattle.task.specs.Frames.{zero_register}
use Rattle.task.specs.Step.{copied}
use Rattle.task.proofs.Copying.{copies_first, copies_none}
use Rattle.arms.specs.declared.Registers.{Registers}
use Rattle.arms.specs.Registers.{value_of, Sized}
use Rattle.evaluator.specs.Banks.{bank_of, no_bank}
use Rattle.arms.proofs.RegisterLaws.{written, value-at}

abbrev pub BankSized : List Registers → ℕ → Type 0
BankSized banks d = let b = get_or banks d no_bank in Sized b.nums b.kinds

-- registers stored in a bank: all still have 16
pub banks_stay_sized : (banks : List Registers) (d : ℕ) (r : Registers) → length banks ≡ 6 → Sized r.nums r.kinds
    → ((i : ℕ) → i < 6 → BankSized banks i) → (i : ℕ) → i < 6 → BankSized (set banks d r) i
banks_stay_sized banks d r full sized all i l = by_order i d
    (λ b. other (λ e. absurd (omega (arith, e, b))))
    (λ b.
    let e : get_or (set banks d r) i no_bank ≡ r = ap (λ j. get_or (set banks d r) j no_bank) b ∙ get_or-set_same banks d r no_bank (omega (arith, b, l, full)) in
    subst (λ (x : Registers). Sized x.nums x.kinds) (sym e) sized)
    (λ b. other (λ e. absurd (omega (arith, e, b))))
  where
    other : (i ≡ d → ⊥) → BankSized (set banks d r) i
    other n = subst (λ (x : Registers). Sized x.nums x.kinds) (sym (get_or-set_other banks d i r no_bank n)) (all i l)

-- ---- the pairs of a join

-- one pair more
pub merges_one : (r theirs : Registers) (n m packed : ℕ) {r' : Registers} (start : List Register) → Sized theirs.nums theirs.kinds → n ≡ suc m
    → start ≡ copied (bank_of theirs) n packed (bank_of r)
    → r'.nums ≡ set r.nums (packed % 16) (get_or theirs.nums (packed / 16 % 16) 0) → r'.kinds ≡ set r.kinds (packed % 16) (get_or theirs.kinds (packed / 16 % 16) 0)
    → start ≡ copied (bank_of theirs) m (packed / 256) (bank_of r')
merges_one r theirs n m packed start sized more h p q =
    let less : n - 1 ≡ m = omega (arith, more) in
    let s = packed / 16 % 16 in
    let u = get_or theirs.nums s 0 in
    let k = get_or theirs.kinds s 0 in
    let e : record { value = value_of k u } ≡ get_or (bank_of theirs) s zero_register =
    ap (λ v. record { value = v }) (sym (value-at theirs.nums theirs.kinds s sized (omega arith))) in
    h ∙ copies_first (bank_of theirs) n packed (bank_of r) (omega (arith, more))
    ∙ rw (p, q, less) (ap (λ l. copied (bank_of theirs) m (packed / 256) l)
    (ap (set (bank_of r) (packed % 16)) (sym e) ∙ sym (written r.nums r.kinds (packed % 16) u k)))

pub merges_none : (r theirs : Registers) (n packed : ℕ) (start : List Register) → n ≤ 0 → start ≡ copied (bank_of theirs) n packed (bank_of r) → bank_of r ≡ start
merges_none r theirs n packed start l h = sym (h ∙ copies_none (bank_of theirs) n packed (bank_of r) l)
