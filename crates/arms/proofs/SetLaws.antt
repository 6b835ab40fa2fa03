-- Each way through an arm that sets a register.
use mathlib.Core.Path.{◌≡◌, refl, ap, subst, ◌∙◌}
use mathlib.Core.Bool.{Bool, true, false, not, ◌&&◌, ◌||◌}
use mathlib.Core.List.{List, [], ◌∷◌}
use Prim.Native.Nat.{ℕ, zero, suc, ◌+◌, ◌*◌, ◌-◌, ◌%◌, ◌^◌, ◌<◌, ◌≤◌}
use native.Mathlib.Omega.{arith}
use lib.Dec.{eqb, ltb, leb}
use lib.IntN.{ℤ, pos, negsuc}
use lib.ListN.{length, get_or, set}
use mir.Syntax.{w64}
use mir.Val.{SFits, to_z, of_z, sel}
use mir.ValLaws.{to_z-of_z}
use borrow.Author.Tests.{eqb-false, leb-true, not-true, lt-ltb, le-ltb, ne_eqb}
use Rattle.facts.proofs.Tests.{clash, both_true, never, by-below}
use Rattle.image.specs.Program.{Program}
use Rattle.task.specs.declared.Value.{Value}
use Rattle.task.specs.declared.Value.TheVariants.{Int, Label, Record}
use Rattle.task.specs.declared.Register.{Register}
use Rattle.task.specs.declared.Fork.{Fork}
use Rattle.task.specs.declared.Active.{Active}
use Rattle.task.specs.Choices.{Choices}
use Rattle.task.specs.Effect.{Effect, stores, faults, asked, integer, word, jralloc, unknown, opcodes, effect_of}
use Rattle.task.specs.Formed.{every}
use Rattle.task.proofs.EveryLaws.{every-at}
use Rattle.arms.specs.declared.Way.{Way}
use Rattle.arms.specs.declared.Way.TheVariants.{On, Off, Fault}
use Rattle.arms.specs.declared.Registers.{Registers}
use Rattle.arms.specs.Registers.{registers_in, value_of, registers_of, Sized, in_register, operand_by}
use Rattle.arms.specs.Arms.{active, Context, IfOff, Sets, computing, SetsAs, SetsBy}
use Rattle.arms.proofs.RegisterLaws.{written, value-at, integer-at}

-- it leaves all as it was
pub unset : (n : ℕ) → 2 ≤ n → {r : ℕ} {registers : List Register} {e : Effect} → e ≡ faults n → Sets (Fault n) r registers registers e
unset n l h = record { did = tt; failed = (l, h, refl); not_off = tt }

-- it stores bits of a kind
pub sets : (nums kinds : List ℕ) (r u k : ℕ) {nums' kinds' : List ℕ} {e : Effect} (w : Value) → value_of k u ≡ w → e ≡ stores w
    → nums' ≡ set nums r u → kinds' ≡ set kinds r k → Sets On r (registers_of nums kinds) (registers_of nums' kinds') e
sets nums kinds r u k w h e p q = record { did = (w, e, rw (p, q) (written nums kinds r u k ∙ rw h)); failed = tt; not_off = tt }

-- ---- of integers

-- an operand that is none
pub no-integer : (k u : ℕ) → (k ≡ 0 → ⊥) → (after : ℤ → Effect) → integer (value_of k u) 31 after ≡ faults 31
no-integer zero u n after = absurd (n refl)
no-integer (suc zero) u n after = refl
no-integer (suc (suc k)) u n after = refl

-- whatever the first is
second-faults : (s : Value) → integer s 31 (λ a. faults 31) ≡ faults 31
second-faults (Int z) = refl
second-faults (Label b) = refl
second-faults (Record c d) = refl

pub no_second : (s : Value) (k u : ℕ) → (k ≡ 0 → ⊥) → (after : ℤ → ℤ → Effect) → computing after s (value_of k u) ≡ faults 31
no_second s zero u n after = absurd (n refl)
no_second s (suc zero) u n after = second-faults s
no_second s (suc (suc k)) u n after = second-faults s

module _ (nums kinds : List ℕ) (i : ℕ) (h : Sized nums kinds) (l : i < 16) (n : get_or kinds i 0 ≡ 0 → ⊥) {r : ℕ} where
  pub left_other : (after : ℤ → Effect) → Sets (Fault 31) r (registers_of nums kinds) (registers_of nums kinds) (integer (in_register i (registers_of nums kinds)) 31 after)
  left_other after = unset 31 (omega arith) (ap (λ w. integer w 31 after) (value-at nums kinds i h l) ∙ no-integer (get_or kinds i 0) (get_or nums i 0) n after)

  pub right-other : (after : ℤ → ℤ → Effect) (s : Value)
      → Sets (Fault 31) r (registers_of nums kinds) (registers_of nums kinds) (computing after s (in_register i (registers_of nums kinds)))
  right-other after s =
      unset 31 (omega arith) (ap (computing after s) (value-at nums kinds i h l) ∙ no_second s (get_or kinds i 0) (get_or nums i 0) n after)

-- what an operation makes of the integer in s and b
module _ (nums kinds : List ℕ) (r s b : ℕ) (h : Sized nums kinds) (l : s < 16) (int : get_or kinds s 0 ≡ 0) (after : ℤ → ℤ → Effect) where
  abbrev computed : Effect
  computed = computing after (in_register s (registers_of nums kinds)) (Int (to_z w64 b))

  pub sets_computed : (u : ℕ) {nums' kinds' : List ℕ} → nums' ≡ set nums r u → kinds' ≡ set kinds r 0
      → after (to_z w64 (get_or nums s 0)) (to_z w64 b) ≡ stores (Int (to_z w64 u))
      → Sets On r (registers_of nums kinds) (registers_of nums' kinds') computed
  sets_computed u x y z = sets nums kinds r u 0 (Int (to_z w64 u)) refl (rw (integer-at nums kinds s h l int) z) x y

  pub by_zero : after (to_z w64 (get_or nums s 0)) (to_z w64 b) ≡ faults 32 → Sets (Fault 32) r (registers_of nums kinds) (registers_of nums kinds) computed
  by_zero z = unset 32 (omega arith) (rw (integer-at nums kinds s h l int) z)

-- ---- word v of the call record, where v is an integer's bits

small_bits : (u : ℕ) → u < 2 ^ 63 → to_z w64 u ≡ pos u
small_bits u h = rw (lt-ltb u (2 ^ 63) h)

module _ (words : List ℤ) (v : ℕ) (p : Program) (c : Choices) (s : Value) (t : Active) (o : List Fork) where
  pub gives-word : (u : ℕ) → v < length words → v < 2 ^ 63 → SFits w64 (get_or words v (pos 0)) → u ≡ of_z w64 (to_z w64 (of_z w64 (get_or words v (pos 0))))
      → effect_of p words c s (Int (to_z w64 v)) t o word ≡ stores (Int (to_z w64 u))
  unfolding asked
  gives-word u inside small fits e =
      let q : to_z w64 u ≡ get_or words v (pos 0) = ap (to_z w64) (e ∙ ap (of_z w64) (to_z-of_z w64 _ fits)) ∙ to_z-of_z w64 _ fits in
      rw (small_bits v small, q, lt-ltb v (length words) inside)

  pub no_word : length words ≤ v → effect_of p words c s (Int (to_z w64 v)) t o word ≡ faults 33
  unfolding asked
  no_word past = go (ltb v (2 ^ 63))
    where
      go : (z : Bool) → effect_of p words c s (Int (sel z (pos v) (negsuc (2 ^ 64 - suc v)))) t o word ≡ faults 33
      go true = rw (le-ltb v (length words) past)
      go false = refl

-- ---- jralloc of a label

module _ (program : Program) (words : List ℤ) (c : Choices) (s : Value) (t : Active) (o : List Fork) where
  pub no_target : (b : ℕ) → ((program.block b).annotation ≡ 2 → ⊥) → effect_of program words c s (Label b) t o jralloc ≡ faults 35
  unfolding asked
  no_target b n = rw (ne_eqb _ 2 n)

  pub gives_record : (b d : ℕ) → (program.block b).annotation ≡ 2 → t.depth ≡ d → effect_of program words c s (Label b) t o jralloc ≡ stores (Record b d)
  unfolding asked
  gives_record b d e q = rw (e, q)

  pub no_label : (k u : ℕ) → (k ≡ 1 → ⊥) → effect_of program words c s (value_of k u) t o jralloc ≡ faults 35
  no_label zero u n = refl
  no_label (suc zero) u n = absurd (n refl)
  no_label (suc (suc k)) u n = refl

  -- no operation, nor word, of a label
  pub label-refused : (n b : ℕ) → 2 ≤ n → n ≤ 9 → effect_of program words c s (Label b) t o (get_or opcodes n unknown) ≡ faults 31
  label-refused zero b l h = absurd (omega arith)
  label-refused (suc zero) b l h = absurd (omega arith)
  label-refused (suc (suc zero)) b l h = second-faults s
  label-refused (suc (suc (suc zero))) b l h = second-faults s
  label-refused (suc (suc (suc (suc zero)))) b l h = second-faults s
  label-refused (suc (suc (suc (suc (suc zero))))) b l h = second-faults s
  label-refused (suc (suc (suc (suc (suc (suc zero)))))) b l h = second-faults s
  label-refused (suc (suc (suc (suc (suc (suc (suc zero))))))) b l h = second-faults s
  label-refused (suc (suc (suc (suc (suc (suc (suc (suc zero)))))))) b l h = second-faults s
  label-refused (suc (suc (suc (suc (suc (suc (suc (suc (suc zero))))))))) b l h = refl
  label-refused (suc (suc (suc (suc (suc (suc (suc (suc (suc (suc n)))))))))) b l h = absurd (omega arith)

-- ---- an arm by its number: N + 32 K is n + 32 k for no other n and k

-- what is not left to others
off-not : (way : Way) (P : Type 0) → IfOff way ⊥ → IfOff way P
off-not On P q = tt
off-not Off P q = absurd q
off-not (Fault n) P q = tt

off_so : (way : Way) (P Q : Type 0) → (P → Q) → IfOff way P → IfOff way Q
off_so On P Q f p = tt
off_so Off P Q f p = f p
off_so (Fault n) P Q f p = tt

module _ (x : Context) (least arm : ℕ) (way : Way) (r s v : ℕ) (before after : Registers) where
  abbrev Does : ℕ → ℕ → ℕ → Type 0
  Does i n k = SetsAs x (get_or opcodes n unknown) way i before after (in_register s) (operand_by k v)

  pub by_number : (N K : ℕ) → N < 13 → K ≤ 3 → arm ≡ N + 32 * K → {read : ℕ} → read ≡ r → Does read N K → SetsBy x least arm way r s v before after
  by_number N K few known e same h = record {
    still_sized = h.0;
    carried = λ q. (omega (arith, few, known, e), omega (arith, few, known, e));
    as_table = λ q n k low f.
        let p : N ≡ n = omega (arith, few, low, e, f) in
        let z : K ≡ k = omega (arith, few, low, e, f) in
        subst (λ j. Does r j k) p (subst (λ j. Does r N j) z (subst (λ i. Does i N K) same h));
    untouched = off-not way _ set_one;
    others = off-not way _ set_one;
  }
    where
      set_one : IfOff way ⊥
      set_one = (h.1 (active 0 0 0 x.depth) [] refl).not_off

-- ---- and those that set none

module _ (x : Context) (least arm r s v : ℕ) (before : Registers) (sized : Sized before.nums before.kinds) where
  abbrev Refused : ℕ → ℕ → Active → List Fork → ℕ → Type 0
  Refused n k t o way =
      effect_of x.program x.words x.choices (in_register s (registers_in before)) (operand_by k v (registers_in before)) t o (get_or opcodes n unknown)
      ≡ faults way

  -- a fault, whatever the registers hold
  pub refused : (way : ℕ) → 2 ≤ way → arm < 128 → arm % 32 < 13
      → ((n k : ℕ) → n ≤ 17 → arm ≡ n + 32 * k → (t : Active) (o : List Fork) → Refused n k t o way) → SetsBy x least arm (Fault way) r s v before before
  refused way l small few e = record {
    still_sized = sized;
    carried = λ q. (small, few);
    as_table = λ q n k low f. (sized, λ t o d. unset way l (e n k low f t o));
    untouched = tt;
    others = tt;
  }

  pub refused-number : arm ≡ 107 → SetsBy x least arm (Fault 35) r s v before before
  refused-number e = refused 35 (omega arith) (omega (arith, e)) (omega (arith, e)) λ n k low f t o.
      let p : 11 ≡ n = omega (arith, low, e, f) in
      let z : 3 ≡ k = omega (arith, low, e, f) in
      subst (λ i. Refused i k t o 35) p (subst (λ j. Refused 11 j t o 35) z refl)

  pub refused-label : 66 ≤ arm → arm ≤ 73 → SetsBy x least arm (Fault 31) r s v before before
  refused-label p q = refused 31 (omega arith) (omega (arith, q)) (omega (arith, p, q)) λ n k low f t o.
      let z : 2 ≡ k = omega (arith, low, f, p, q) in
      subst (λ j. Refused n j t o 31) z
      (label-refused x.program x.words x.choices (in_register s (registers_in before)) t o n v (omega (arith, z, f, p)) (omega (arith, z, f, q)))

-- none of these numbers, the last first
abbrev pub NoneOf : ℕ → List ℕ → Type 0
NoneOf a [] = Unit {0}
NoneOf a (k ∷ ks) = NoneOf a ks × (a ≡ k → ⊥)

abbrev one_of : ℕ → List ℕ → Bool
one_of a [] = false
one_of a (k ∷ ks) = eqb a k || one_of a ks

none_of : (a : ℕ) (ks : List ℕ) → NoneOf a ks → one_of a ks ≡ false
none_of a [] h = refl
none_of a (k ∷ ks) h = rw (ne_eqb a k h.1) (none_of a ks h.0)

-- the arms of `set_register` and of `set_immediate`, the last first
abbrev pub of_register : List ℕ
of_register = 43 ∷ 41 ∷ 40 ∷ 39 ∷ 38 ∷ 37 ∷ 36 ∷ 35 ∷ 34 ∷ 33 ∷ []

abbrev pub immediate : List ℕ
immediate = 107 ∷ 105 ∷ 104 ∷ 103 ∷ 102 ∷ 101 ∷ 100 ∷ 99 ∷ 98 ∷ 97 ∷ 75 ∷ 65 ∷ []

-- that of kind k and opcode n is among these or those of the labels that are refused, or n is an opcode that sets no register, or 0
abbrev sorted : List ℕ → ℕ → ℕ → Bool
sorted arms k n =
    one_of (n + 32 * k) arms || ((leb 66 (n + 32 * k) && leb (n + 32 * k) 73) || (ltb n 1 || (leb 10 n && not (eqb n 11))))

registers-sorted : every (sorted of_register 1) 18 0 ≡ true
unfolding every
registers-sorted = refl

labels_sorted : every (sorted immediate 2) 18 0 ≡ true
unfolding every
labels_sorted = refl

numbers-sorted : every (sorted immediate 3) 18 0 ≡ true
unfolding every
numbers-sorted = refl

second : (a b : Bool) → a ≡ false → a || b ≡ true → b ≡ true
second true b e h = clash refl e
second false b e h = h

-- an arm that is not among them is of opcode 10 or 12 to 17
other-opcode : (arms : List ℕ) (k : ℕ) → every (sorted arms k) 18 0 ≡ true → (arm : ℕ) → NoneOf arm arms → (66 ≤ arm → arm ≤ 73 → ⊥)
    → (n : ℕ) → 1 ≤ n → n ≤ 17 → arm ≡ n + 32 * k → (10 ≤ n) × (n ≡ 11 → ⊥)
other-opcode arms k all arm rest outside n least most e =
    let t = every-at (sorted arms k) 18 0 all n (omega arith) (omega (arith, most)) in
    let u = second (one_of (n + 32 * k) arms) _ (subst (λ a. one_of a arms ≡ false) e (none_of arm arms rest)) t in
    let w = second (leb 66 (n + 32 * k) && leb (n + 32 * k) 73) _ (subst (λ a. leb 66 a && leb a 73 ≡ false) e between) u in
    let b = both_true (leb 10 n) (not (eqb n 11)) (second (ltb n 1) _ (le-ltb n 1 least) w) in
    (leb-true 10 n b.0, eqb-false n 11 (not-true (eqb n 11) b.1))
  where
    between : leb 66 arm && leb arm 73 ≡ false
    between = never _ (λ h.
        let b = both_true (leb 66 arm) (leb arm 73) h in
        outside (leb-true 66 arm b.0) (leb-true arm 73 b.1))

module _ (x : Context) (arm r s v : ℕ) (before : Registers) where
  pub left_over : NoneOf arm immediate → (66 ≤ arm → arm ≤ 73 → ⊥) → Sized before.nums before.kinds → SetsBy x 2 arm Off r s v before before
  left_over rest outside sized = record {
    still_sized = sized;
    carried = λ q. absurd q;
    as_table = λ q. absurd q;
    untouched = refl;
    others = λ n k least most low high e. by-below k 3
        (λ l. other-opcode immediate 2 labels_sorted arm rest outside n least most (omega (arith, e, low, l)))
        (λ l. other-opcode immediate 3 numbers-sorted arm rest outside n least most (omega (arith, e, high, l)));
  }

  -- nor is it one whose operand is a register
  pub no_register : NoneOf arm of_register → {way : Way} {after : Registers} → SetsBy x 2 arm way r s v before after
      → SetsBy x 1 arm way r s v before after
  no_register rest {way} h = record {
    still_sized = h.still_sized;
    carried = h.carried;
    as_table = h.as_table;
    untouched = h.untouched;
    others = off_so way _ _ (λ others n k least most low high e. by-below k 2
        (λ l. other-opcode of_register 1 registers-sorted arm rest (λ p z. omega (arith, p, most, e, l)) n least most (omega (arith, e, low, l)))
        (λ l. others n k least most l high e)) h.others;
  }
