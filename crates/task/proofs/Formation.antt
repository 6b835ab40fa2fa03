-- What the test `formed` of a live frame says, field by field.
use mathlib.Core.Path.{◌≡◌, refl, ap}
use mathlib.Core.Logic.{◌⊎◌, inl, inr, ⊎_elim}
use mathlib.Core.Bool.{Bool, true, false, ◌&&◌, ◌||◌}
use Prim.Native.Nat.{ℕ, ◌+◌, ◌^◌, ◌<◌, ◌≤◌}
use native.Mathlib.Omega.{arith}
use lib.Dec.{eqb, ltb, leb}
use lib.ListN.{length, get_or, get_or-eq_default}
use borrow.Author.Tests.{eqb-true, ltb-true, leb-true, eq-eqb, lt-ltb, le-ltb, le-leb}
use Rattle.facts.proofs.Tests.{both_true, true_both, below_or_not}
use Rattle.image.specs.Program.{Program}
use Rattle.task.specs.declared.Register.{Register}
use Rattle.task.specs.declared.Task.{Task}
use Rattle.task.specs.declared.Frame.{Frame}
use Rattle.task.specs.Frames.{zero_fork, zero_register, zeros, stack_length}
use Rattle.task.specs.Step.{register, entry}
use Rattle.task.specs.Formed.{every, is_target, value_fits, is_zero, entry_fits, stack_fits, fork_fits, fault_listed, status_fits, is_full, formed}
use Rattle.task.proofs.Facts.{constant_at}
use Rattle.task.proofs.EveryLaws.{every-at, every_from}

-- a live task's frame: 2 ^ h places in a job of 2 ^ D
pub record Formed (program : Program) (D h : ℕ) (f : Frame) : Type 0 where
  pub registers_full : length f.registers ≡ 16
  pub forks_full : length f.task.forks ≡ 6
  pub stack_full : length f.stack ≡ 32
  pub has_places : f.task.places ≡ 2 ^ h
  pub has_depth : f.task.depth + h ≡ D
  pub pc_below : f.task.pc < program.instructions
  pub its_status_fits : status_fits program.version f f.task.status ≡ true
  pub its_forks_fit : (i : ℕ) → i < 6 → fork_fits program (ltb i f.task.depth) (get_or f.task.forks i zero_fork) ≡ true
  pub values_fit : (i : ℕ) → value_fits program (register f i) ≡ true
  pub height_most : f.task.height ≤ 32
  pub its_entries_fit : (i : ℕ) → entry_fits program (ltb i f.task.height) (entry f i) ≡ true

abbrev pub registers_fit : Program → Frame → Bool
registers_fit program f = every (λ i. value_fits program (register f i)) 16 0

abbrev pub forks_fit : Program → Task → Bool
forks_fit program t = every (λ i. fork_fits program (ltb i t.depth) (get_or t.forks i zero_fork)) 6 0

-- the 32 entries of the stack
abbrev pub entries_fit : Program → Frame → Bool
entries_fit program f = every (λ i. entry_fits program (ltb i f.task.height) (entry f i)) stack_length 0

-- a number of the version's fault list
abbrev pub Listed : ℕ → ℕ → Type 0
Listed version n = fault_listed version n ≡ true

either : (a b : Bool) → a || b ≡ true → (a ≡ true) ⊎ (b ≡ true)
either true b e = inl refl
either false b e = inr e

-- it is one of 31 to 43
pub listed-within : (version n : ℕ) → Listed version n → (31 ≤ n) × (n ≤ 43)
listed-within version n e =
    ⊎_elim
    (λ (x : leb 31 n && leb n 38 ≡ true).
    let p = both_true (leb 31 n) (leb n 38) x in
    let a = leb-true 31 n p.0 in
    let b = leb-true n 38 p.1 in
    omega arith)
    (λ (y : eqb version 2 && (eqb n 42 || eqb n 43) ≡ true).
    let p = both_true (eqb version 2) (eqb n 42 || eqb n 43) y in
    ⊎_elim
    (λ (z : eqb n 42 ≡ true). omega (arith, eqb-true n 42 z))
    (λ (z : eqb n 43 ≡ true). omega (arith, eqb-true n 43 z))
    (either (eqb n 42) (eqb n 43) p.1))
    (either (leb 31 n && leb n 38) (eqb version 2 && (eqb n 42 || eqb n 43)) e)

-- version 2 has 42 and 43
pub second-listed : (version : ℕ) → version ≡ 2 → Listed version 42 × Listed version 43
second-listed version e = (rw e, rw e)

-- ---- registers

-- past the sixteenth a register reads as the integer 0
pub all_fit : (program : Program) (f : Frame) → length f.registers ≡ 16 → ((i : ℕ) → i < 16 → value_fits program (register f i) ≡ true)
    → (i : ℕ) → value_fits program (register f i) ≡ true
all_fit program f full h i = ⊎_elim
    (λ (z : i < 16). h i z)
    (λ (z : 16 ≤ i). ap (λ (k : Register). value_fits program k.value) (get_or-eq_default f.registers zero_register {n = i} (omega arith)))
    (below_or_not i 16)

pub zeros-fit : (program : Program) (i : ℕ) → value_fits program (get_or zeros i zero_register).value ≡ true
zeros-fit program i = ap (λ (k : Register). value_fits program k.value) (constant_at 16 i zero_register)

-- past the height an entry is the integer 0, as it reads past the 32nd
pub all_entries : (program : Program) (f : Frame) → length f.stack ≡ 32 → f.task.height ≤ 32
    → ((i : ℕ) → i < 32 → entry_fits program (ltb i f.task.height) (entry f i) ≡ true)
    → (i : ℕ) → entry_fits program (ltb i f.task.height) (entry f i) ≡ true
all_entries program f full most h i = ⊎_elim
    (λ (z : i < 32). h i z)
    (λ (z : 32 ≤ i).
    rw (le-ltb i f.task.height (omega arith))
    (ap (λ (k : Register). is_zero k.value) (get_or-eq_default f.stack zero_register {n = i} (omega arith))))
    (below_or_not i 32)

pub target_below : (program : Program) (b : ℕ) → is_target program b ≡ true → b < program.blocks
unfolding is_target
target_below program b h = ltb-true b program.blocks (both_true (ltb b program.blocks) _ h).0

pub target_from : (program : Program) (b : ℕ) → b < program.blocks → eqb (program.block b).annotation 2 ≡ true → is_target program b ≡ true
unfolding is_target
target_from program b h e = true_both (lt-ltb b program.blocks h) e

-- ---- the whole test

module _ (program : Program) (D h : ℕ) (f : Frame) where
  pub formed_is : formed program D h f ≡ true → Formed program D h f
  unfolding formed
  formed_is e =
      let a = both_true (is_full f) _ e in
      let l = both_true (eqb (length f.registers) 16) _ a.0 in
      let m = both_true (eqb (length f.task.forks) 6) (eqb (length f.stack) 32) l.1 in
      let b = both_true (eqb f.task.places (2 ^ h)) _ a.1 in
      let c = both_true (eqb (f.task.depth + h) D) _ b.1 in
      let d = both_true (ltb f.task.pc program.instructions) _ c.1 in
      let s = both_true (status_fits program.version f f.task.status) _ d.1 in
      let k = both_true (forks_fit program f.task) _ s.1 in
      let r = both_true (registers_fit program f) (stack_fits program f) k.1 in
      let t = both_true (leb f.task.height 32) (entries_fit program f) r.1 in
      let full = eqb-true (length f.registers) 16 l.0 in
      let stack = eqb-true (length f.stack) 32 m.1 in
      let most = leb-true f.task.height 32 t.0 in
      record {
        registers_full = full;
        forks_full = eqb-true (length f.task.forks) 6 m.0;
        stack_full = stack;
        has_places = eqb-true f.task.places (2 ^ h) b.0;
        has_depth = eqb-true (f.task.depth + h) D c.0;
        pc_below = ltb-true f.task.pc program.instructions d.0;
        its_status_fits = s.0;
        its_forks_fit = λ i p.
            every-at (λ i. fork_fits program (ltb i f.task.depth) (get_or f.task.forks i zero_fork)) 6 0 k.0 i (omega arith) (omega arith);
        values_fit = all_fit program f full (λ i p. every-at (λ i. value_fits program (register f i)) 16 0 r.0 i (omega arith) (omega arith));
        height_most = most;
        its_entries_fit = all_entries program f stack most
            (λ i p. every-at (λ i. entry_fits program (ltb i f.task.height) (entry f i)) 32 0 t.1 i (omega arith) (omega arith));
      }

  pub its_is_formed : Formed program D h f → formed program D h f ≡ true
  unfolding formed
  its_is_formed x =
      true_both (true_both (eq-eqb _ _ x.registers_full) (true_both (eq-eqb _ _ x.forks_full) (eq-eqb _ _ x.stack_full)))
      (true_both (eq-eqb _ _ x.has_places)
      (true_both (eq-eqb _ _ x.has_depth)
      (true_both (lt-ltb _ _ x.pc_below)
      (true_both x.its_status_fits
      (true_both
      (every_from (λ i. fork_fits program (ltb i f.task.depth) (get_or f.task.forks i zero_fork)) 6 0 (λ k p q. x.its_forks_fit k (omega arith)))
      (true_both
      (every_from (λ i. value_fits program (register f i)) 16 0 (λ k p q. x.values_fit k))
      (true_both (le-leb _ _ x.height_most)
      (every_from (λ i. entry_fits program (ltb i f.task.height) (entry f i)) 32 0 (λ k p q. x.its_entries_fit k)))))))))
