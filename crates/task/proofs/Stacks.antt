-- A task's stack after a push or a pop, and an empty one.
use mathlib.Core.Path.{◌≡◌, refl, sym, ap}
use mathlib.Core.Bool.{Bool, true, false}
use mathlib.Core.List.{List}
use Prim.Native.Nat.{ℕ, ◌+◌, ◌<◌, ◌≤◌}
use native.Mathlib.Omega.{arith}
use lib.Dec.{eqb, ltb}
use lib.ListN.{length, get_or, set}
use lib.Seq.{get_or-set_same, get_or-set_other}
use borrow.Author.Tests.{eqb-true, eqb-false, lt-ltb, le-ltb}
use Rattle.image.specs.Program.{Program}
use Rattle.task.specs.declared.Value.{Value}
use Rattle.task.specs.declared.Register.{Register}
use Rattle.task.specs.Frames.{zero_register, empty_stack}
use Rattle.task.specs.Formed.{value_fits, is_zero, entry_fits}
use Rattle.task.proofs.Facts.{constant_at}
use Rattle.task.proofs.Forks.{ltb_skip}

-- the entries fit a task of height h; past the end they read as the integer 0
abbrev pub EntriesFit : Program → ℕ → List Register → Type 0
EntriesFit program h stack = (i : ℕ) → entry_fits program (ltb i h) (get_or stack i zero_register).value ≡ true

pub empty-fits : (program : Program) → EntriesFit program 0 empty_stack
empty-fits program i = rw (le-ltb i 0 (omega arith)) (ap (λ (k : Register). is_zero k.value) (constant_at 32 i zero_register))

-- an entry below the height fits the program
pub used-fits : (program : Program) (h : ℕ) (stack : List Register) → EntriesFit program h stack → (i : ℕ) → i < h
    → value_fits program (get_or stack i zero_register).value ≡ true
used-fits program h stack fit i p = rw (lt-ltb i h p) at (fit i)

-- from it on it is the integer 0
pub unused_zero : (program : Program) (h : ℕ) (stack : List Register) → EntriesFit program h stack → (i : ℕ) → h ≤ i
    → is_zero (get_or stack i zero_register).value ≡ true
unused_zero program h stack fit i p = rw (le-ltb i h p) at (fit i)

module _ (program : Program) (stack : List Register) (h : ℕ) (inside : h < length stack) where
  set_fits : (k : Register) (was is : ℕ) → entry_fits program (ltb h is) k.value ≡ true → ((i : ℕ) → (i ≡ h → ⊥) → ltb i is ≡ ltb i was)
      → EntriesFit program was stack → EntriesFit program is (set stack h k)
  set_fits k was is fit skip before i = go (eqb i h) refl
    where
      go : (t : Bool) → eqb i h ≡ t → entry_fits program (ltb i is) (get_or (set stack h k) i zero_register).value ≡ true
      go true t = rw (eqb-true i h t, get_or-set_same stack h k zero_register inside) fit
      go false t =
          let apart : i ≡ h → ⊥ = eqb-false i h t in
          rw (get_or-set_other stack h i k zero_register apart, skip i apart) (before i)

  -- one value more
  pub pushed-fits : (v : Value) → value_fits program v ≡ true → EntriesFit program h stack
      → EntriesFit program (h + 1) (set stack h (record { value = v }))
  pushed-fits v fit = set_fits (record { value = v }) h (h + 1) (rw (lt-ltb h (h + 1) (omega arith)) fit) (λ i apart. sym (ltb_skip i h apart))

  -- the last one taken
  pub popped-fits : EntriesFit program (h + 1) stack → EntriesFit program h (set stack h zero_register)
  popped-fits = set_fits zero_register (h + 1) h (rw (le-ltb h h (omega arith))) (λ i apart. ltb_skip i h apart)
