-- The bank's first registers, set one after the other from a list of integers; and the empty stack of the first slot.
use mathlib.Core.Path.{◌≡◌, refl, sym, ap, ◌∙◌}
use mathlib.Core.List.{List, [], ◌∷◌}
use Prim.Native.Nat.{ℕ, ◌+◌}
use native.Mathlib.Omega.{arith}
use native.Mathlib.Numerals.{add-one}
use lib.IntN.{ℤ, pos}
use lib.ListN.{length, get_or, set, replicate, get_or-map}
use lib.Seq.{sets}
use Rattle.int64.proofs.Stores.{sets-append}
use Rattle.task.specs.declared.Value.TheVariants.{Int}
use Rattle.task.specs.declared.Register.{Register}
use Rattle.task.specs.Frames.{zero_register, stack_length, empty_stack, integers}
use Rattle.task.specs.Stretches.{reads}
use Rattle.task.proofs.StretchLaws.{length-reads, reads_all, reads_snoc}
use Rattle.task.proofs.Facts.{constant_at}
use Rattle.drive.proofs.Copying.{all_dropped}

pub filled_none : (bank : List Register) (zs : List ℤ) → bank ≡ sets bank 0 (reads zero_register (integers zs) 0 0)
unfolding reads
filled_none bank zs = refl

pub filled_more : (bank filled : List Register) (zs : List ℤ) (i : ℕ) → filled ≡ sets bank 0 (reads zero_register (integers zs) 0 i)
    → set filled i (record { value = Int (get_or zs i (pos 0)) }) ≡ sets bank 0 (reads zero_register (integers zs) 0 (i + 1))
filled_more bank filled zs i e =
    let rs = reads zero_register (integers zs) 0 i in
    let n : 0 + length rs ≡ i = omega (arith, length-reads zero_register (integers zs) 0 i) in
    let j : 0 + i ≡ i = omega arith in
    let v : record { value = Int (get_or zs i (pos 0)) } ≡ get_or (integers zs) (0 + i) zero_register =
    sym (ap (λ (k : ℕ). get_or (integers zs) k zero_register) j ∙ get_or-map (λ z. record { value = Int z }) zs i (pos 0)) in
    ap (λ (l : List Register). set l i (record { value = Int (get_or zs i (pos 0)) })) e
    ∙ ap (λ (k : ℕ). set (sets bank 0 rs) k (record { value = Int (get_or zs i (pos 0)) })) (sym n)
    ∙ ap (λ (r : Register). set (sets bank 0 rs) (0 + length rs) r) v
    ∙ sets-append bank 0 rs (get_or (integers zs) (0 + i) zero_register ∷ [])
    ∙ ap (sets bank 0) (sym (reads_snoc zero_register (integers zs) 0 i))
    ∙ ap (λ (k : ℕ). sets bank 0 (reads zero_register (integers zs) 0 k)) (sym (add-one i))

-- an empty stack put where all is 0 changes nothing
pub filled-empty : (n : ℕ) → sets (replicate n zero_register) 0 (reads zero_register empty_stack 0 stack_length) ≡ replicate n zero_register
filled-empty n =
    let zs = replicate n zero_register in
    ap (sets zs 0) (reads_all zero_register empty_stack)
    ∙ sym (all_dropped zs 0 0 stack_length (omega arith) (λ i p q. constant_at n (0 + i) zero_register))
