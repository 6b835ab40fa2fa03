-- `frame_at` meets its contract.
use Rattle.std.proofs.Common.{◌≡◌, ◌∙◌, ◌*◌, ℕ, List, length, sym, ap, refl, arith}
use Rattle.std.proofs.lemmas.List.Edits.{sets}
use Rattle.task.specs.declared.Register.{Register}
use Rattle.task.specs.Frames.{zero_register, zeros, stack_length, empty_stack}
use Rattle.task.specs.Stretches.{reads}
use Rattle.task.proofs.StretchLaws.{length-reads}
use Rattle.drive.proofs.Copying.{copied_none, copied_next, copied_all}
use Rattle.drive.proofs.slots.frame_at.Invariants.{Copied}
use Rattle.drive.proofs.slots.frame_at.Goals as goal

whole_copy : (empty from : List Register) (a n i : ℕ) {l : List Register} → length empty ≡ n → i ≡ n → Copied empty from a i l → l ≡ reads zero_register from a n
whole_copy empty from a n i size all e =
    e ∙ ap (λ (j : ℕ). sets empty 0 (reads zero_register from a j)) all
    ∙ copied_all zero_register empty (reads zero_register from a n) (size ∙ sym (length-reads zero_register from a n))

pub loop-i-init : goal.loop-i-init
loop-i-init c = copied_none zero_register _ _ _ _

pub loop-i-preserved : goal.loop-i-preserved
loop-i-preserved c =
    let l = c.loop-i in
    rw l.invariant (copied_next zero_register zeros c.args.m.now.bank 0 (16 * c.args.k) l.i l.i _ (omega arith) refl)

pub loop-j-init : goal.loop-j-init
loop-j-init c = copied_none zero_register _ _ _ _

pub loop-j-preserved : goal.loop-j-preserved
loop-j-preserved c =
    let l = c.loop-j in
    rw l.invariant (copied_next zero_register empty_stack c.args.m.now.stacks 0 (32 * c.args.k) l.j l.j _ (omega arith) refl)

pub returns : goal.returns
returns c =
    let l = c.loop-j in
    let o = c.loop-i in
    let m = c.args.m.now in
    let k = c.args.k in
    let registers : o.registers ≡ reads zero_register m.bank (16 * k) 16 = whole_copy zeros m.bank (16 * k) 16 o.i refl (omega arith) o.invariant in
    let stack : l.stack ≡ reads zero_register m.stacks (32 * k) stack_length =
    whole_copy empty_stack m.stacks (32 * k) stack_length l.j refl (omega arith) l.invariant in
    rw (registers, stack)
