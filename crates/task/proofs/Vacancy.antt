-- The test of a vacant slot holds of `vacant` alone, which has no running task.
use mathlib.Core.Path.{◌≡◌, refl, sym, ap, ◌∙◌}
use mathlib.Core.Bool.{true, false}
use mathlib.Core.List.{List}
use Prim.Native.Nat.{ℕ, ◌<◌}
use native.Mathlib.Omega.{arith}
use lib.Dec.{eqb}
use lib.IntN.{ℤ, pos, negsuc}
use lib.ListN.{length, get_or, length-replicate, get_or-replicate}
use lib.Seq.{ext_get_or}
use borrow.Author.Tests.{eqb-true}
use Rattle.facts.proofs.Tests.{clash, both_true}
use Rattle.int64.specs.Equal.{eq_z}
use Rattle.task.specs.declared.Value.{Value}
use Rattle.task.specs.declared.Value.TheVariants.{Int, Label, Record}
use Rattle.task.specs.declared.Status.{Status}
use Rattle.task.specs.declared.Status.TheVariants.{Vacant, Running, Waiting, Halted, Faulted}
use Rattle.task.specs.declared.Fork.{Fork}
use Rattle.task.specs.declared.Frame.{Frame}
use Rattle.task.specs.Frames.{zero_register, zeros, empty_stack, zero_fork, no_forks, vacant, running}
use Rattle.task.specs.Step.{register, entry}
use Rattle.task.specs.Formed.{every, is_zero, registers_zero, stack_empty, is_zero_fork, is_full, at_rest, is_vacant_status, is_vacant}
use Rattle.task.proofs.EveryLaws.{every-at}

pub vacant-passes : is_vacant vacant ≡ true
unfolding is_vacant every
vacant-passes = refl

-- ---- the other way

zero_integer : (z : ℤ) → eq_z z (pos 0) ≡ true → z ≡ pos 0
zero_integer (pos n) e = ap pos (eqb-true n 0 e)
zero_integer (negsuc n) e = clash e refl

zero_value : (v : Value) → is_zero v ≡ true → v ≡ Int (pos 0)
zero_value (Int z) e = ap Int (zero_integer z e)
zero_value (Label b) e = clash e refl
zero_value (Record c d) e = clash e refl

-- 16 registers that pass the test are 16 integers 0
pub zero_registers : (f : Frame) → length f.registers ≡ 16 → registers_zero f ≡ true → f.registers ≡ zeros
zero_registers f full e =
    ext_get_or zero_register f.registers zeros (full ∙ sym (length-replicate 16 zero_register))
    (λ i p. at i (omega arith) ∙ sym (get_or-replicate 16 i zero_register zero_register (omega arith)))
  where
    at : (i : ℕ) → i < 16 → get_or f.registers i zero_register ≡ zero_register
    at i p =
        let v = zero_value (register f i) (every-at (λ i. is_zero (register f i)) 16 0 e i (omega arith) (omega arith)) in
        λ j. record { value = v j }

-- and 32 entries that pass it an empty stack
pub zero_stack : (f : Frame) → length f.stack ≡ 32 → ((i : ℕ) → i < 32 → is_zero (entry f i) ≡ true) → f.stack ≡ empty_stack
zero_stack f full e =
    ext_get_or zero_register f.stack empty_stack (full ∙ sym (length-replicate 32 zero_register))
    (λ i p. at i (omega arith) ∙ sym (get_or-replicate 32 i zero_register zero_register (omega arith)))
  where
    at : (i : ℕ) → i < 32 → get_or f.stack i zero_register ≡ zero_register
    at i p = let v = zero_value (entry f i) (e i p) in λ j. record { value = v j }

zero_fork_lem : (k : Fork) → is_zero_fork k ≡ true → k ≡ zero_fork
zero_fork_lem k e =
    let p = both_true (eqb k.continuation 0) (eqb k.depth 0) e in
    let c = eqb-true k.continuation 0 p.0 in
    let d = eqb-true k.depth 0 p.1 in
    λ j. record { continuation = c j; depth = d j }

zero_forks : (l : List Fork) → length l ≡ 6 → every (λ i. is_zero_fork (get_or l i zero_fork)) 6 0 ≡ true → l ≡ no_forks
zero_forks l full e =
    ext_get_or zero_fork l no_forks (full ∙ sym (length-replicate 6 zero_fork))
    (λ i p. zero_fork_lem (get_or l i zero_fork) (every-at (λ i. is_zero_fork (get_or l i zero_fork)) 6 0 e i (omega arith) (omega arith))
    ∙ sym (get_or-replicate 6 i zero_fork zero_fork (omega arith)))

vacant_status : (s : Status) → is_vacant_status s ≡ true → s ≡ Vacant
vacant_status Vacant e = refl
vacant_status Running e = clash e refl
vacant_status Waiting e = clash e refl
vacant_status Halted e = clash e refl
vacant_status (Faulted n) e = clash e refl

pub vacant_is : (f : Frame) → is_vacant f ≡ true → f ≡ vacant
unfolding is_vacant
vacant_is f e =
    let a = both_true (is_full f) _ e in
    let l = both_true (eqb (length f.registers) 16) _ a.0 in
    let m = both_true (eqb (length f.task.forks) 6) (eqb (length f.stack) 32) l.1 in
    let b = both_true (is_vacant_status f.task.status) _ a.1 in
    let c = both_true (eqb f.task.places 0) _ b.1 in
    let d = both_true (eqb f.task.span 0) _ c.1 in
    let g = both_true (eqb f.task.depth 0) _ d.1 in
    let h = both_true (at_rest f.task) _ g.1 in
    let r = both_true (eqb f.task.pc 0) (eqb f.task.counter 0) h.0 in
    let k = both_true (every (λ i. is_zero_fork (get_or f.task.forks i zero_fork)) 6 0) _ h.1 in
    let o = both_true (registers_zero f) (stack_empty f) k.1 in
    let t = both_true (eqb f.task.height 0) (every (λ i. is_zero (entry f i)) 32 0) o.1 in
    let status = vacant_status f.task.status b.0 in
    let places = eqb-true f.task.places 0 c.0 in
    let pc = eqb-true f.task.pc 0 r.0 in
    let counter = eqb-true f.task.counter 0 r.1 in
    let span = eqb-true f.task.span 0 d.0 in
    let depth = eqb-true f.task.depth 0 g.0 in
    let height = eqb-true f.task.height 0 t.0 in
    let forks = zero_forks f.task.forks (eqb-true (length f.task.forks) 6 m.0) k.0 in
    let registers = zero_registers f (eqb-true (length f.registers) 16 l.0) o.0 in
    let stack =
    zero_stack f (eqb-true (length f.stack) 32 m.1) (λ i p. every-at (λ i. is_zero (entry f i)) 32 0 t.1 i (omega arith) (omega arith)) in
    λ j. record {
      task = record {
        status = status j;
        places = places j;
        pc = pc j;
        counter = counter j;
        span = span j;
        depth = depth j;
        height = height j;
        forks = forks j;
      };
      registers = registers j;
      stack = stack j;
    }

pub vacant-idle : (f : Frame) → f ≡ vacant → running f ≡ false
vacant-idle f e = ap running e
