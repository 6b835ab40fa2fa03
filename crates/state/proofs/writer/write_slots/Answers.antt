-- `write_slots` meets its contract.
use Rattle.std.proofs.Common.{◌∙◌, ap, ℕ, ◌+◌, ◌*◌, refl, arith}
use lib.Seq.{sets}
use Rattle.state.specs.Numbers.{in_bytes}
use Rattle.state.specs.State.{slot_numbers}
use Rattle.state.specs.Places.{registers_at, stack_at, slot_bytes}
use Rattle.state.proofs.Laying.{laid_none, laid_more, laid_all}
use Rattle.state.proofs.StateLaws.{part_rows, slot_placed, slot_width}
use Rattle.state.proofs.writer.write_slots.Goals as goal

pub loop-k-init : goal.loop-k-init
loop-k-init c = laid_none _ 64 _ 24

pub loop-k-preserved : goal.loop-k-preserved
loop-k-preserved c =
    let m = c.args.m.now in
    let l = c.loop-k in
    let at = c.slot_place-at.result in
    let bank = part_rows m.bank (16 * l.k) 16 (16 * l.k + 16) (omega arith) refl in
    let stacks = part_rows m.stacks (32 * l.k) 32 (32 * l.k + 32) (omega arith) refl in
    let registers = c.write_registers.ensures ∙ ap (sets _ (at + registers_at)) bank in
    let stack = c.write_registers-in-loop-k.ensures ∙ ap (sets _ (at + stack_at)) stacks in
    let slot = slot_placed m l.k l.out _ _ _ _ at c.write_task.ensures registers c.write_u64.ensures stack in
    let there = slot ∙ ap (λ (n : ℕ). sets l.out n (in_bytes (slot_numbers m l.k))) c.slot_place-at.ensures.0 in
    laid_more _ 64 _ 24 slot_bytes (slot_width m) l.k l.out _ l.invariant c.loop-k-test.true there

pub returns : goal.returns
returns c = let l = c.loop-k in laid_all _ 64 _ 24 l.k l.out l.invariant c.loop-k-test.false
