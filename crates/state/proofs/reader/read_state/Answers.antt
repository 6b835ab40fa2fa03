-- `read_state` meets its contract.
use Rattle.std.proofs.Common.{◌+◌, ap, ap₂, ◌∙◌, arith}
use lib.ListN.{length-replicate}
use Rattle.task.specs.Frames.{zero_register}
use Rattle.state.specs.Places.{registers_at, stack_at}
use Rattle.state.specs.Reading.{stands_values, stands_task}
use Rattle.state.proofs.Rooms.{state_room}
use Rattle.state.proofs.Filling.{begun-none, filled_none}
use Rattle.state.proofs.SlotsRead.{bank_part_length, stacks_part_length, bank_part_zero, stacks_part_zero, slot_more, all-read}
use Rattle.state.proofs.reader.read_state.Goals as goal

pub read_u64-requires : goal.read_u64-requires
read_u64-requires c = omega (arith, (state_room c.args.bytes.now c.requires).whole)

pub read_u64-requires-2 : goal.read_u64-requires-2
read_u64-requires-2 c = omega (arith, (state_room c.args.bytes.now c.requires).whole)

pub overflow_cast-m : goal.overflow_cast-m
overflow_cast-m c = omega (arith, (state_room c.args.bytes.now c.requires).interval, c.read_u64-2.ensures.equal)

pub read_u64-requires-3 : goal.read_u64-requires-3
read_u64-requires-3 c = omega (arith, (state_room c.args.bytes.now c.requires).whole)

pub overflow_cast-m-2 : goal.overflow_cast-m-2
overflow_cast-m-2 c = omega (arith, (state_room c.args.bytes.now c.requires).work, c.read_u64-3.ensures.equal)

pub loop-k-init : goal.loop-k-init
loop-k-init c = record {
  places = c.read_u64.ensures.equal;
  interval = c.read_u64-2.ensures.equal;
  work = c.read_u64-3.ensures.equal;
  bank = begun-none _ zero_register 1024;
  stacks = begun-none _ zero_register 2048;
  tasks = filled_none _ 64 _ (length-replicate 64 c.vacant_task.result);
}

pub read_values-requires-clause-inside : goal.read_values-requires-clause-inside
read_values-requires-clause-inside c =
    let l = c.loop-k in
    omega (arith, bank_part_length c.args.bytes.now l.k l.m l.invariant c.loop-k-test.true, c.slot_place-at.ensures.1, (state_room c.args.bytes.now c.requires).whole)

pub read_values-requires-clause-stand : goal.read_values-requires-clause-stand
read_values-requires-clause-stand c =
    let bytes = c.args.bytes.now in
    let l = c.loop-k in
    ap₂ (λ at n. stands_values bytes (at + registers_at) n) c.slot_place-at.ensures.0 (bank_part_length bytes l.k l.m l.invariant c.loop-k-test.true)
    ∙ ((state_room bytes c.requires).slots l.k c.loop-k-test.true).registers

pub read_values-requires-clause-zero : goal.read_values-requires-clause-zero
read_values-requires-clause-zero c =
    let l = c.loop-k in bank_part_zero c.args.bytes.now l.k l.m l.invariant c.loop-k-test.true

pub read_values-requires-in-loop-k-clause-inside : goal.read_values-requires-in-loop-k-clause-inside
read_values-requires-in-loop-k-clause-inside c =
    let l = c.loop-k in
    omega (arith, stacks_part_length c.args.bytes.now l.k l.m l.invariant c.loop-k-test.true, c.slot_place-at.ensures.1, (state_room c.args.bytes.now c.requires).whole)

pub read_values-requires-in-loop-k-clause-stand : goal.read_values-requires-in-loop-k-clause-stand
read_values-requires-in-loop-k-clause-stand c =
    let bytes = c.args.bytes.now in
    let l = c.loop-k in
    ap₂ (λ at n. stands_values bytes (at + stack_at) n) c.slot_place-at.ensures.0 (stacks_part_length bytes l.k l.m l.invariant c.loop-k-test.true)
    ∙ ((state_room bytes c.requires).slots l.k c.loop-k-test.true).stack

pub read_values-requires-in-loop-k-clause-zero : goal.read_values-requires-in-loop-k-clause-zero
read_values-requires-in-loop-k-clause-zero c =
    let l = c.loop-k in stacks_part_zero c.args.bytes.now l.k l.m l.invariant c.loop-k-test.true

pub read_task-requires : goal.read_task-requires
read_task-requires c =
    let bytes = c.args.bytes.now in
    let room = state_room bytes c.requires in
    let at = c.slot_place-at in
    (omega (arith, at.ensures.1, room.whole), ap (stands_task bytes) at.ensures.0 ∙ (room.slots c.loop-k.k c.loop-k-test.true).task)

pub loop-k-preserved : goal.loop-k-preserved
loop-k-preserved c =
    let l = c.loop-k in
    slot_more c.args.bytes.now l.k l.m l.invariant c.loop-k-test.true c.slot_place-at.result _ _ _ c.slot_place-at.ensures.0
    c.read_values.ensures
    c.read_values-in-loop-k.ensures
    c.read_task.ensures

pub returns : goal.returns
returns c = let l = c.loop-k in all-read c.args.bytes.now l.k l.m l.invariant c.loop-k-test.false
