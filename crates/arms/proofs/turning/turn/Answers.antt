-- `turn` meets its contract.
use Rattle.std.proofs.Common.{rules, ◌+◌, ◌/◌}
use Rattle.arms.specs.Registers.{registers_of}
use mathlib.Core.Path.{refl}
use native.Mathlib.Omega.{arith}
use lib.ListN.{get_or}
use borrow.Author.Tests.{lt-ltb}
use Rattle.arms.specs.Registers.{in_register}
use Rattle.arms.proofs.SetLaws.{NoneOf}
use Rattle.arms.proofs.LeadLaws.{enters_plain, stays}
use Rattle.arms.proofs.TurnLaws.{jumping, fetched, named, register_small, label_below, next_below, register_operand, label_operand, plain-jump, turned_leads, turned_set}
use Rattle.arms.proofs.turning.turn.Goals as goal

pub branch_register-requires : goal.branch_register-requires
branch_register-requires c =
    let d = fetched c.args.code.now.program.accepted c.args.code.now.decoded c.requires in
    let n = named d 10 1 (omega arith) (omega arith) c.in-42.is in (
      c.requires.values_fit _,
      omega (arith, c.requires.counter_least),
      d.s_small,
      c.requires.on_place,
      next_below d 10 (omega arith) n.its_opcode,
      register_small d 10 n,
    )

pub jump_register-requires : goal.jump_register-requires
jump_register-requires c =
    let d = fetched c.args.code.now.program.accepted c.args.code.now.decoded c.requires in
    let n = named d 13 1 (omega arith) (omega arith) c.in-45.is in
    (omega (arith, c.requires.counter_least), register_small d 13 n, c.requires.on_place, c.requires.values_fit _)

pub branch_to-requires : goal.branch_to-requires
branch_to-requires c =
    let d = fetched c.args.code.now.program.accepted c.args.code.now.decoded c.requires in
    let n = named d 10 2 (omega arith) (omega arith) c.in-74.is in (
      lt-ltb _ _ (label_below d 10 n),
      omega (arith, c.requires.counter_least),
      d.s_small,
      c.requires.on_place,
      next_below d 10 (omega arith) n.its_opcode,
    )

pub enter-requires : goal.enter-requires
enter-requires c =
    let d = fetched c.args.code.now.program.accepted c.args.code.now.decoded c.requires in
    let n = named d 13 2 (omega arith) (omega arith) c.in-77.is in
    (label_below d 13 n, omega (arith, c.requires.counter_least))

pub branch_to-requires-in-106 : goal.branch_to-requires-in-106
branch_to-requires-in-106 c =
    let d = fetched c.args.code.now.program.accepted c.args.code.now.decoded c.requires in
    let n = named d 10 3 (omega arith) (omega arith) c.in-106.is in
    (refl, omega (arith, c.requires.counter_least), d.s_small, c.requires.on_place, next_below d 10 (omega arith) n.its_opcode)

pub branch_plain-requires : goal.branch_plain-requires
branch_plain-requires c =
    let d = fetched c.args.code.now.program.accepted c.args.code.now.decoded c.requires in
    (d.s_small, omega (arith, d.few, c.requires.on_place, c.requires.inside_program))

pub set_register-requires : goal.set_register-requires
set_register-requires c =
    let d = fetched c.args.code.now.program.accepted c.args.code.now.decoded c.requires in
    record {
      sized = c.requires.sized;
      stored = omega (arith, c.args.code.now.decoded.stored, c.requires.on_place, c.requires.inside_program);
      r_small = d.r_small;
      s_small = d.s_small;
      register_operand = register_operand d;
      label_operand = label_operand d;
      values_fit = c.requires.values_fit;
      depth_most = c.requires.depth_most;
    }

pub returns-in-42 : goal.returns-in-42
returns-in-42 c =
    let d = fetched c.args.code.now.program.accepted c.args.code.now.decoded c.requires in
    let n = named d 10 1 (omega arith) (omega arith) c.in-42.is in
    record {
      sized = c.requires.sized;
      turned = turned_leads c.args.code.now.program.cells.now c.args.code.now.words.now c.args.code.now.interval c.args.task.places c.args.task.depth c.args.task.pc c.args.task.beat c.args.task.left
          (registers_of c.args.registers.now.nums c.args.registers.now.kinds) c.requires.on_place c.requires.counter_least 10 1 _ _ n d.decoded.same_s _ _ _
          (λ o. c.branch_register.ensures c.args.task.depth c.args.code.now.words.now o);
    }

pub returns-in-45 : goal.returns-in-45
returns-in-45 c =
    let d = fetched c.args.code.now.program.accepted c.args.code.now.decoded c.requires in
    let n = named d 13 1 (omega arith) (omega arith) c.in-45.is in
    record {
      sized = c.requires.sized;
      turned = turned_leads c.args.code.now.program.cells.now c.args.code.now.words.now c.args.code.now.interval c.args.task.places c.args.task.depth c.args.task.pc c.args.task.beat c.args.task.left
          (registers_of c.args.registers.now.nums c.args.registers.now.kinds) c.requires.on_place c.requires.counter_least 13 1 _ _ n d.decoded.same_s _ _ _
          (λ o. c.jump_register.ensures (in_register (get_or c.args.code.now.code.now (c.args.task.pc + 2) 0) (registers_of c.args.registers.now.nums c.args.registers.now.kinds)) c.args.task.depth
          c.args.code.now.words.now o);
    }

pub returns-in-74 : goal.returns-in-74
returns-in-74 c =
    let d = fetched c.args.code.now.program.accepted c.args.code.now.decoded c.requires in
    let n = named d 10 2 (omega arith) (omega arith) c.in-74.is in
    record {
      sized = c.requires.sized;
      turned = turned_leads c.args.code.now.program.cells.now c.args.code.now.words.now c.args.code.now.interval c.args.task.places c.args.task.depth c.args.task.pc c.args.task.beat c.args.task.left
          (registers_of c.args.registers.now.nums c.args.registers.now.kinds) c.requires.on_place c.requires.counter_least 10 2 _ _ n d.decoded.same_s _ _ _
          (λ o. c.branch_to.ensures c.args.task.depth c.args.code.now.words.now o);
    }

pub returns-in-77 : goal.returns-in-77
returns-in-77 c =
    let d = fetched c.args.code.now.program.accepted c.args.code.now.decoded c.requires in
    let n = named d 13 2 (omega arith) (omega arith) c.in-77.is in
    record {
      sized = c.requires.sized;
      turned = turned_leads c.args.code.now.program.cells.now c.args.code.now.words.now c.args.code.now.interval c.args.task.places c.args.task.depth c.args.task.pc c.args.task.beat c.args.task.left
          (registers_of c.args.registers.now.nums c.args.registers.now.kinds) c.requires.on_place c.requires.counter_least 13 2 _ _ n d.decoded.same_s _ _ _
          (λ o. c.enter.ensures (c.args.task.pc / 4) c.args.task.depth);
    }

pub returns-in-106 : goal.returns-in-106
returns-in-106 c =
    let d = fetched c.args.code.now.program.accepted c.args.code.now.decoded c.requires in
    let n = named d 10 3 (omega arith) (omega arith) c.in-106.is in
    record {
      sized = c.requires.sized;
      turned = turned_leads c.args.code.now.program.cells.now c.args.code.now.words.now c.args.code.now.interval c.args.task.places c.args.task.depth c.args.task.pc c.args.task.beat c.args.task.left
          (registers_of c.args.registers.now.nums c.args.registers.now.kinds) c.requires.on_place c.requires.counter_least 10 3 _ _ n d.decoded.same_s _ _ _
          (λ o. c.branch_to-in-106.ensures c.args.task.depth c.args.code.now.words.now o);
    }

pub returns-in-109 : goal.returns-in-109
returns-in-109 c =
    let d = fetched c.args.code.now.program.accepted c.args.code.now.decoded c.requires in
    let n = named d 13 3 (omega arith) (omega arith) c.in-109.is in
    record {
      sized = c.requires.sized;
      turned = turned_leads c.args.code.now.program.cells.now c.args.code.now.words.now c.args.code.now.interval c.args.task.places c.args.task.depth c.args.task.pc c.args.task.beat c.args.task.left
          (registers_of c.args.registers.now.nums c.args.registers.now.kinds) c.requires.on_place c.requires.counter_least 13 3 _ _ n d.decoded.same_s _ _ _
          (λ o. stays c.args.code.now.program.cells.now 34 c.args.task.pc c.args.task.beat c.args.task.left (omega arith) refl c.requires.on_place (omega (arith, c.requires.counter_least)));
    }

pub returns-in-202 : goal.returns-in-202
returns-in-202 c =
    let d = fetched c.args.code.now.program.accepted c.args.code.now.decoded c.requires in
    let j = plain-jump d 10 (omega arith) c.in-202.is in
    record {
      sized = c.requires.sized;
      turned = turned_leads c.args.code.now.program.cells.now c.args.code.now.words.now c.args.code.now.interval c.args.task.places c.args.task.depth c.args.task.pc c.args.task.beat c.args.task.left
          (registers_of c.args.registers.now.nums c.args.registers.now.kinds) c.requires.on_place c.requires.counter_least 10 2 _ _ j.jump_named d.decoded.same_s _ _ _
          (λ o. c.branch_plain.ensures c.args.code.now.program.cells.now c.args.code.now.interval c.args.task.places c.args.task.left j.label j.unready_there c.requires.on_place
          (next_below d 10 (omega arith) j.jump_named.its_opcode) (omega (arith, c.requires.counter_least)) c.args.task.depth c.args.code.now.words.now o);
    }

pub returns-in-205 : goal.returns-in-205
returns-in-205 c =
    let d = fetched c.args.code.now.program.accepted c.args.code.now.decoded c.requires in
    let j = plain-jump d 13 (omega arith) c.in-205.is in
    record {
      sized = c.requires.sized;
      turned = turned_leads c.args.code.now.program.cells.now c.args.code.now.words.now c.args.code.now.interval c.args.task.places c.args.task.depth c.args.task.pc c.args.task.beat c.args.task.left
          (registers_of c.args.registers.now.nums c.args.registers.now.kinds) c.requires.on_place c.requires.counter_least 13 2 _ _ j.jump_named d.decoded.same_s _ _ _
          (λ o. enters_plain c.args.code.now.program.cells.now c.args.code.now.interval j.label c.args.task.places c.args.task.left c.args.task.beat _ (c.args.task.pc / 4) c.args.task.depth
          j.unready_there (omega (arith, c.requires.counter_least)));
    }

pub returns-in_default : goal.returns-in_default
returns-in_default c =
    let d = fetched c.args.code.now.program.accepted c.args.code.now.decoded c.requires in
    let set = c.set_register.ensures c.args.code.now.interval in
    let rest : NoneOf (get_or c.args.code.now.code.now c.args.task.pc 0) jumping = search rules in
    record {
      sized = set.still_sized;
      turned = turned_set c.args.code.now.program.cells.now c.args.code.now.words.now c.args.code.now.interval c.args.task.places c.args.task.depth c.args.task.beat c.args.task.left
          c.args.registers.now _ c.args.code.now.program.accepted c.requires.on_place c.requires.inside_program c.requires.counter_least d rest
          c.set_register.result set;
    }
