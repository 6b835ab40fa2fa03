-- `set_register` meets its contract.
use Rattle.std.proofs.Common.{rules}
use Rattle.arms.specs.Arms.{context_of}
use mathlib.Core.Path.{refl}
use native.Mathlib.Omega.{arith}
use Rattle.image.specs.Layout.{program_of}
use Rattle.task.specs.Choices.{chosen}
use Rattle.arms.specs.Registers.{in_register}
use Rattle.arms.proofs.SetLaws.{NoneOf, of_register, by_number, no_register}
use Rattle.arms.proofs.setting.set_register.Goals as goal

pub returns-in-33 : goal.returns-in-33
returns-in-33 c =
    let cells = c.args.code.now.program.cells.now in
    let words = c.args.code.now.words.now in
    λ interval. by_number _ _ _ _ _ _ c.args.v c.args.registers.now _ 1 1 (omega arith) (omega arith) c.in-33.is
    c.register_at.ensures (c.move_register.ensures (context_of cells words interval c.args.depth) (in_register c.args.s))

pub returns-in-34 : goal.returns-in-34
returns-in-34 c =
    let cells = c.args.code.now.program.cells.now in
    let words = c.args.code.now.words.now in
    λ interval. by_number _ _ _ _ _ _ c.args.v c.args.registers.now _ 2 1 (omega arith) (omega arith) c.in-34.is
    c.register_at-in-34.ensures (c.of_registers.ensures (context_of cells words interval c.args.depth) tt)

pub returns-in-35 : goal.returns-in-35
returns-in-35 c =
    let cells = c.args.code.now.program.cells.now in
    let words = c.args.code.now.words.now in
    λ interval. by_number _ _ _ _ _ _ c.args.v c.args.registers.now _ 3 1 (omega arith) (omega arith) c.in-35.is
    c.register_at-in-35.ensures (c.of_registers-in-35.ensures (context_of cells words interval c.args.depth) tt)

pub returns-in-36 : goal.returns-in-36
returns-in-36 c =
    let cells = c.args.code.now.program.cells.now in
    let words = c.args.code.now.words.now in
    λ interval. by_number _ _ _ _ _ _ c.args.v c.args.registers.now _ 4 1 (omega arith) (omega arith) c.in-36.is
    c.register_at-in-36.ensures (c.of_registers-in-36.ensures (context_of cells words interval c.args.depth) tt)

pub returns-in-37 : goal.returns-in-37
returns-in-37 c =
    let cells = c.args.code.now.program.cells.now in
    let words = c.args.code.now.words.now in
    λ interval. by_number _ _ _ _ _ _ c.args.v c.args.registers.now _ 5 1 (omega arith) (omega arith) c.in-37.is
    c.register_at-in-37.ensures (c.of_registers-in-37.ensures (context_of cells words interval c.args.depth) (interval, refl))

pub returns-in-38 : goal.returns-in-38
returns-in-38 c =
    let cells = c.args.code.now.program.cells.now in
    let words = c.args.code.now.words.now in
    λ interval. by_number _ _ _ _ _ _ c.args.v c.args.registers.now _ 6 1 (omega arith) (omega arith) c.in-38.is
    c.register_at-in-38.ensures (c.of_registers-in-38.ensures (context_of cells words interval c.args.depth) (interval, refl))

pub returns-in-39 : goal.returns-in-39
returns-in-39 c =
    let cells = c.args.code.now.program.cells.now in
    let words = c.args.code.now.words.now in
    λ interval. by_number _ _ _ _ _ _ c.args.v c.args.registers.now _ 7 1 (omega arith) (omega arith) c.in-39.is
    c.register_at-in-39.ensures (c.of_registers-in-39.ensures (context_of cells words interval c.args.depth) tt)

pub returns-in-40 : goal.returns-in-40
returns-in-40 c =
    let cells = c.args.code.now.program.cells.now in
    let words = c.args.code.now.words.now in
    λ interval. by_number _ _ _ _ _ _ c.args.v c.args.registers.now _ 8 1 (omega arith) (omega arith) c.in-40.is
    c.register_at-in-40.ensures (c.of_registers-in-40.ensures (context_of cells words interval c.args.depth) tt)

pub returns-in-41 : goal.returns-in-41
returns-in-41 c =
    let cells = c.args.code.now.program.cells.now in
    let words = c.args.code.now.words.now in
    λ interval. by_number _ _ _ _ _ _ c.args.v c.args.registers.now _ 9 1 (omega arith) (omega arith) c.in-41.is
    c.register_at-in-41.ensures (c.fetch_register.ensures (program_of cells) (chosen interval) c.args.depth (in_register c.args.s))

pub returns-in-43 : goal.returns-in-43
returns-in-43 c =
    let cells = c.args.code.now.program.cells.now in
    let words = c.args.code.now.words.now in
    λ interval. by_number _ _ _ _ _ _ c.args.v c.args.registers.now _ 11 1 (omega arith) (omega arith) c.in-43.is
    c.register_at-in-43.ensures (c.allocate_register.ensures words (chosen interval) (in_register c.args.s))

pub returns-in_default : goal.returns-in_default
returns-in_default c =
    let rest : NoneOf c.args.arm of_register = search rules in
    λ interval. no_register _ _ _ _ _ _ rest (c.set_immediate.ensures interval)
