-- `set_immediate` meets its contract.
use Rattle.arms.specs.Arms.{context_of}
use mathlib.Core.Path.{refl}
use native.Mathlib.Omega.{arith}
use Rattle.image.specs.Layout.{program_of}
use Rattle.task.specs.Choices.{chosen}
use Rattle.arms.specs.Registers.{in_register}
use Rattle.arms.proofs.SetLaws.{by_number}
use Rattle.arms.proofs.setting.set_immediate.Goals as goal

pub returns-in-65 : goal.returns-in-65
returns-in-65 c =
    let cells = c.args.code.now.program.cells.now in
    let words = c.args.code.now.words.now in
    λ interval. by_number _ _ _ _ _ _ c.args.v c.args.registers.now _ 1 2 (omega arith) (omega arith) c.in-65.is
    c.register_at.ensures (c.move_value.ensures (context_of cells words interval c.args.depth) (in_register c.args.s))

pub returns-in-75 : goal.returns-in-75
returns-in-75 c =
    let cells = c.args.code.now.program.cells.now in
    let words = c.args.code.now.words.now in
    λ interval. by_number _ _ _ _ _ _ c.args.v c.args.registers.now _ 11 2 (omega arith) (omega arith) c.in-75.is
    c.register_at-in-75.ensures (c.allocate_label.ensures words (chosen interval) (in_register c.args.s))

pub returns-in-97 : goal.returns-in-97
returns-in-97 c =
    let cells = c.args.code.now.program.cells.now in
    let words = c.args.code.now.words.now in
    λ interval. by_number _ _ _ _ _ _ c.args.v c.args.registers.now _ 1 3 (omega arith) (omega arith) c.in-97.is
    c.register_at-in-97.ensures (c.move_value-in-97.ensures (context_of cells words interval c.args.depth) (in_register c.args.s))

pub returns-in-98 : goal.returns-in-98
returns-in-98 c =
    let cells = c.args.code.now.program.cells.now in
    let words = c.args.code.now.words.now in
    λ interval. by_number _ _ _ _ _ _ c.args.v c.args.registers.now _ 2 3 (omega arith) (omega arith) c.in-98.is
    c.register_at-in-98.ensures (c.of_number.ensures (context_of cells words interval c.args.depth) tt)

pub returns-in-99 : goal.returns-in-99
returns-in-99 c =
    let cells = c.args.code.now.program.cells.now in
    let words = c.args.code.now.words.now in
    λ interval. by_number _ _ _ _ _ _ c.args.v c.args.registers.now _ 3 3 (omega arith) (omega arith) c.in-99.is
    c.register_at-in-99.ensures (c.of_number-in-99.ensures (context_of cells words interval c.args.depth) tt)

pub returns-in-100 : goal.returns-in-100
returns-in-100 c =
    let cells = c.args.code.now.program.cells.now in
    let words = c.args.code.now.words.now in
    λ interval. by_number _ _ _ _ _ _ c.args.v c.args.registers.now _ 4 3 (omega arith) (omega arith) c.in-100.is
    c.register_at-in-100.ensures (c.of_number-in-100.ensures (context_of cells words interval c.args.depth) tt)

pub returns-in-101 : goal.returns-in-101
returns-in-101 c =
    let cells = c.args.code.now.program.cells.now in
    let words = c.args.code.now.words.now in
    λ interval. by_number _ _ _ _ _ _ c.args.v c.args.registers.now _ 5 3 (omega arith) (omega arith) c.in-101.is
    c.register_at-in-101.ensures (c.of_number-in-101.ensures (context_of cells words interval c.args.depth) (interval, refl))

pub returns-in-102 : goal.returns-in-102
returns-in-102 c =
    let cells = c.args.code.now.program.cells.now in
    let words = c.args.code.now.words.now in
    λ interval. by_number _ _ _ _ _ _ c.args.v c.args.registers.now _ 6 3 (omega arith) (omega arith) c.in-102.is
    c.register_at-in-102.ensures (c.of_number-in-102.ensures (context_of cells words interval c.args.depth) (interval, refl))

pub returns-in-103 : goal.returns-in-103
returns-in-103 c =
    let cells = c.args.code.now.program.cells.now in
    let words = c.args.code.now.words.now in
    λ interval. by_number _ _ _ _ _ _ c.args.v c.args.registers.now _ 7 3 (omega arith) (omega arith) c.in-103.is
    c.register_at-in-103.ensures (c.of_number-in-103.ensures (context_of cells words interval c.args.depth) tt)

pub returns-in-104 : goal.returns-in-104
returns-in-104 c =
    let cells = c.args.code.now.program.cells.now in
    let words = c.args.code.now.words.now in
    λ interval. by_number _ _ _ _ _ _ c.args.v c.args.registers.now _ 8 3 (omega arith) (omega arith) c.in-104.is
    c.register_at-in-104.ensures (c.of_number-in-104.ensures (context_of cells words interval c.args.depth) tt)

pub returns-in-105 : goal.returns-in-105
returns-in-105 c =
    let cells = c.args.code.now.program.cells.now in
    let words = c.args.code.now.words.now in
    λ interval. by_number _ _ _ _ _ _ c.args.v c.args.registers.now _ 9 3 (omega arith) (omega arith) c.in-105.is
    c.register_at-in-105.ensures (c.fetch_number.ensures (program_of cells) (chosen interval) c.args.depth (in_register c.args.s))
